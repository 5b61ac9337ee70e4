-- Unused room is never read: tables that are equal up to it have one dual, and get one reply.
-- Assumes nothing.
use mathlib.Core.Bool.{Bool, true, false}
use mathlib.Core.List.{List}
use mathlib.Core.Path.{◌≡◌, refl, sym, ap, ap₂, ◌∙◌}
use Prim.Native.Nat.{ℕ, ◌+◌, ◌<◌}
use native.Mathlib.Decide.{dec_lt}
use native.Mathlib.Omega.{arith}
use Rattle.rules.specs.Basics.{listed}
use Rattle.rules.specs.Numbers.{table_nodes_most}
use Rattle.rules.specs.Tables.{node_at, item_count, item_at, label_count, label_at, continuation, is_message, only_if, SameNode, SameTable}
use Rattle.rules.specs.Formed.{well_formed}
use Rattle.rules.specs.Dual.{turned_kind, is_session, hands_over_at, hands_over, moved_item, moved_label, remade, turned_node, original_node, originals, dual_count, dual}
use Rattle.rules.specs.Replies.{made, refused, dual_reply}
use Rattle.rules.proofs.Basics.{tests_same, some_below_true, some_below_at}
use Rattle.rules.proofs.Filling.{listed_equal}
use Rattle.rules.proofs.Formed.{well_formed_same}
use Rattle.rules.proofs.Means.{dual_not_formed, dual_large, dual_given}
use Rattle.rules.proofs.Tables.{same_table_sym}
use Rattle.table.specs.declared.Kind.{Kind}
use Rattle.table.specs.declared.Item.{Item}
use Rattle.table.specs.declared.Slot.{Slot}
use Rattle.table.specs.declared.Node.{Node}
use Rattle.table.specs.declared.Table.{Table}
use Rattle.table.specs.declared.answers.RefusalKind.TheVariants as kind

-- a node made anew
remade_same : {x y : Node} (k : Kind) (i m : ℕ) → SameNode x y → remade k i m x ≡ remade k i m y
unfolding remade
remade_same {x} {y} k i m S =
    let slot : Item → Slot = λ a. record { item = moved_item i a } in
    let items =
    listed_equal (item_count x) (item_count y) (λ j. slot (item_at x j)) (λ j. slot (item_at y j)) S.items
    (λ j l. ap slot (S.each_item j l)) in
    let labels =
    listed_equal (label_count x) (label_count y) (λ j. moved_label m (label_at x j)) (λ j. moved_label m (label_at y j)) S.labels
    (λ j l. ap (moved_label m) (S.each_label j l)) in
    let next : only_if (is_message x.kind) (continuation x + m) ≡ only_if (is_message y.kind) (continuation y + m) =
    ap₂ {C = ℕ} (λ (q : Kind) (n : ℕ). only_if (is_message q) (n + m)) S.kind S.goes_on in
    rw (items, labels, next, S.items, S.labels) refl

turned_alike : {x y : Node} (n : ℕ) → SameNode x y → turned_node n x ≡ turned_node n y
turned_alike {x} {y} n S = remade_same (turned_kind x.kind) n 0 S ∙ ap (λ (k : Kind). remade (turned_kind k) n 0 y) S.kind

original_alike : {x y : Node} (n : ℕ) → SameNode x y → original_node n x ≡ original_node n y
original_alike {x} {y} n S = remade_same x.kind n n S ∙ ap (λ (k : Kind). remade k n n y) S.kind

-- a session item of the one is one of the other
hands_over_at_same : {x y : Node} → SameNode x y → hands_over_at x ≡ true → hands_over_at y ≡ true
unfolding hands_over_at
hands_over_at_same {x} {y} S e =
    let p = some_below_true (item_count x) (λ j. is_session (item_at x j)) e in
    some_below_at (item_count y) (λ j. is_session (item_at y j)) p.0 (omega (arith, p.1, S.items))
    (ap is_session (sym (S.each_item p.0 p.1)) ∙ p.2)

hands_over_too : {t u : Table} → SameTable t u → hands_over t ≡ true → hands_over u ≡ true
unfolding hands_over
hands_over_too {t} {u} S e =
    let p = some_below_true t.count (λ i. hands_over_at (node_at t i)) e in
    some_below_at u.count (λ i. hands_over_at (node_at u i)) p.0 (omega (arith, p.1, S.count))
    (hands_over_at_same (S.each p.0 p.1) p.2)

module _ {t u : Table} (S : SameTable t u) where
  hands_over_same : hands_over t ≡ hands_over u
  hands_over_same = tests_same _ _ (hands_over_too S) (hands_over_too (same_table_sym S))

  turned_nodes_same :
      listed t.count (λ i. turned_node t.count (node_at t i)) ≡ listed u.count (λ i. turned_node u.count (node_at u i))
  turned_nodes_same =
      listed_equal t.count u.count (λ i. turned_node t.count (node_at t i)) (λ i. turned_node u.count (node_at u i)) S.count
      (λ i l. turned_alike t.count (S.each i l) ∙ ap (λ (n : ℕ). turned_node n (node_at u i)) S.count)

  originals_same : (b : Bool) → originals b t ≡ originals b u
  originals_same true =
      listed_equal t.count u.count (λ i. original_node t.count (node_at t i)) (λ i. original_node u.count (node_at u i)) S.count
      (λ i l. original_alike t.count (S.each i l) ∙ ap (λ (n : ℕ). original_node n (node_at u i)) S.count)
  originals_same false = refl

  pub dual_same : dual t ≡ dual u
  unfolding dual
  dual_same = rw (turned_nodes_same, hands_over_same, originals_same (hands_over u), S.count, S.start) refl

  pub dual_reply_same : (names : List ℕ) → dual_reply t names ≡ dual_reply u names
  dual_reply_same names = go (well_formed t names) refl (dec_lt table_nodes_most (dual_count (hands_over t) t.count))
    where
      formed_too : {b : Bool} → well_formed t names ≡ b → well_formed u names ≡ b
      formed_too e = sym (well_formed_same names S) ∙ e

      counts_same : dual_count (hands_over t) t.count ≡ dual_count (hands_over u) u.count
      counts_same = ap₂ {C = ℕ} dual_count hands_over_same S.count

      go :
          (b : Bool) → well_formed t names ≡ b → Dec (table_nodes_most < dual_count (hands_over t) t.count)
          → dual_reply t names ≡ dual_reply u names
      go false f d = dual_not_formed t names f ∙ sym (dual_not_formed u names (formed_too f))
      go true f (yes l) =
          dual_large t names f l ∙ ap (λ (n : ℕ). refused kind.DualTooLarge n) S.count
          ∙ sym (dual_large u names (formed_too f) (omega (arith, counts_same)))
      go true f (no l) =
          dual_given t names f (omega arith) ∙ ap made dual_same ∙ sym (dual_given u names (formed_too f) (omega (arith, counts_same)))

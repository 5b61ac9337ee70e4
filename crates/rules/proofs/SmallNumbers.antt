-- Every number that is printed is small: places stand inside a text, nodes inside the tables, details and steps below the most that
-- a choice has labels, and marks are counted among the pairs.
-- Assumes nothing.
use Rattle.std.specs.Prelude.{None, Some}
use mathlib.Core.Bool.{Bool, true, false, not}
use mathlib.Core.List.{List, [], ◌∷◌, ◌++◌, nil≢cons, head-eq_of_cons-eq, tail-eq_of_cons-eq}
use mathlib.Core.Path.{◌≡◌, refl, sym, ◌∙◌}
use Prim.Native.Nat.{ℕ, ◌<◌, ◌≤◌}
use native.Mathlib.Decide.{dec_lt}
use native.Mathlib.Nat.{min-le_left}
use native.Mathlib.Omega.{arith}
use lib.Dec.{eqb, leb}
use lib.ListN.{length, take, length-take}
use borrow.Author.Tests.{leb-false}
use Rattle.rules.specs.Basics.{first}
use Rattle.rules.specs.Numbers.{text_most, items_most, labels_most, table_nodes_most}
use Rattle.rules.specs.Tokens.{Token, Symbol, symbols, tokens}
use Rattle.rules.specs.Refusals.{Fault, long_text, no_text_has, none_may_end, at_token, undefined_name, round_name, OneOf}
use Rattle.rules.specs.Tables.{item_at, item_count, label_count}
use Rattle.rules.specs.Pairs.{Wrong, Pair, turns_most, reason, detail, or_else, unless, kind_number, kinds_differ, counts_differ, items_agree, item_differs, lacks, label_lacking, by_chooser, mismatch_of, mismatch_at, starts}
use Rattle.rules.specs.Runs.{Leads}
use Rattle.rules.specs.Replies.{Areas, Reads, NoRefusal, SaysYes, SaysNo, pair_count, refused}
use Rattle.rules.proofs.Agreement.{reads_long}
use Rattle.rules.proofs.Entries.{count_within}
use Rattle.rules.proofs.Exactly.{refused_by_kind}
use Rattle.rules.proofs.Formed.{FormedNode, WellFormed, formed}
use Rattle.rules.proofs.Links.{Each}
use Rattle.rules.proofs.NamesInOrder.{InOrder, no_more, taken, passed, uses_in_order, defined_in_order, symbol_word, one_first, one_later}
use Rattle.rules.proofs.OneReading.{one_reading}
use Rattle.rules.proofs.Replies.{refused_one}
use Rattle.rules.proofs.Runs.{starts_within, leads_within}
use Rattle.rules.proofs.Steps.{Within, step_within, step-numbered, left_formed, right_formed}
use Rattle.rules.proofs.TokenLists.{token_place}
use Rattle.rules.proofs.Unexpected.{token_numbers}
use Rattle.table.specs.declared.Kind.{Kind}
use Rattle.table.specs.declared.Kind.TheVariants.{End, Receive, Send, Branch, Choose}
use Rattle.table.specs.declared.Node.{Node}
use Rattle.table.specs.declared.Table.{Table}
use Rattle.table.specs.declared.answers.Found.{Found}
use Rattle.table.specs.declared.answers.Mismatch.{Mismatch}
use Rattle.table.specs.declared.answers.Mismatch.TheVariants as mismatch
use Rattle.rules.specs.Refusals.{number}
use Rattle.table.specs.declared.answers.RefusalKind.{RefusalKind}

-- A refusal. A token in the order of a text's words is one of its tokens.
in_order_among :
    {ts : List Token} {k : List Symbol} (us before after : List Token) (t : Token) → k ≡ symbols us → InOrder ts k
    → ts ≡ before ++ (t ∷ after) → OneOf t us
in_order_among us [] after t e no_more d = absurd (nil≢cons d)
in_order_among us (b ∷ before) after t e no_more d = absurd (nil≢cons d)
in_order_among [] before after t e (taken h) d = absurd (nil≢cons (sym e))
in_order_among (u ∷ us) [] after t e (taken {w} h) d =
    let q : u ≡ t = symbol_word u w (head-eq_of_cons-eq (sym e)) ∙ head-eq_of_cons-eq d in rw (← q) (one_first u us)
in_order_among (u ∷ us) (b ∷ before) after t e (taken h) d =
    one_later u (in_order_among us before after t (tail-eq_of_cons-eq e) h (tail-eq_of_cons-eq d))
in_order_among [] before after t e (passed h) d = absurd (nil≢cons (sym e))
in_order_among (u ∷ us) before after t e (passed h) d = one_later u (in_order_among us before after t (tail-eq_of_cons-eq e) h d)

name_inside : (s : List ℕ) {ts : List Token} (t : Token) → InOrder ts (symbols (tokens s)) → OneOf t ts → t.at < length s
name_inside s t h o =
    let m = in_order_among (tokens s) o.before o.after t refl h o.split in
    token_place s m.before m.after t m.split

module _ {s : List ℕ} where
  fault_small : {n p : ℕ} → Fault s n p → (n < 10) × (p ≤ length s)
  fault_small (long_text l) = (omega arith, omega arith)
  fault_small (no_text_has {done} {t} S c f) = (omega arith, omega (arith, token_place s done S.rest t S.split))
  fault_small (none_may_end c f) = (omega arith, omega arith)
  fault_small (at_token {done} {t} S f) =
      (omega (arith, (token_numbers f).1), omega (arith, token_place s done S.rest t S.split))
  fault_small (undefined_name {x} {t} w o e) =
      (omega arith, omega (arith, name_inside s t (rw w.written at (uses_in_order x)) o))
  fault_small (round_name {x} {t} w o e) =
      (omega arith, omega (arith, name_inside s t (rw w.written at (defined_in_order x)) o))

  pub refusal_small : {k : RefusalKind} {p : ℕ} → Reads s (refused k p) → (number k < 10) × (p ≤ text_most)
  refusal_small {k} {p} r = go (dec_lt text_most (length s)) (fault_small ((refused_by_kind s k p).0 r).0)
    where
      go : Dec (text_most < length s) → (number k < 10) × (p ≤ length s) → (number k < 10) × (p ≤ text_most)
      go (yes l) h = let e = refused_one (one_reading r (reads_long l)) in (h.0, omega (arith, e.1))
      go (no l) h = (h.0, omega (arith, h.1))

-- A yes.
module _ {new : Table} {new_names : List ℕ} {old : Table} {old_names : List ℕ} {before after : Areas} where
  pub count_small : {count : ℕ} → SaysYes new new_names old old_names before after count → count ≤ pair_count new old
  count_small Y =
      let N = pair_count new old in
      let m = after.marks in
      omega (arith, Y.counted, count_within (take N m), length-take N m, min-le_left N (length m))

-- A no: its reason,
reason_small : (m : Wrong) → reason m < 24
reason_small None = omega arith
reason_small (Some mismatch.Kinds) = omega arith
reason_small (Some mismatch.Counts) = omega arith
reason_small (Some (mismatch.Item i)) = omega arith
reason_small (Some (mismatch.Label i)) = omega arith

-- its detail,
abbrev Small : Wrong → Type 0
Small m = detail m < labels_most

or_else_small : (a b : Wrong) → Small a → Small b → Small (or_else a b)
or_else_small None b f g = g
or_else_small (Some w) b f g = f

unless_small : (b : Bool) (w : Mismatch) → (b ≡ false → Small (Some w)) → Small (unless b w)
unless_small true w f = omega arith
unless_small false w f = f refl

chooser_small : (k : Kind) (a b : Wrong) → Small a → Small b → Small (by_chooser k a b)
chooser_small End a b f g = g
chooser_small Receive a b f g = g
chooser_small Send a b f g = g
chooser_small Branch a b f g = f
chooser_small Choose a b f g = g

module _ (x y : Node) where
  kinds_small : Small (kinds_differ x y)
  unfolding kinds_differ
  kinds_small = unless_small (eqb (kind_number x.kind) (kind_number y.kind)) mismatch.Kinds (λ e. omega arith)

  counts_small : Small (counts_differ x y)
  unfolding counts_differ
  counts_small = unless_small (eqb (item_count x) (item_count y)) mismatch.Counts (λ e. omega arith)

  items_small : item_count x ≤ items_most → Small (item_differs x y)
  unfolding item_differs
  items_small few =
      let n = item_count x in
      let i = first n (λ i. not (items_agree (item_at x i) (item_at y i))) in
      unless_small (leb n i) (mismatch.Item i) (λ e. omega (arith, leb-false n i e))

  lacking_small : (xs ys : List ℕ) → label_count x ≤ labels_most → Small (label_lacking x xs y ys)
  unfolding label_lacking
  lacking_small xs ys few =
      let n = label_count x in
      let i = first n (lacks x xs y ys) in
      unless_small (leb n i) (mismatch.Label i) (λ e. omega (arith, leb-false n i e))

nodes_small :
    {n m : ℕ} (x : Node) {xs : List ℕ} (y : Node) {ys : List ℕ} → FormedNode n xs x → FormedNode m ys y
    → Small (mismatch_of x xs y ys)
unfolding mismatch_of
nodes_small x {xs} y {ys} fx fy =
    let labels = by_chooser x.kind (label_lacking x xs y ys) (label_lacking y ys x xs) in
    or_else_small (kinds_differ x y) (or_else (counts_differ x y) (or_else (item_differs x y) labels)) (kinds_small x y)
    (or_else_small (counts_differ x y) (or_else (item_differs x y) labels) (counts_small x y)
    (or_else_small (item_differs x y) labels (items_small x y fx.message.few_items)
    (chooser_small x.kind (label_lacking x xs y ys) (label_lacking y ys x xs) (lacking_small x y xs ys fx.choice.few_labels)
    (lacking_small y x ys xs fy.choice.few_labels))))

module _ {new : Table} {new_names : List ℕ} {old : Table} {old_names : List ℕ} (new_formed : WellFormed new new_names) (old_formed : WellFormed old old_names) where
  detail_small : (p : Pair) → Within new old p → Small (mismatch_at new new_names old old_names p)
  unfolding mismatch_at
  detail_small p w =
      let x = new_formed.each p.new w.new_below in
      let y = old_formed.each p.old w.old_below in
      nodes_small _ _ (left_formed p.turn x y) (right_formed p.turn x y)

  -- its steps,
  leads_small :
      (r : List ℕ) (p q : Pair) → Within new old p → Leads new new_names old old_names p r q → Each (λ s. s < labels_most) r
  leads_small [] p q w L = tt
  leads_small (s ∷ r) p q w L =
      (step-numbered new_formed old_formed w L.1, leads_small r L.0 q (step_within new_formed old_formed w L.1) L.2)

-- and its nodes and its turn
pub record SmallFound (f : Found) : Type 0 where
  pub reason : f.reason < 24
  pub detail : f.detail < labels_most
  pub new : f.new < table_nodes_most
  pub old : f.old < table_nodes_most
  pub turn : f.turn < turns_most

module _ {new : Table} {new_names : List ℕ} {old : Table} {old_names : List ℕ} {before after : Areas} {found : Found} (F : NoRefusal new new_names old old_names before) (X : SaysNo new new_names old old_names before after found) where
  pub found_small : SmallFound found
  found_small =
      let a = formed F.new_formed in
      let b = formed F.old_formed in
      let w = leads_within a b X.run (starts new old) X.end (starts_within a b) X.runs in
      rw X.returned
      (record {
        reason = reason_small (mismatch_at new new_names old old_names X.end);
        detail = detail_small a b X.end w;
        new = omega (arith, w.new_below, a.few_nodes);
        old = omega (arith, w.old_below, b.few_nodes);
        turn = w.turn_below;
      })

  pub steps_small : Each (λ s. s < labels_most) X.run
  steps_small =
      let a = formed F.new_formed in
      let b = formed F.old_formed in
      leads_small a b X.run (starts new old) X.end (starts_within a b) X.runs

-- The dual's dual of a table without session items is the table, up to unused room.
-- Assumes nothing.
use mathlib.Core.Bool.{Bool, true, false, false≢true}
use mathlib.Core.Path.{◌≡◌, refl, sym, ap, ◌∙◌}
use mathlib.Mathlib.Data.Bool.Basic.{Bool-eq-false}
use Prim.Native.Nat.{ℕ, ◌<◌}
use native.Mathlib.Nat.{add-zero}
use native.Mathlib.Omega.{arith}
use Rattle.rules.specs.Tables.{node_at, item_count, item_at, label_count, label_at, continuation, is_message, SameNode, SameTable}
use Rattle.rules.specs.Dual.{turned_kind, is_session, hands_over, hands_over_at, moved_item, moved_label, turned_node, dual}
use Rattle.rules.proofs.Basics.{some_below_true}
use Rattle.rules.proofs.Remade.{Likewise, turned_twice, turned_likewise, turned_kinds, dual_start, dual_size, dual-turned, session_somewhere, moved-session}
use Rattle.table.specs.declared.Item.{Item}
use Rattle.table.specs.declared.Item.TheVariants.{OfSort, Session}
use Rattle.table.specs.declared.Label.{Label}
use Rattle.table.specs.declared.Node.{Node}
use Rattle.table.specs.declared.Table.{Table}

-- a link that is none more is the link; an item that is no session has no link
label_stays : (l : Label) → moved_label 0 l ≡ l
label_stays l = ap (λ (k : ℕ). record { at = l.at; len = l.len; to = k }) (add-zero l.to)

item_stays : (n : ℕ) (a : Item) → ((k : ℕ) → a ≡ Session k → ⊥) → moved_item n a ≡ a
item_stays n (OfSort s) h = refl
item_stays n (Session k) h = absurd (h k refl)

-- a node without session items, turned and turned again
module _ (n m : ℕ) (x : Node) (none : (j k : ℕ) → j < item_count x → item_at x j ≡ Session k → ⊥) where
  turned_back : SameNode (turned_node m (turned_node n x)) x
  turned_back =
      record {
        kind = turned_kinds m (turned_node n x) ∙ ap turned_kind (turned_kinds n x) ∙ turned_twice x.kind;
        items = S.items ∙ T.items;
        each_item = λ j l. let h : j < item_count x = omega (arith, S.items, T.items) in each_item j h;
        labels = S.labels ∙ T.labels;
        each_label = λ j l. let h : j < label_count x = omega (arith, S.labels, T.labels) in each_label j h;
        goes_on = goes_on (is_message x.kind) refl;
      }
    where
      T : Likewise n 0 x (turned_node n x)
      T = turned_likewise n x

      S : Likewise m 0 (turned_node n x) (turned_node m (turned_node n x))
      S = turned_likewise m (turned_node n x)

      each_item : (j : ℕ) → j < item_count x → item_at (turned_node m (turned_node n x)) j ≡ item_at x j
      each_item j l =
          let stays : (p : ℕ) → moved_item p (item_at x j) ≡ item_at x j = λ p. item_stays p (item_at x j) (λ k. none j k l) in
          S.each_item j (omega (arith, T.items)) ∙ ap (moved_item m) (T.each_item j l ∙ stays n) ∙ stays m

      each_label : (j : ℕ) → j < label_count x → label_at (turned_node m (turned_node n x)) j ≡ label_at x j
      each_label j l =
          S.each_label j (omega (arith, T.labels)) ∙ label_stays (label_at (turned_node n x) j) ∙ T.each_label j l ∙ label_stays (label_at x j)

      goes_on : (b : Bool) → is_message x.kind ≡ b → continuation (turned_node m (turned_node n x)) ≡ continuation x
      goes_on true e = omega (arith, S.goes_on (T.message ∙ e), T.goes_on e)
      goes_on false e = rw (S.message ∙ T.message ∙ e, e) refl

module _ (t : Table) (e : hands_over t ≡ false) where
  none_at : (i : ℕ) → i < t.count → (j k : ℕ) → j < item_count (node_at t i) → item_at (node_at t i) j ≡ Session k → ⊥
  none_at i l j k m s = false≢true (sym e ∙ session_somewhere t i j k l m s)

  -- a session item of the dual would be one of the table
  dual_without : hands_over (dual t) ≡ false
  unfolding hands_over hands_over_at
  dual_without =
      Bool-eq-false
      (λ h.
      let p = some_below_true (dual t).count (λ i. hands_over_at (node_at (dual t) i)) h in
      let q = some_below_true (item_count (node_at (dual t) p.0)) (λ j. is_session (item_at (node_at (dual t) p.0) j)) p.2 in
      at_node p.0 (omega (arith, p.1, dual_size t e)) q.0 q.1 q.2)
    where
      session : (a : Item) → is_session a ≡ true → (k : ℕ) × (a ≡ Session k)
      session (OfSort s) h = absurd (false≢true h)
      session (Session k) h = (k, refl)

      at_node :
          (i : ℕ) → i < t.count → (j : ℕ) → j < item_count (node_at (dual t) i) → is_session (item_at (node_at (dual t) i) j) ≡ true → ⊥
      at_node i l j m h =
          let T : Likewise t.count 0 (node_at t i) (node_at (dual t) i) = rw (dual-turned t i l) (turned_likewise t.count (node_at t i)) in
          let n : j < item_count (node_at t i) = omega (arith, T.items) in
          let s = session (item_at (node_at (dual t) i) j) h in
          let o = moved-session t.count (item_at (node_at t i) j) s.0 (sym (T.each_item j n) ∙ s.1) in
          none_at i l j o.0 n o.1

  pub dual_twice : SameTable (dual (dual t)) t
  dual_twice =
      record {
        count = dual_size (dual t) dual_without ∙ dual_size t e;
        start = dual_start (dual t) ∙ dual_start t;
        each =
            λ i l.
            let m : i < (dual t).count = omega (arith, dual_size (dual t) dual_without) in
            let n : i < t.count = omega (arith, dual_size t e) in
            rw (dual-turned (dual t) i m, dual-turned t i n) (turned_back t.count (dual t).count (node_at t i) (none_at i n));
      }

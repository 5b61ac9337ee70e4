-- The dual of a well formed table is well formed with the same name bytes, where 128 nodes are enough for it.
-- Assumes nothing.
use mathlib.Core.Bool.{Bool, true, false, false≢true}
use mathlib.Core.List.{List}
use mathlib.Core.Path.{◌≡◌, refl, sym, ap, ◌∙◌}
use Prim.Native.Nat.{ℕ, ◌+◌, ◌-◌, ◌<◌, ◌≤◌}
use native.Mathlib.Decide.{dec_lt}
use native.Mathlib.Omega.{arith}
use Rattle.rules.specs.Numbers.{table_nodes_most}
use Rattle.rules.specs.Tables.{node_at, item_count, item_at, label_count, is_message, spelling, spelling_at}
use Rattle.rules.specs.Formed.{well_formed}
use Rattle.rules.specs.Dual.{hands_over, dual}
use Rattle.rules.proofs.Formed.{FormedMessage, FormedChoice, FormedNode, WellFormed, no_message, formed, formed_true}
use Rattle.rules.proofs.Remade.{Likewise, turned_likewise, original_likewise, dual_start, dual_size, dual-turned, dual-original, session_somewhere, moved-session}
use Rattle.table.specs.declared.Item.TheVariants.{Session}
use Rattle.table.specs.declared.Node.{Node}
use Rattle.table.specs.declared.Table.{Table}

-- A node that says what one of n nodes says, its links moved, is formed among the c nodes that the moved links stay within.
module _ {i m n c : ℕ} {names : List ℕ} {x y : Node} (S : Likewise i m x y) (f : FormedNode n names x) (room : n + m ≤ c) where
  likewise_spelled : (j : ℕ) → j < label_count y → spelling_at y names j ≡ spelling_at x names j
  likewise_spelled j l = ap (spelling names) (S.each_label j (omega (arith, S.labels)))

  likewise_message : 1 ≤ c → ((j k : ℕ) → j < item_count x → item_at x j ≡ Session k → k + i < c) → FormedMessage c y
  likewise_message some links = go (is_message x.kind) refl
    where
      item_links : (j k : ℕ) → j < item_count y → item_at y j ≡ Session k → k < c
      item_links j k l e =
          let h : j < item_count x = omega (arith, S.items) in
          let s = moved-session i (item_at x j) k (sym (S.each_item j h) ∙ e) in
          omega (arith, s.2, links j s.0 h s.1)

      go : (b : Bool) → is_message x.kind ≡ b → FormedMessage c y
      go true e =
          record {
            few_items = omega (arith, S.items, f.message.few_items);
            item_links = item_links;
            goes_on = omega (arith, S.goes_on e, f.message.goes_on);
          }
      go false e = no_message some (S.message ∙ e)

  likewise_choice : FormedChoice c names y
  likewise_choice =
      record {
        some_label = λ e. omega (arith, S.labels, f.choice.some_label (sym S.choice ∙ e));
        few_labels = omega (arith, S.labels, f.choice.few_labels);
        label_links = λ j l. rw (S.each_label j (below j l)) (omega (arith, f.choice.label_links j (below j l)));
        label_inside = λ j l. rw (S.each_label j (below j l)) (f.choice.label_inside j (below j l));
        label_named = λ j l. rw (likewise_spelled j l) (f.choice.label_named j (below j l));
        label_once =
            λ j k l h e.
            f.choice.label_once j k (below j l) (below k h) (sym (likewise_spelled j l) ∙ e ∙ likewise_spelled k h);
      }
    where
      below : (j : ℕ) → j < label_count y → j < label_count x
      below j l = omega (arith, S.labels)

  likewise_formed : 1 ≤ c → ((j k : ℕ) → j < item_count x → item_at x j ≡ Session k → k + i < c) → FormedNode c names y
  likewise_formed some links = record { message = likewise_message some links; choice = likewise_choice }

module _ {t : Table} {names : List ℕ} (w : WellFormed t names) where
  -- no session item, so none has to be linked
  without : hands_over t ≡ false → (dual t).count ≤ table_nodes_most → WellFormed (dual t) names
  without e few =
      let n = dual_size t e in
      record {
        some_node = omega (arith, n, w.some_node);
        few_nodes = few;
        begins = omega (arith, n, dual_start t, w.begins);
        each =
            λ i l.
            let h : i < t.count = omega (arith, n) in
            rw (n, dual-turned t i h)
            (likewise_formed (turned_likewise t.count (node_at t i)) (w.each i h) (omega arith) w.some_node
            (λ j k m s. absurd (false≢true (sym e ∙ session_somewhere t i j k h m s))));
      }

  -- session items link to the originals
  with_items : hands_over t ≡ true → (dual t).count ≤ table_nodes_most → WellFormed (dual t) names
  with_items e few =
      record {
        some_node = omega (arith, n, w.some_node);
        few_nodes = few;
        begins = omega (arith, n, dual_start t, w.begins);
        each = λ i l. rw n (by_half i (dec_lt i t.count) (omega (arith, n)));
      }
    where
      n : (dual t).count ≡ t.count + t.count
      n = dual_size t e

      links :
          (i : ℕ) → i < t.count → (j k : ℕ) → j < item_count (node_at t i) → item_at (node_at t i) j ≡ Session k
          → k + t.count < t.count + t.count
      links i h j k m s = omega (arith, (w.each i h).message.item_links j k m s)

      second : (i : ℕ) → i < t.count → FormedNode (t.count + t.count) names (node_at (dual t) (i + t.count))
      second i h =
          rw (dual-original t e i h)
          (likewise_formed (original_likewise t.count (node_at t i)) (w.each i h) (omega arith) (omega (arith, w.some_node)) (links i h))

      by_half : (i : ℕ) → Dec (i < t.count) → i < t.count + t.count → FormedNode (t.count + t.count) names (node_at (dual t) i)
      by_half i (yes h) l =
          rw (dual-turned t i h)
          (likewise_formed (turned_likewise t.count (node_at t i)) (w.each i h) (omega arith) (omega (arith, w.some_node)) (links i h))
      by_half i (no h) l =
          let p : i ≡ (i - t.count) + t.count = omega arith in
          rw p (second (i - t.count) (omega arith))

pub dual_formed :
    (t : Table) (names : List ℕ) → well_formed t names ≡ true → (dual t).count ≤ table_nodes_most → well_formed (dual t) names ≡ true
dual_formed t names f few = formed_true (go (hands_over t) refl)
  where
    go : (b : Bool) → hands_over t ≡ b → WellFormed (dual t) names
    go true e = with_items (formed f) e few
    go false e = without (formed f) e few

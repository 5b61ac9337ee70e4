-- The tests of ../specs/Formed one at a time: what each of them settles, and what is left when the others pass.
-- Assumes nothing.
use mathlib.Core.Bool.{true, false, and-true, and-false}
use mathlib.Core.List.{List}
use mathlib.Core.Path.{◌≡◌}
use mathlib.Mathlib.Data.Bool.Basic.{and_intro}
use Prim.Native.Nat.{ℕ, ◌<◌, ◌≤◌, ◌+◌}
use lib.ListN.{length}
use borrow.Author.Tests.{le-leb, lt-leb, lt-ltb, le-ltb}
use Rattle.rules.specs.Basics.{every}
use Rattle.rules.specs.Words.{may_name}
use Rattle.rules.specs.Numbers.{items_most, labels_most, table_nodes_most}
use Rattle.rules.specs.Tables.{node_at, item_at, item_count, label_at, label_count, continuation, spelling}
use Rattle.rules.specs.Formed.{item_formed, label_formed, label_new, message_formed, choice_formed, formed_by, node_formed, well_formed}
use Rattle.rules.proofs.Basics.{every_all, every_false}
use Rattle.table.specs.declared.Kind.{Kind}
use Rattle.table.specs.declared.Label.{Label}
use Rattle.table.specs.declared.Node.{Node}
use Rattle.table.specs.declared.Table.{Table}

module _ (n : ℕ) (x : Node) where
  pub message_formed_many : items_most < item_count x → message_formed n x ≡ false
  unfolding message_formed
  message_formed_many l = rw (lt-leb (item_count x) items_most l)

  pub message_formed_outside : n ≤ continuation x → message_formed n x ≡ false
  unfolding message_formed
  message_formed_outside l = rw (le-ltb (continuation x) n l, and-false)

  pub message_formed_items :
      item_count x ≤ items_most → continuation x < n
      → message_formed n x ≡ every (item_count x) (λ i. item_formed n (item_at x i))
  unfolding message_formed
  message_formed_items l m = rw (le-leb (item_count x) items_most l, lt-ltb (continuation x) n m, and-true)

module _ (n : ℕ) (names : List ℕ) (l : Label) where
  pub label_formed_outside : length names < l.at + l.len → label_formed n names l ≡ false
  unfolding label_formed
  label_formed_outside h = rw (lt-leb (l.at + l.len) (length names) h)

  pub label_formed_astray : n ≤ l.to → label_formed n names l ≡ false
  unfolding label_formed
  label_formed_astray h = rw (le-ltb l.to n h, and-false)

  pub label_formed-name : l.at + l.len ≤ length names → l.to < n → label_formed n names l ≡ may_name (spelling names l)
  unfolding label_formed
  label_formed-name h g = rw (le-leb (l.at + l.len) (length names) h, lt-ltb l.to n g, and-true)

module _ (n : ℕ) (names : List ℕ) (x : Node) where
  pub choice_formed_none : label_count x < 1 → choice_formed n names x ≡ false
  unfolding choice_formed
  choice_formed_none h = rw (lt-leb 1 (label_count x) h)

  pub choice_formed_many : labels_most < label_count x → choice_formed n names x ≡ false
  unfolding choice_formed
  choice_formed_many h = rw (lt-leb (label_count x) labels_most h, and-false)

  pub choice_formed-label :
      every (label_count x) (λ i. label_formed n names (label_at x i)) ≡ false → choice_formed n names x ≡ false
  unfolding choice_formed
  choice_formed-label h = rw (h, and-false)

  pub choice_formed_labels :
      1 ≤ label_count x → label_count x ≤ labels_most → every (label_count x) (λ i. label_formed n names (label_at x i)) ≡ true
      → choice_formed n names x ≡ every (label_count x) (label_new x names)
  unfolding choice_formed
  choice_formed_labels h g e = rw (le-leb 1 (label_count x) h, le-leb (label_count x) labels_most g, e)

  -- a node is formed as its kind asks
  pub node_formed_kind : (k : Kind) → x.kind ≡ k → node_formed n names x ≡ formed_by k n names x
  unfolding node_formed
  node_formed_kind k e = rw e

module _ (t : Table) (names : List ℕ) where
  pub well_formed_none : t.count < 1 → well_formed t names ≡ false
  unfolding well_formed
  well_formed_none h = rw (lt-leb 1 t.count h)

  pub well_formed_many : table_nodes_most < t.count → well_formed t names ≡ false
  unfolding well_formed
  well_formed_many h = rw (lt-leb t.count table_nodes_most h, and-false)

  pub well_formed_start : t.count ≤ t.start → well_formed t names ≡ false
  unfolding well_formed
  well_formed_start h = rw (le-ltb t.start t.count h, and-false)

  pub well_formed_node :
      (i : ℕ) → i < t.count → node_formed t.count names (node_at t i) ≡ false → well_formed t names ≡ false
  unfolding well_formed
  well_formed_node i l e =
      rw (every_false t.count (λ i. node_formed t.count names (node_at t i)) i l e, and-false)

  pub well_formed_nodes :
      1 ≤ t.count → t.count ≤ table_nodes_most → t.start < t.count
      → ((i : ℕ) → i < t.count → node_formed t.count names (node_at t i) ≡ true) → well_formed t names ≡ true
  unfolding well_formed
  well_formed_nodes some few begins each =
      and_intro (and_intro (and_intro (le-leb _ _ some) (le-leb _ _ few)) (lt-ltb _ _ begins))
      (every_all t.count (λ i. node_formed t.count names (node_at t i)) each)

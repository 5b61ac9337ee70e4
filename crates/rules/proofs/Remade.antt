-- The nodes of a dual: each says what the node that it was made from says, with other links (`Likewise`), and stands at its number.
-- Assumes nothing.
use mathlib.Core.Bool.{Bool, true, false}
use mathlib.Core.Path.{◌≡◌, refl, ap}
use Prim.Native.Nat.{ℕ, ◌+◌, ◌<◌}
use native.Mathlib.Omega.{arith}
use Rattle.rules.specs.Numbers.{items_most, labels_most, table_nodes_most}
use Rattle.rules.specs.Tables.{no_node, blank_slot, blank_label, blank_node, node_at, item_count, item_at, label_count, label_at, continuation, is_message, is_choice, only_if}
use Rattle.rules.specs.Dual.{turned_kind, is_session, hands_over_at, hands_over, moved_item, moved_label, remade, turned_node, original_node, originals, dual_count, dual}
use Rattle.rules.proofs.Basics.{some_below_at}
use Rattle.rules.proofs.Filling.{fill-listed_at, first_of_two, second_of_two}
use Rattle.table.specs.declared.Kind.{Kind}
use Rattle.table.specs.declared.Kind.TheVariants.{End, Receive, Send, Branch, Choose}
use Rattle.table.specs.declared.Item.{Item}
use Rattle.table.specs.declared.Item.TheVariants.{OfSort, Session}
use Rattle.table.specs.declared.Slot.{Slot}
use Rattle.table.specs.declared.Node.{Node}
use Rattle.table.specs.declared.Table.{Table}

pub turned_twice : (k : Kind) → turned_kind (turned_kind k) ≡ k
turned_twice End = refl
turned_twice Receive = refl
turned_twice Send = refl
turned_twice Branch = refl
turned_twice Choose = refl

pub turned_message : (k : Kind) → is_message (turned_kind k) ≡ is_message k
turned_message End = refl
turned_message Receive = refl
turned_message Send = refl
turned_message Branch = refl
turned_message Choose = refl

pub turned_choice : (k : Kind) → is_choice (turned_kind k) ≡ is_choice k
turned_choice End = refl
turned_choice Receive = refl
turned_choice Send = refl
turned_choice Branch = refl
turned_choice Choose = refl

-- node y says what node x says, where session items link i more, labels and the continuation m more
pub record Likewise (i m : ℕ) (x y : Node) : Type 0 where
  pub message : is_message y.kind ≡ is_message x.kind
  pub choice : is_choice y.kind ≡ is_choice x.kind
  pub items : item_count y ≡ item_count x
  pub each_item : (j : ℕ) → j < item_count x → item_at y j ≡ moved_item i (item_at x j)
  pub labels : label_count y ≡ label_count x
  pub each_label : (j : ℕ) → j < label_count x → label_at y j ≡ moved_label m (label_at x j)
  pub goes_on : is_message x.kind ≡ true → continuation y ≡ continuation x + m

-- a number that counts only where a test holds, asked for again
only_if-again : (b : Bool) (n : ℕ) → only_if b (only_if b n) ≡ only_if b n
only_if-again true n = refl
only_if-again false n = refl

module _ (k : Kind) (i m : ℕ) (x : Node) (a : is_message k ≡ is_message x.kind) (b : is_choice k ≡ is_choice x.kind) where
  pub remade_likewise : Likewise i m x (remade k i m x)
  unfolding remade
  remade_likewise =
      record {
        message = a;
        choice = b;
        items = rw a (only_if-again (is_message x.kind) x.item_count);
        each_item =
            λ j l.
            ap (λ (s : Slot). s.item)
            (fill-listed_at items_most blank_slot blank_slot (item_count x) (λ j. record { item = moved_item i (item_at x j) }) j l);
        labels = rw b (only_if-again (is_choice x.kind) x.label_count);
        each_label =
            λ j l. fill-listed_at labels_most blank_label blank_label (label_count x) (λ j. moved_label m (label_at x j)) j l;
        goes_on = λ e. rw (a, e);
      }

pub turned_likewise : (n : ℕ) (x : Node) → Likewise n 0 x (turned_node n x)
turned_likewise n x = remade_likewise (turned_kind x.kind) n 0 x (turned_message x.kind) (turned_choice x.kind)

pub original_likewise : (n : ℕ) (x : Node) → Likewise n n x (original_node n x)
original_likewise n x = remade_likewise x.kind n n x refl refl

pub turned_kinds : (n : ℕ) (x : Node) → (turned_node n x).kind ≡ turned_kind x.kind
unfolding remade
turned_kinds n x = refl

pub original_kinds : (n : ℕ) (x : Node) → (original_node n x).kind ≡ x.kind
unfolding remade
original_kinds n x = refl

-- the numbers of a table's dual
pub dual_start : (t : Table) → (dual t).start ≡ t.start
unfolding dual
dual_start t = refl

pub dual_size : (t : Table) {b : Bool} → hands_over t ≡ b → (dual t).count ≡ dual_count b t.count
unfolding dual
dual_size t e = ap (λ (b : Bool). dual_count b t.count) e

module _ (t : Table) where
  abbrev turned : ℕ → Node
  turned i = turned_node t.count (node_at t i)

  abbrev original : ℕ → Node
  original i = original_node t.count (node_at t i)

  pub dual-turned : (i : ℕ) → i < t.count → node_at (dual t) i ≡ turned_node t.count (node_at t i)
  unfolding dual
  dual-turned i l = first_of_two table_nodes_most no_node blank_node t.count turned (originals (hands_over t) t) i l

  pub dual-original :
      hands_over t ≡ true → (i : ℕ) → i < t.count → node_at (dual t) (i + t.count) ≡ original_node t.count (node_at t i)
  unfolding dual
  dual-original e i l = rw e (second_of_two table_nodes_most no_node blank_node t.count t.count turned original i l)

  -- whoever has a session item is a table that hands over
  pub session_somewhere :
      (i j k : ℕ) → i < t.count → j < item_count (node_at t i) → item_at (node_at t i) j ≡ Session k → hands_over t ≡ true
  unfolding hands_over hands_over_at
  session_somewhere i j k l m e =
      some_below_at t.count (λ i. hands_over_at (node_at t i)) i l
      (some_below_at (item_count (node_at t i)) (λ j. is_session (item_at (node_at t i) j)) j m (ap is_session e))

-- the session that an item is, after it was moved
pub moved-session : (i : ℕ) (a : Item) (k : ℕ) → moved_item i a ≡ Session k → (l : ℕ) × (a ≡ Session l) × (k ≡ l + i)
moved-session i (OfSort s) k e = let z : ◌≡◌ {A = ℕ} 0 1 = cc in absurd (omega arith)
moved-session i (Session l) k e = (l, refl, cc)

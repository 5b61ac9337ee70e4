-- Document 01, "The table": what a table says. Whatever is read of a node is its kind, or one of the functions below, and items and labels
-- count only below their counts; so room that a node's kind or the counts leave unused is never read.
-- Assumes nothing.
use Rattle.std.specs.Prelude.{Bool, true, false, List, [], ◌≡◌, ℕ, ◌<◌, get_or, replicate}
use Rattle.rules.specs.Basics.{part}
use Rattle.rules.specs.Numbers.{items_most, labels_most, table_nodes_most}
use Rattle.table.specs.declared.Sort.TheVariants.{String}
use Rattle.table.specs.declared.Kind.{Kind}
use Rattle.table.specs.declared.Kind.TheVariants.{End, Receive, Send, Branch, Choose}
use Rattle.table.specs.declared.Item.{Item}
use Rattle.table.specs.declared.Item.TheVariants.{OfSort}
use Rattle.table.specs.declared.Slot.{Slot}
use Rattle.table.specs.declared.Label.{Label}
use Rattle.table.specs.declared.Node.{Node}
use Rattle.table.specs.declared.Table.{Table}

-- "whatever makes a table fills it with 0 (`end`, `string`)"
abbrev pub blank_slot : Slot
blank_slot = record { item = OfSort String }

abbrev pub blank_label : Label
blank_label = record { at = 0; len = 0; to = 0 }

abbrev pub blank_items : List Slot
blank_items = replicate items_most blank_slot

abbrev pub blank_labels : List Label
blank_labels = replicate labels_most blank_label

abbrev pub blank_node : Node
blank_node = record { kind = End; items = blank_items; item_count = 0; labels = blank_labels; label_count = 0; next = 0 }

-- "Beside a refusal the table has no nodes and start 0."
abbrev pub blank_table : Table
blank_table = record { nodes = replicate table_nodes_most blank_node; count = 0; start = 0 }

-- What is read past the end of the array of nodes. (It has no room to fill, and is what the prover has for such a read.)
abbrev pub no_node : Node
no_node = record { kind = End; items = []; item_count = 0; labels = []; label_count = 0; next = 0 }

abbrev pub node_at : Table → ℕ → Node
node_at t i = get_or t.nodes i no_node

abbrev pub is_message : Kind → Bool
is_message End = false
is_message Receive = true
is_message Send = true
is_message Branch = false
is_message Choose = false

abbrev pub is_choice : Kind → Bool
is_choice End = false
is_choice Receive = false
is_choice Send = false
is_choice Branch = true
is_choice Choose = true

-- a number that counts only where a test holds
abbrev pub only_if : Bool → ℕ → ℕ
only_if true n = n
only_if false n = 0

-- how many items: those of a message; any other node has none
abbrev pub item_count : Node → ℕ
item_count x = only_if (is_message x.kind) x.item_count

-- how many labels: those of a choice; any other node has none
abbrev pub label_count : Node → ℕ
label_count x = only_if (is_choice x.kind) x.label_count

-- the node that a message goes on to
abbrev pub continuation : Node → ℕ
continuation x = only_if (is_message x.kind) x.next

abbrev pub item_at : Node → ℕ → Item
item_at x i = (get_or x.items i blank_slot).item

abbrev pub label_at : Node → ℕ → Label
label_at x i = get_or x.labels i blank_label

-- "each label is a part of them": of the name bytes
abbrev pub spelling : List ℕ → Label → List ℕ
spelling names l = part names l.at l.len

abbrev pub spelling_at : Node → List ℕ → ℕ → List ℕ
spelling_at x names i = spelling names (label_at x i)

-- "Room that a node's kind or the counts leave unused .. does not count when tables are equal": nodes, and tables, that say the same
pub record SameNode (x y : Node) : Type 0 where
  pub kind : x.kind ≡ y.kind
  pub items : item_count x ≡ item_count y
  pub each_item : (i : ℕ) → i < item_count x → item_at x i ≡ item_at y i
  pub labels : label_count x ≡ label_count y
  pub each_label : (i : ℕ) → i < label_count x → label_at x i ≡ label_at y i
  pub goes_on : continuation x ≡ continuation y

pub record SameTable (t u : Table) : Type 0 where
  pub count : t.count ≡ u.count
  pub start : t.start ≡ u.start
  pub each : (i : ℕ) → i < t.count → SameNode (node_at t i) (node_at u i)

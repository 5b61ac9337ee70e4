-- Document 01, "The dual".
-- Assumes nothing.
use Rattle.std.specs.Prelude.{Bool, true, false, List, [], ◌++◌, ℕ, ◌+◌}
use Rattle.rules.specs.Basics.{some_below, listed, fill}
use Rattle.rules.specs.Numbers.{items_most, labels_most, table_nodes_most}
use Rattle.rules.specs.Tables.{blank_slot, blank_label, blank_node, node_at, item_count, item_at, label_count, label_at, continuation, is_message, only_if}
use Rattle.table.specs.declared.Kind.{Kind}
use Rattle.table.specs.declared.Kind.TheVariants.{End, Receive, Send, Branch, Choose}
use Rattle.table.specs.declared.Item.{Item}
use Rattle.table.specs.declared.Item.TheVariants.{OfSort, Session}
use Rattle.table.specs.declared.Slot.{Slot}
use Rattle.table.specs.declared.Label.{Label}
use Rattle.table.specs.declared.Node.{Node}
use Rattle.table.specs.declared.Table.{Table}

-- "`?` and `!` change places, so do `&` and `+`; `end` .. stay[s]"
abbrev pub turned_kind : Kind → Kind
turned_kind End = End
turned_kind Receive = Send
turned_kind Send = Receive
turned_kind Branch = Choose
turned_kind Choose = Branch

abbrev pub is_session : Item → Bool
is_session (OfSort s) = false
is_session (Session k) = true

-- whether a node has a session item
unfoldable pub hands_over_at : Node → Bool
hands_over_at x = some_below (item_count x) (λ i. is_session (item_at x i))

-- "With any session item"
unfoldable pub hands_over : Table → Bool
hands_over t = some_below t.count (λ i. hands_over_at (node_at t i))

-- an item, and a label, whose link is m more
abbrev pub moved_item : ℕ → Item → Item
moved_item m (OfSort s) = OfSort s
moved_item m (Session k) = Session (k + m)

abbrev pub moved_label : ℕ → Label → Label
moved_label m l = record { at = l.at; len = l.len; to = l.to + m }

-- the lists of a node whose session items link i more, and whose labels link m more: "labels and lists stay"
abbrev pub moved_items : ℕ → Node → List Slot
moved_items i x = fill items_most blank_slot (listed (item_count x) (λ j. record { item = moved_item i (item_at x j) }))

abbrev pub moved_labels : ℕ → Node → List Label
moved_labels m x = fill labels_most blank_label (listed (label_count x) (λ j. moved_label m (label_at x j)))

-- and its continuation, where it has one
abbrev pub moved_continuation : ℕ → Node → ℕ
moved_continuation m x = only_if (is_message x.kind) (continuation x + m)

-- A node made anew with the kind k: session items link i more, labels and the continuation m more.
unfoldable pub remade : Kind → ℕ → ℕ → Node → Node
remade k i m x =
    record {
      kind = k;
      items = moved_items i x;
      item_count = item_count x;
      labels = moved_labels m x;
      label_count = label_count x;
      next = moved_continuation m x;
    }

-- "continuations and choices go on as duals": they link to turned nodes, which keep their numbers; "a session item is not turned round":
-- it links to the original, which is n further
abbrev pub turned_node : ℕ → Node → Node
turned_node n x = remade (turned_kind x.kind) n 0 x

-- "the originals link among themselves"
abbrev pub original_node : ℕ → Node → Node
original_node n x = remade x.kind n n x

abbrev pub originals : Bool → Table → List Node
originals true t = listed t.count (λ i. original_node t.count (node_at t i))
originals false t = []

-- "the turned nodes first, then the originals in order", with the originals or without
abbrev pub dual_nodes : Bool → Table → List Node
dual_nodes b t = fill table_nodes_most blank_node (listed t.count (λ i. turned_node t.count (node_at t i)) ++ originals b t)

-- "A dual table of n nodes without session items has n nodes ..; With any session item it has 2n"
abbrev pub dual_count : Bool → ℕ → ℕ
dual_count true n = n + n
dual_count false n = n

-- "same numbers and start"
unfoldable pub dual : Table → Table
dual t = record { nodes = dual_nodes (hands_over t) t; count = dual_count (hands_over t) t.count; start = t.start }

-- Document 01, "The table": what it is for a table to be well formed.
-- Assumes nothing.
use Rattle.std.specs.Prelude.{Bool, true, not, ◌&&◌, List, ℕ, ◌+◌, leb, ltb, length}
use Rattle.rules.specs.Basics.{same, every}
use Rattle.rules.specs.Words.{may_name}
use Rattle.rules.specs.Numbers.{items_most, labels_most, table_nodes_most}
use Rattle.rules.specs.Tables.{node_at, item_at, item_count, label_at, label_count, continuation, spelling, spelling_at}
use Rattle.table.specs.declared.Kind.{Kind}
use Rattle.table.specs.declared.Kind.TheVariants.{End, Receive, Send, Branch, Choose}
use Rattle.table.specs.declared.Item.{Item}
use Rattle.table.specs.declared.Item.TheVariants.{OfSort, Session}
use Rattle.table.specs.declared.Label.{Label}
use Rattle.table.specs.declared.Node.{Node}
use Rattle.table.specs.declared.Table.{Table}

-- "items that are each a listed sort or a link" within the n nodes
abbrev pub item_formed : ℕ → Item → Bool
item_formed n (OfSort s) = true
item_formed n (Session k) = ltb k n

-- "each label a word inside the name bytes, not reserved", and its link within the n nodes
unfoldable pub label_formed : ℕ → List ℕ → Label → Bool
label_formed n names l = leb (l.at + l.len) (length names) && may_name (spelling names l) && ltb l.to n

-- "not twice in one choice": label i is none of those before it
unfoldable pub label_new : Node → List ℕ → ℕ → Bool
label_new x names i = every i (λ j. not (same (spelling_at x names i) (spelling_at x names j)))

-- "at most 4 items in a message"
unfoldable pub message_formed : ℕ → Node → Bool
message_formed n x =
    leb (item_count x) items_most && every (item_count x) (λ i. item_formed n (item_at x i)) && ltb (continuation x) n

-- "1 to 16 labels in a choice"
unfoldable pub choice_formed : ℕ → List ℕ → Node → Bool
choice_formed n names x =
    leb 1 (label_count x) && leb (label_count x) labels_most && every (label_count x) (λ i. label_formed n names (label_at x i))
    && every (label_count x) (label_new x names)

-- "each of the five kinds"
abbrev pub formed_by : Kind → ℕ → List ℕ → Node → Bool
formed_by End n names x = true
formed_by Receive n names x = message_formed n x
formed_by Send n names x = message_formed n x
formed_by Branch n names x = choice_formed n names x
formed_by Choose n names x = choice_formed n names x

unfoldable pub node_formed : ℕ → List ℕ → Node → Bool
node_formed n names x = formed_by x.kind n names x

-- "A table is well formed if it has 1 to 128 nodes, .. a start and links within them, .."
unfoldable pub well_formed : Table → List ℕ → Bool
well_formed t names =
    leb 1 t.count && leb t.count table_nodes_most && ltb t.start t.count
    && every t.count (λ i. node_formed t.count names (node_at t i))

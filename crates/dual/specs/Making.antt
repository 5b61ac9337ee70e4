-- What nodes must be for a dual to be made of them.
-- Assumes nothing.
use Rattle.std.specs.Prelude.{◌≡◌, ℕ, ◌<◌, ◌≤◌}
use Rattle.rules.specs.Numbers.{items_most, labels_most, table_nodes_most}
use Rattle.rules.specs.Tables.{node_at, item_count, item_at, label_count, label_at, continuation}
use Rattle.table.specs.declared.Item.{Item}
use Rattle.table.specs.declared.Item.TheVariants.{Session}
use Rattle.table.specs.declared.Node.{Node}
use Rattle.table.specs.declared.Table.{Table}

-- What an item, a node's lists, a node and a table must be to be made anew: as many items and labels as there is room for, and links
-- below 128, so that a link that is at most 128 more is a byte still. Those of a well formed table are.
abbrev pub LinkFits : ℕ → Type 0
LinkFits k = k < table_nodes_most

abbrev pub ItemFits : Item → Type 0
ItemFits a = (k : ℕ) → a ≡ Session k → LinkFits k

pub record ItemsFit (x : Node) : Type 0 where
  pub few : item_count x ≤ items_most
  pub each : (j : ℕ) → j < item_count x → ItemFits (item_at x j)

pub record LabelsFit (x : Node) : Type 0 where
  pub few : label_count x ≤ labels_most
  pub each : (j : ℕ) → j < label_count x → LinkFits (label_at x j).to

pub record NodeFits (x : Node) : Type 0 where
  pub items : ItemsFit x
  pub labels : LabelsFit x
  pub goes_on : LinkFits (continuation x)

pub record NodesFit (t : Table) : Type 0 where
  pub few : t.count ≤ table_nodes_most
  pub each : (i : ℕ) → i < t.count → NodeFits (node_at t i)

-- The table that is made from the numbers of the crate `flat`, nodes in a, and what the numbers must be for that.
-- Assumes nothing.
use Rattle.std.specs.Prelude.{true, false, List, ℕ, ◌+◌, ◌-◌, ◌*◌, ◌<◌, ◌≤◌, eqb, ltb, get_or}
use Rattle.rules.specs.Basics.{listed, fill}
use Rattle.rules.specs.Numbers.{text_most, definitions_most, text_nodes_most, items_most, labels_most, table_nodes_most}
use Rattle.rules.specs.Tables.{blank_slot, blank_label, blank_items, blank_labels, blank_node}
use Rattle.flat.specs.Flat.{room, list_from, row, a_use, a_session}
use Rattle.table.specs.declared.Sort.{Sort}
use Rattle.table.specs.declared.Sort.TheVariants.{String, Float, Boolean, Void}
use Rattle.table.specs.declared.Kind.{Kind}
use Rattle.table.specs.declared.Kind.TheVariants.{End, Receive, Send, Branch, Choose}
use Rattle.table.specs.declared.Item.TheVariants.{OfSort, Session}
use Rattle.table.specs.declared.Slot.{Slot}
use Rattle.table.specs.declared.Label.{Label}
use Rattle.table.specs.declared.Node.{Node}
use Rattle.table.specs.declared.Table.{Table}

-- the sort and the kind of a number
unfoldable pub sort_of : ℕ → Sort
sort_of v =
    elim (eqb v 0) [
      | true ↦ String
      | false ↦ elim (eqb v 1) [ true ↦ Float | false ↦ elim (eqb v 2) [ true ↦ Boolean | false ↦ Void ] ]
    ]

unfoldable pub kind_of : ℕ → Kind
kind_of v =
    elim (eqb v 0) [
      | true ↦ End
      | false ↦
          elim (eqb v 1) [
            | true ↦ Receive
            | false ↦ elim (eqb v 2) [ true ↦ Send | false ↦ elim (eqb v 3) [ true ↦ Branch | false ↦ Choose ] ]
          ]
    ]

-- the numbers of node k: its kind, its count, its continuation, item i, and where the row of label i begins
module _ (a : List ℕ) (k : ℕ) where
  abbrev pub kind_number : ℕ
  kind_number = get_or a (k * room) 0

  abbrev pub count_number : ℕ
  count_number = get_or a (k * room + 1) 0

  abbrev pub next_number : ℕ
  next_number = get_or a (k * room + 2) 0

  abbrev pub item_number : ℕ → ℕ
  item_number i = get_or a (k * room + list_from + i) 0

abbrev pub label_row : ℕ → ℕ → ℕ
label_row k i = k * room + list_from + i * row

-- What is made where use number u names definition number `owners` u, and definition number d leads to node number `ends` d.
module _ (owners ends : List ℕ) where
  -- the node that a link leads to
  unfoldable pub node_of : ℕ → ℕ
  node_of l = elim (ltb l a_use) [ true ↦ l | false ↦ get_or ends (get_or owners (l - a_use) 0) 0 ]

  unfoldable pub slot_from : ℕ → Slot
  slot_from v =
      elim (ltb v a_session) [
        | true ↦ record { item = OfSort (sort_of v) }
        | false ↦ record { item = Session (node_of (v - a_session)) }
      ]

  module _ (a : List ℕ) where
    -- the label whose row begins at `at`
    abbrev pub label_from : ℕ → Label
    label_from at = record { at = get_or a at 0; len = get_or a (at + 1) 0; to = node_of (get_or a (at + 2) 0) }

    -- the lists of node k, of which n are used
    abbrev pub items_from : ℕ → ℕ → List Slot
    items_from k n = fill items_most blank_slot (listed n (λ i. slot_from (item_number a k i)))

    abbrev pub labels_from : ℕ → ℕ → List Label
    labels_from k n = fill labels_most blank_label (listed n (λ i. label_from (label_row k i)))

    abbrev pub message_from : ℕ → Node
    message_from k =
        record {
          kind = kind_of (kind_number a k);
          items = items_from k (count_number a k);
          item_count = count_number a k;
          labels = blank_labels;
          label_count = 0;
          next = node_of (next_number a k);
        }

    abbrev pub choice_from : ℕ → Node
    choice_from k =
        record {
          kind = kind_of (kind_number a k);
          items = blank_items;
          item_count = 0;
          labels = labels_from k (count_number a k);
          label_count = count_number a k;
          next = 0;
        }

    unfoldable pub node_from : ℕ → Node
    node_from k =
        elim (eqb (kind_number a k) 0) [
          | true ↦ blank_node
          | false ↦ elim (ltb (kind_number a k) 3) [ true ↦ message_from k | false ↦ choice_from k ]
        ]

    unfoldable pub table_from : ℕ → Table
    table_from n = record { nodes = fill table_nodes_most blank_node (listed n node_from); count = n; start = get_or ends 0 0 }

-- every use has one of the definitions that there is room for
abbrev pub Owned : List ℕ → Type 0
Owned owners = (i : ℕ) → get_or owners i 0 < definitions_most

-- what links are below
abbrev pub links_end : ℕ
links_end = a_use + text_most

pub record ItemsOk (a : List ℕ) (k n : ℕ) : Type 0 where
  pub few : n ≤ items_most
  pub each : (i : ℕ) → i < n → item_number a k i < a_session + links_end

pub record MessageOk (a : List ℕ) (k : ℕ) : Type 0 where
  pub items : ItemsOk a k (count_number a k)
  pub goes_on : next_number a k < links_end

pub record LabelOk (a : List ℕ) (at : ℕ) : Type 0 where
  pub short : get_or a (at + 1) 0 < 256
  pub leads : get_or a (at + 2) 0 < links_end

pub record LabelsOk (a : List ℕ) (k n : ℕ) : Type 0 where
  pub few : n ≤ labels_most
  pub each : (i : ℕ) → i < n → LabelOk a (label_row k i)

-- node k, by its kind
pub record RowOk (a : List ℕ) (k : ℕ) : Type 0 where
  pub message : 0 < kind_number a k → kind_number a k < 3 → MessageOk a k
  pub choice : 3 ≤ kind_number a k → LabelsOk a k (count_number a k)

-- n nodes
pub record TableOk (a owners : List ℕ) (n : ℕ) : Type 0 where
  pub few : n ≤ text_nodes_most
  pub each : (k : ℕ) → k < n → RowOk a k
  pub owned : Owned owners

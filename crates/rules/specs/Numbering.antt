-- Document 01, "The table": the table of a text's tree. "Each written `end`, message and choice is a node, numbered from 0 by the place
-- of its first byte": a node's own first byte stands before what is inside it, and what is inside stands in written order.
-- Assumes nothing.
use Rattle.std.specs.Prelude.{true, false, List, [], ◌∷◌, ◌++◌, ℕ, zero, suc, length}
use Rattle.std.proofs.Math.Option.{Option, none, some}
use Rattle.rules.specs.Basics.{same, fill}
use Rattle.rules.specs.Numbers.{items_most, labels_most, table_nodes_most}
use Rattle.rules.specs.Tokens.{Token}
use Rattle.rules.specs.Notation.{Way, into, out, Ty, ended, name, message, choice, Items, no_items, sort, session, Labels, last_label, label, Text, last_definition, definition}
use Rattle.rules.specs.Tables.{blank_slot, blank_label, blank_items, blank_labels, blank_node}
use Rattle.table.specs.declared.Kind.{Kind}
use Rattle.table.specs.declared.Kind.TheVariants.{Receive, Send, Branch, Choose}
use Rattle.table.specs.declared.Item.TheVariants.{OfSort, Session}
use Rattle.table.specs.declared.Slot.{Slot}
use Rattle.table.specs.declared.Label.{Label}
use Rattle.table.specs.declared.Node.{Node}
use Rattle.table.specs.declared.Table.{Table}

-- the number of the next node behind a tree, if k is the number of the next node at its beginning
abbrev mutual
  pub behind : Ty → ℕ → ℕ
  behind ended k = suc k
  behind (name w) k = k
  behind (message d xs x) k = behind x (behind_items xs (suc k))
  behind (choice d ls) k = behind_labels ls (suc k)

  pub behind_items : Items → ℕ → ℕ
  behind_items no_items k = k
  behind_items (sort s xs) k = behind_items xs k
  behind_items (session x xs) k = behind_items xs (behind x k)

  pub behind_labels : Labels → ℕ → ℕ
  behind_labels (last_label w x) k = behind x k
  behind_labels (label w x ls) k = behind_labels ls (behind x k)

abbrev pub behind_text : Text → ℕ → ℕ
behind_text (last_definition w x) k = behind x k
behind_text (definition w x ds) k = behind_text ds (behind x k)

-- "A name makes no node; it links to the node that its definition leads to, through other names if need be."
-- Where a type leads at once: to its own node, or on to a name; a name that has no definition leads to nothing.
pub data Lead : Type 0 where
  to_node : ℕ → Lead
  to_name : List ℕ → Lead
  to_nothing : Lead

abbrev pub lead : Ty → ℕ → Lead
lead ended k = to_node k
lead (name w) k = to_name w.spelled
lead (message d xs x) k = to_node k
lead (choice d ls) k = to_node k

-- where the definition of the name w leads at once
unfoldable pub definition_leads : Text → ℕ → List ℕ → Lead
definition_leads (last_definition v x) k w = elim (same v.spelled w) [ true ↦ lead x k | false ↦ to_nothing ]
definition_leads (definition v x ds) k w =
    elim (same v.spelled w) [ true ↦ lead x k | false ↦ definition_leads ds (behind x k) w ]

-- the node that is got to through at most n names; none where that is not enough, or a name has no definition
unfoldable pub follow : Text → ℕ → Lead → Option ℕ
follow t zero (to_node k) = some k
follow t zero (to_name w) = none
follow t zero to_nothing = none
follow t (suc n) (to_node k) = some k
follow t (suc n) (to_name w) = follow t n (definition_leads t zero w)
follow t (suc n) to_nothing = none

abbrev pub definition_count : Text → ℕ
definition_count (last_definition w x) = 1
definition_count (definition w x ds) = suc (definition_count ds)

abbrev pub or_zero : Option ℕ → ℕ
or_zero none = 0
or_zero (some k) = k

-- The link of a type whose first node, if it has one, is number k. More names than there are definitions are never needed
-- (`follow_enough`, in ../proofs).
unfoldable pub link : Text → Ty → ℕ → ℕ
link t x k = or_zero (follow t (definition_count t) (lead x k))

abbrev pub message_kind : Way → Kind
message_kind into = Receive
message_kind out = Send

abbrev pub choice_kind : Way → Kind
choice_kind into = Branch
choice_kind out = Choose

-- the nodes of a tree in the text t, of which the first is number k
module _ (t : Text) where
  -- "Items and labels keep their written order."
  abbrev pub slots : Items → ℕ → List Slot
  slots no_items k = []
  slots (sort s xs) k = record { item = OfSort s } ∷ slots xs k
  slots (session x xs) k = record { item = Session (link t x k) } ∷ slots xs (behind x k)

  abbrev pub entry : Token → Ty → ℕ → Label
  entry w x k = record { at = w.at; len = length w.spelled; to = link t x k }

  abbrev pub entries : Labels → ℕ → List Label
  entries (last_label w x) k = entry w x k ∷ []
  entries (label w x ls) k = entry w x k ∷ entries ls (behind x k)

  abbrev pub message_node : Way → Items → Ty → ℕ → Node
  message_node d xs x k =
      record {
        kind = message_kind d;
        items = fill items_most blank_slot (slots xs (suc k));
        item_count = length (slots xs (suc k));
        labels = blank_labels;
        label_count = 0;
        next = link t x (behind_items xs (suc k));
      }

  abbrev pub choice_node : Way → Labels → ℕ → Node
  choice_node d ls k =
      record {
        kind = choice_kind d;
        items = blank_items;
        item_count = 0;
        labels = fill labels_most blank_label (entries ls (suc k));
        label_count = length (entries ls (suc k));
        next = 0;
      }

  abbrev mutual
    pub nodes : Ty → ℕ → List Node
    nodes ended k = blank_node ∷ []
    nodes (name w) k = []
    nodes (message d xs x) k = message_node d xs x k ∷ (nodes_items xs (suc k) ++ nodes x (behind_items xs (suc k)))
    nodes (choice d ls) k = choice_node d ls k ∷ nodes_labels ls (suc k)

    pub nodes_items : Items → ℕ → List Node
    nodes_items no_items k = []
    nodes_items (sort s xs) k = nodes_items xs k
    nodes_items (session x xs) k = nodes x k ++ nodes_items xs (behind x k)

    pub nodes_labels : Labels → ℕ → List Node
    nodes_labels (last_label w x) k = nodes x k
    nodes_labels (label w x ls) k = nodes x k ++ nodes_labels ls (behind x k)

  abbrev pub nodes_text : Text → ℕ → List Node
  nodes_text (last_definition w x) k = nodes x k
  nodes_text (definition w x ds) k = nodes x k ++ nodes_text ds (behind x k)

-- "the first definition gives the start"
abbrev pub start_type : Text → Ty
start_type (last_definition w x) = x
start_type (definition w x ds) = x

-- the table of a text
unfoldable pub table_of : Text → Table
table_of t =
    record {
      nodes = fill table_nodes_most blank_node (nodes_text t t zero);
      count = behind_text t zero;
      start = link t (start_type t) zero;
    }

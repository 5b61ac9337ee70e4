-- What the functions of two nodes ask and answer, where it is no definition of `rules` alone.
-- Assumes nothing.
use Rattle.std.specs.Prelude.{Bool, false, true, List, Option, None, Some, Result, Ok, Err, ◌≡◌, ℕ, ◌<◌, ◌≤◌, get_or}
use Rattle.std.specs.Option.{MatchOption}
use Rattle.rules.specs.Numbers.{items_most, labels_most}
use Rattle.rules.specs.Tables.{blank_label, item_count, label_count, spelling, spelling_at}
use Rattle.rules.specs.Pairs.{Wrong, position, label_lacking, mismatch_of, choice_step, step_of}
use Rattle.rules.specs.Pairs as rules
use Rattle.table.specs.declared.Kind.{Kind}
use Rattle.table.specs.declared.Kind.TheVariants.{End, Receive, Send, Branch, Choose}
use Rattle.table.specs.declared.Label.{Label}
use Rattle.table.specs.declared.Node.{Node}
use Rattle.table.specs.declared.answers.Mismatch.{Mismatch}
use Rattle.pairs.specs.declared.Onward.{Onward}

-- what is asked of a node: its lists are within their limits, and a label stands once in its list
pub record Listed (names : List ℕ) (x : Node) : Type 0 where
  pub few_items : item_count x ≤ items_most
  pub few_labels : label_count x ≤ labels_most
  pub once : (i j : ℕ) → i < label_count x → j < label_count x → spelling_at x names i ≡ spelling_at x names j → i ≡ j

-- the bytes of the label at position i of a list: `spelling_at`, of the list alone
abbrev pub spelled : List Label → List ℕ → ℕ → List ℕ
spelled labels names i = spelling names (get_or labels i blank_label)

-- a list of `count` labels, no two of them the same
pub record ListOnce (labels : List Label) (count : ℕ) (names : List ℕ) : Type 0 where
  pub few : count ≤ labels_most
  pub once : (i j : ℕ) → i < count → j < count → spelled labels names i ≡ spelled labels names j → i ≡ j

-- r is the first position from low on and below high that passes the test, or none of them does
abbrev pub FirstBetween : ℕ → ℕ → (ℕ → Bool) → Option ℕ → Type 0
FirstBetween low high p r =
    MatchOption r ((j : ℕ) → low ≤ j → j < high → p j ≡ false)
    (λ i. (low ≤ i) × (i < high) × (p i ≡ true) × ((j : ℕ) → low ≤ j → j < i → p j ≡ false))

-- the places are those of the labels of x in the list of y
abbrev pub Placed : Node → List ℕ → Node → List ℕ → List ℕ → Type 0
Placed x xs y ys places = (i : ℕ) → i < label_count x → get_or places i 0 ≡ position (spelling_at x xs i) y ys

-- the places are those of the labels of the chooser, which follows from the kind
abbrev pub ChooserPlaced : Kind → Node → List ℕ → Node → List ℕ → List ℕ → Type 0
ChooserPlaced End x xs y ys places = Placed y ys x xs places
ChooserPlaced Receive x xs y ys places = Placed y ys x xs places
ChooserPlaced Send x xs y ys places = Placed y ys x xs places
ChooserPlaced Branch x xs y ys places = Placed x xs y ys places
ChooserPlaced Choose x xs y ys places = Placed y ys x xs places

-- what is found, w being what is wrong: that, or, where nothing is, places of which P holds
abbrev pub Finds : Wrong → (List ℕ → Type 0) → Result (List ℕ) Mismatch → Type 0
Finds w P (Ok places) = (w ≡ None) × P places
Finds w P (Err m) = w ≡ Some m

-- what is found for the chooser x
abbrev pub Covers : Node → List ℕ → Node → List ℕ → Result (List ℕ) Mismatch → Type 0
Covers x xs y ys r = Finds (label_lacking x xs y ys) (Placed x xs y ys) r

-- what is found for two nodes
abbrev pub Compares : Node → List ℕ → Node → List ℕ → Result (List ℕ) Mismatch → Type 0
Compares x xs y ys r = Finds (mismatch_of x xs y ys) (ChooserPlaced x.kind x xs y ys) r

abbrev pub onward : Option Onward → rules.Onward
onward None = rules.nowhere
onward (Some o) = rules.onto o.left o.right o.turns

-- step s of the chooser x, whatever the name bytes with which the places of its labels are right
pub record ChoosesAs (x y : Node) (places : List ℕ) (s : ℕ) (r : Option Onward) : Type 0 where
  pub is : (xs ys : List ℕ) → Placed x xs y ys places → onward r ≡ choice_step x xs y ys s

-- step s of two nodes, likewise
pub record StepsAs (x y : Node) (places : List ℕ) (s : ℕ) (r : Option Onward) : Type 0 where
  pub is : (xs ys : List ℕ) → ChooserPlaced x.kind x xs y ys places → onward r ≡ step_of x xs y ys s

-- no step is numbered r or higher
pub record StepsBelow (x y : Node) (r : ℕ) : Type 0 where
  pub few : r ≤ labels_most
  pub none : (xs ys : List ℕ) (s : ℕ) → r ≤ s → step_of x xs y ys s ≡ rules.nowhere

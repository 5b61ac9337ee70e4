-- Document 01, "May replace, and compatible": two nodes beside each other, when they are a mismatch, and the steps from them.
-- x is the left node, with its name bytes xs; y is the right one, with ys.
-- Assumes nothing.
use Rattle.std.specs.Prelude.{Bool, true, false, not, List, ◌≡◌, ℕ, zero, suc, eqb, leb, ltb, Some, None}
use Rattle.std.specs.Prelude as rust
use Rattle.std.proofs.Math.Option.{Option, none, some}
use Rattle.rules.specs.Basics.{same, first}
use Rattle.rules.specs.Tables.{node_at, item_count, item_at, label_count, label_at, spelling_at, continuation}
use Rattle.table.specs.declared.Sort.{Sort}
use Rattle.table.specs.declared.Sort.TheVariants.{String, Float, Boolean, Void}
use Rattle.table.specs.declared.Kind.{Kind}
use Rattle.table.specs.declared.Kind.TheVariants.{End, Receive, Send, Branch, Choose}
use Rattle.table.specs.declared.Item.{Item}
use Rattle.table.specs.declared.Item.TheVariants.{OfSort, Session}
use Rattle.table.specs.declared.Node.{Node}
use Rattle.table.specs.declared.Table.{Table}
use Rattle.table.specs.declared.answers.Mismatch.{Mismatch}
use Rattle.table.specs.declared.answers.Mismatch.TheVariants as mismatch

-- what is wrong with two nodes, or that nothing is
abbrev pub Wrong : Type 0
Wrong = rust.Option Mismatch

-- the number and the detail of each case; "Details count from 0 and are 0 for 20 and 21". Where nothing is wrong both are 0.
abbrev pub reason : Wrong → ℕ
reason None = 0
reason (Some mismatch.Kinds) = 20
reason (Some mismatch.Counts) = 21
reason (Some (mismatch.Item i)) = 22
reason (Some (mismatch.Label i)) = 23

abbrev pub detail : Wrong → ℕ
detail None = 0
detail (Some mismatch.Kinds) = 0
detail (Some mismatch.Counts) = 0
detail (Some (mismatch.Item i)) = i
detail (Some (mismatch.Label i)) = i

-- "first reason that applies"
abbrev pub or_else : Wrong → Wrong → Wrong
or_else None m = m
or_else (Some w) m = Some w

abbrev pub unless : Bool → Mismatch → Wrong
unless true w = None
unless false w = Some w

-- what is wrong at the first position below n that passes the test; nothing where none does
abbrev pub at_first : (ℕ → Mismatch) → ℕ → (ℕ → Bool) → Wrong
at_first m n p = unless (leb n (first n p)) (m (first n p))

-- `end`, `?`, `!`, `&`, `+`
abbrev pub kind_number : Kind → ℕ
kind_number End = 0
kind_number Receive = 1
kind_number Send = 2
kind_number Branch = 3
kind_number Choose = 4

-- string, float, boolean, void
abbrev pub sort_number : Sort → ℕ
sort_number String = 0
sort_number Float = 1
sort_number Boolean = 2
sort_number Void = 3

-- "20: kinds differ"
unfoldable pub kinds_differ : Node → Node → Wrong
kinds_differ x y = unless (eqb (kind_number x.kind) (kind_number y.kind)) mismatch.Kinds

-- "21: item counts differ"
unfoldable pub counts_differ : Node → Node → Wrong
counts_differ x y = unless (eqb (item_count x) (item_count y)) mismatch.Counts

-- "22: an item differs: sort against session, or two different sorts; detail is the first such position"
abbrev pub items_agree : Item → Item → Bool
items_agree (OfSort a) (OfSort b) = eqb (sort_number a) (sort_number b)
items_agree (OfSort a) (Session j) = false
items_agree (Session i) (OfSort b) = false
items_agree (Session i) (Session j) = true

unfoldable pub item_differs : Node → Node → Wrong
item_differs x y = at_first mismatch.Item (item_count x) (λ i. not (items_agree (item_at x i) (item_at y i)))

-- "by label and not by position": where the label w stands among those of y; their count where it is not there
unfoldable pub position : List ℕ → Node → List ℕ → ℕ
position w y ys = first (label_count y) (λ j. same w (spelling_at y ys j))

-- y lacks label i of the chooser x
unfoldable pub lacks : Node → List ℕ → Node → List ℕ → ℕ → Bool
lacks x xs y ys i = leb (label_count y) (position (spelling_at x xs i) y ys)

-- "23: a chosen label is missing", x being the chooser; "Detail is the first missing one's position in the chooser's list."
unfoldable pub label_lacking : Node → List ℕ → Node → List ℕ → Wrong
label_lacking x xs y ys = at_first mismatch.Label (label_count x) (lacks x xs y ys)

-- "For `+` the right lists the choices and the left must have them; for `&` the left lists and the right must have them.": what holds if
-- the left one chooses, or if the right one does. (Other nodes list nothing, so that it is the same.)
abbrev pub by_chooser : {A : Type 0} → Kind → A → A → A
by_chooser End left right = right
by_chooser Receive left right = right
by_chooser Send left right = right
by_chooser Branch left right = left
by_chooser Choose left right = right

unfoldable pub mismatch_of : Node → List ℕ → Node → List ℕ → Wrong
mismatch_of x xs y ys =
    or_else (kinds_differ x y)
    (or_else (counts_differ x y)
    (or_else (item_differs x y) (by_chooser x.kind (label_lacking x xs y ys) (label_lacking y ys x xs))))

-- Where a step leads: to a node on the left and one on the right, and whether left and right then change places.
pub data Onward : Type 0 where
  onto : (left right : ℕ) (turns : Bool) → Onward
  nowhere : Onward

abbrev pub exchanged : Onward → Onward
exchanged (onto l r t) = onto r l t
exchanged nowhere = nowhere

-- "then 4 for the continuation"
abbrev pub continuation_step : ℕ
continuation_step = 4

abbrev pub into_item : Item → Item → Bool → Onward
into_item (OfSort a) (OfSort b) t = nowhere
into_item (OfSort a) (Session j) t = nowhere
into_item (Session i) (OfSort b) t = nowhere
into_item (Session i) (Session j) t = onto i j t

-- "for a message, each session item by position, then 4 for the continuation"
unfoldable pub message_step : Node → Node → Bool → ℕ → Onward
message_step x y t s =
    elim (ltb s (item_count x)) [
      | true ↦ into_item (item_at x s) (item_at y s) t
      | false ↦ elim (eqb s continuation_step) [ true ↦ onto (continuation x) (continuation y) false | false ↦ nowhere ]
    ]

-- "for a choice, each label of the chooser, numbered by its position there", x being the chooser
unfoldable pub choice_step : Node → List ℕ → Node → List ℕ → ℕ → Onward
choice_step x xs y ys s =
    elim (ltb s (label_count x)) [
      | true ↦ onto (label_at x s).to (label_at y (position (spelling_at x xs s) y ys)).to false
      | false ↦ nowhere
    ]

abbrev pub chosen_step : Kind → Node → List ℕ → Node → List ℕ → ℕ → Onward
chosen_step k x xs y ys s = by_chooser k (choice_step x xs y ys s) (exchanged (choice_step y ys x xs s))

-- "Stepping into an item of `?` keeps left and right; into an item of `!` it turns them."
abbrev pub step_by : Kind → Node → List ℕ → Node → List ℕ → ℕ → Onward
step_by End x xs y ys s = nowhere
step_by Receive x xs y ys s = message_step x y false s
step_by Send x xs y ys s = message_step x y true s
step_by Branch x xs y ys s = chosen_step Branch x xs y ys s
step_by Choose x xs y ys s = chosen_step Choose x xs y ys s

unfoldable pub step_of : Node → List ℕ → Node → List ℕ → ℕ → Onward
step_of x xs y ys s = step_by x.kind x xs y ys s

-- "A pair has a left and a right node", one of the new table and one of the old, and its turn
pub record Pair : Type 0 where
  pub turn : ℕ
  pub new : ℕ
  pub old : ℕ

-- "with turn 0 or 1"
abbrev pub turns_most : ℕ
turns_most = 2

-- "in turn 1 the old table's node is the left one": of the new one and the old one, the left and the right
abbrev pub left_in : {A : Type 0} → ℕ → A → A → A
left_in zero new old = new
left_in (suc u) new old = old

abbrev pub right_in : {A : Type 0} → ℕ → A → A → A
right_in zero new old = old
right_in (suc u) new old = new

abbrev pub other_turn : ℕ → ℕ
other_turn zero = 1
other_turn (suc u) = 0

abbrev pub turn_after : Bool → ℕ → ℕ
turn_after true u = other_turn u
turn_after false u = u

-- the pair that is got to in turn u; the left node is the new table's in turn 0, and the right one in turn 1
abbrev pub landed : ℕ → Onward → Option Pair
landed u nowhere = none
landed u (onto l r t) = some (record { turn = turn_after t u; new = left_in u l r; old = right_in u l r })

-- "starts as (new, old), turn 0"
abbrev pub starts : Table → Table → Pair
starts new old = record { turn = 0; new = new.start; old = old.start }

module _ (new : Table) (new_names : List ℕ) (old : Table) (old_names : List ℕ) where
  -- what is asked of the left node and its name bytes, and of the right ones
  abbrev pub beside : {A : Type 0} → (Node → List ℕ → Node → List ℕ → A) → Pair → A
  beside f p =
      f (left_in p.turn (node_at new p.new) (node_at old p.old)) (left_in p.turn new_names old_names)
      (right_in p.turn (node_at new p.new) (node_at old p.old)) (right_in p.turn new_names old_names)

  unfoldable pub mismatch_at : Pair → Wrong
  mismatch_at p = beside mismatch_of p

  -- where step s of a pair leads
  unfoldable pub step_at : Pair → ℕ → Option Pair
  step_at p s = landed p.turn (beside (λ x xs y ys. step_of x xs y ys s) p)

  -- "It is a mismatch"
  abbrev pub IsMismatch : Pair → Type 0
  IsMismatch p = mismatch_at p ≡ None → ⊥

  -- "From a pair without mismatch the steps are": step s leads from p to q
  pub record Step (p : Pair) (s : ℕ) (q : Pair) : Type 0 where
    pub fits : mismatch_at p ≡ None
    pub leads : step_at p s ≡ some q

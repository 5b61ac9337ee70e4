-- What is asked for one entry of the queue, and what comes of it. x is the left node of its pair and y the right one.
-- Assumes nothing.
use Rattle.std.specs.Prelude.{List, ◌≡◌, ℕ, zero, suc, ◌<◌, ◌*◌, Result, Ok, Err, Some, None}
use Rattle.std.proofs.Math.Option.{Option, none, some}
use Rattle.rules.specs.Numbers.{labels_most}
use Rattle.rules.specs.Pairs.{Pair, turns_most, landed, left_in, right_in, mismatch_of, step_of}
use Rattle.rules.proofs.Formed.{FormedNode}
use Rattle.rules.proofs.Places.{place}
use Rattle.rules.proofs.Steps.{Inside}
use Rattle.search.specs.Queue.{Kept, Queue, visited}
use Rattle.pairs.specs.Beside.{Listed, ChooserPlaced}
use Rattle.table.specs.declared.Node.{Node}
use Rattle.table.specs.declared.answers.Mismatch.{Mismatch}
use Rattle.replace.specs.declared.entry.Side.{Side}
use Rattle.replace.specs.declared.entry.Entry.{Entry}

-- the place of a pair, where there is one
abbrev pub place_of : ℕ → ℕ → Option Pair → Option ℕ
place_of n m none = none
place_of n m (some p) = some (place n m p)

-- a step that leads to a place, or nowhere
abbrev pub stepped : ℕ → ℕ → ℕ → Option ℕ → Kept → Kept
stepped size h s none k = k
stepped size h s (some q) k = visited size h s q k

-- the steps below s, one after the other
unfoldable pub expanded : ℕ → ℕ → (ℕ → Option ℕ) → ℕ → Kept → Kept
expanded size h next zero k = k
expanded size h next (suc s) k = stepped size h s (next s) (expanded size h next s k)

module _ (e : Entry) where
  abbrev pub size_of : ℕ
  size_of = turns_most * e.sizes.new * e.sizes.old

  -- where step s leads
  abbrev pub leads_to : Node → List ℕ → Node → List ℕ → ℕ → Option ℕ
  leads_to x xs y ys s = place_of e.sizes.new e.sizes.old (landed e.turn (step_of x xs y ys s))

  -- the steps below s
  abbrev pub expanded_below : ℕ → Node → List ℕ → Node → List ℕ → Kept → Kept
  expanded_below s x xs y ys k = expanded size_of e.at (leads_to x xs y ys) s k

  -- asked of the areas
  pub record Ready (k : Kept) : Type 0 where
    pub queue : Queue size_of k
    pub entry : e.at < k.tail

  -- asked of two nodes with nothing wrong, and the places of the chooser's labels: with some name bytes the places are right, and every step
  -- leads to a pair of nodes
  pub record Leading (x y : Node) (places : List ℕ) : Type 0 where
    pub left_names : List ℕ
    pub right_names : List ℕ
    pub left_listed : Listed left_names x
    pub right_listed : Listed right_names y
    pub placed : ChooserPlaced x.kind x left_names y right_names places
    pub lands :
        (s : ℕ) (q : Pair) → landed e.turn (step_of x left_names y right_names s) ≡ some q → Inside e.sizes.new e.sizes.old q

  -- step s was taken, whatever the name bytes with which the places are right
  pub record StepTaken (x y : Node) (places : List ℕ) (s : ℕ) (k k' : Kept) : Type 0 where
    pub is : (xs ys : List ℕ) → ChooserPlaced x.kind x xs y ys places → k' ≡ stepped size_of e.at s (leads_to x xs y ys s) k

  -- the steps below s were taken, likewise
  pub record StepsTaken (x y : Node) (places : List ℕ) (s : ℕ) (k k' : Kept) : Type 0 where
    pub is : (xs ys : List ℕ) → ChooserPlaced x.kind x xs y ys places → k' ≡ expanded_below s x xs y ys k

  -- asked of the two nodes
  pub record Formed (x y : Side) : Type 0 where
    pub left : FormedNode (left_in e.turn e.sizes.new e.sizes.old) x.names.now x.node.now
    pub right : FormedNode (right_in e.turn e.sizes.new e.sizes.old) y.names.now y.node.now

  -- what came of the entry: nothing is wrong with its pair, and every step was taken; or something is, and nothing was written
  abbrev pub Takes : Side → Side → Kept → List ℕ → List ℕ → Result ℕ Mismatch → Type 0
  Takes x y k marks scratch (Ok end) =
      (mismatch_of x.node.now x.names.now y.node.now y.names.now ≡ None)
      × (record { marks = marks; scratch = scratch; tail = end } ≡ expanded_below labels_most x.node.now x.names.now y.node.now y.names.now k)
  Takes x y k marks scratch (Err w) =
      (mismatch_of x.node.now x.names.now y.node.now y.names.now ≡ Some w) × (marks ≡ k.marks) × (scratch ≡ k.scratch)

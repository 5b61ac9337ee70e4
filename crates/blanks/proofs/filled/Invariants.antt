-- `blanks::filled` meets its contract: the places below `i` hold what `at` answered.
-- Assumes nothing.
use mathlib.Core.Path.{◌≡◌}
use Prim.Native.Nat.{ℕ}
use lib.ListN.{length}
use Rattle.rules.specs.Basics.{listed, fill}
use Rattle.blanks.specs.Calls.{AnswersBelow}
use Rattle.blanks.proofs.filled.Given as goal

abbrev pub invariant-loop-i : goal.invariant-loop-i
invariant-loop-i g l =
    (length l.all ≡ g.row.N)
    × ((f : ℕ → _) → AnswersBelow (goal.F-post g l.at) l.n f → l.all ≡ fill g.row.N l.fn.blank (listed l.i f))

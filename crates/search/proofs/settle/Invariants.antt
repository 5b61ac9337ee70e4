-- `search::settle` meets its contract: at turn i the first i marks are left as they shall be, and the others stand.
-- Assumes nothing.
use mathlib.Core.List.{map, ◌++◌}
use mathlib.Core.Path.{◌≡◌}
use lib.ListN.{take, drop}
use Rattle.search.specs.Queue.{settled}
use Rattle.search.proofs.settle.Given as goal

abbrev pub invariant-loop-mark : goal.invariant-loop-mark
invariant-loop-mark l = l.marks ≡ map settled (take l.mark-index l.initial.marks) ++ drop l.mark-index l.initial.marks

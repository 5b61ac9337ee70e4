-- `search::depth` meets its contract: k steps up from `at`, k more than the steps to i lead to `at`.
-- Assumes nothing.
use Rattle.search.proofs.Loops.{Walked}
use Rattle.search.proofs.depth.Given as goal

abbrev pub invariant-loop-i : goal.invariant-loop-i
invariant-loop-i l = Walked l.size l.marks l.scratch l.at l.i l.k

abbrev pub decreases-loop-i : goal.decreases-loop-i
decreases-loop-i l = l.i

-- `search::write_path` meets its contract: what is written from j on, behind the run to i, is the run to `at` and what stands beyond it.
-- Assumes nothing.
use Rattle.search.proofs.Loops.{Written}
use Rattle.search.proofs.write_path.Given as goal

abbrev pub invariant-loop-j : goal.invariant-loop-j
invariant-loop-j l = Written l.size l.marks l.scratch l.at l.steps l.initial.path l.path l.i l.j

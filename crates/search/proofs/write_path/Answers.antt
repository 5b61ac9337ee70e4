-- `search::write_path` meets its contract: what is written from j on, behind the run to i, is the run to `at` and what stands beyond it.
-- Assumes nothing.
use native.Mathlib.Omega.{arith}
use Rattle.search.proofs.Loops.{write_begin, write_turn}
use Rattle.search.proofs.write_path.Goals as goal

pub loop-j-init : goal.loop-j-init
loop-j-init c = write_begin c.requires.0 c.requires.1 c.requires.2

pub loop-j-preserved : goal.loop-j-preserved
loop-j-preserved c = write_turn c.loop-j.invariant (omega arith) (rw (← c.from.ensures) c.step_into.ensures) c.from-i.ensures

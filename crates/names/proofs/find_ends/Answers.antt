-- `names::find_ends` meets its contract: each definition below `d` leads to a node, and which is written.
-- Assumes nothing.
use native.Mathlib.Omega.{arith}
use Rattle.names.proofs.Loops.{none_written, written_as, one_written}
use Rattle.names.proofs.find_ends.Goals as goal

pub loop-d-init : goal.loop-d-init
loop-d-init c = none_written

pub returns-in_default : goal.returns-in_default
returns-in_default c = written_as c.loop-d.invariant c.loop-d-test.true (cc)

pub loop-d-preserved : goal.loop-d-preserved
loop-d-preserved c = one_written c.loop-d.invariant (omega arith) (cc)

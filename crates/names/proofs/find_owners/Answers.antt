-- `names::find_owners` meets its contract: each use below `u` names a definition, and which is written.
-- Assumes nothing.
use native.Mathlib.Omega.{arith}
use Rattle.names.proofs.Loops.{none_written, written_as, one_written}
use Rattle.names.proofs.find_owners.Goals as goal

pub loop-u-init : goal.loop-u-init
loop-u-init c = none_written

pub returns-in_default : goal.returns-in_default
returns-in_default c = written_as c.loop-u.invariant c.loop-u-test.true (cc)

pub loop-u-preserved : goal.loop-u-preserved
loop-u-preserved c = one_written c.loop-u.invariant (omega arith) (cc)

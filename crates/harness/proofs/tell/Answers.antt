-- `harness::tell` meets its contract: by what was written.
-- Assumes nothing.
use Rattle.harness.specs.Told.{a_line, too_short}
use Rattle.harness.proofs.tell.Goals as goal

pub returns-in-Ok : goal.returns-in-Ok
returns-in-Ok c = rw c.in-Ok.is a_line

pub returns-in-Err : goal.returns-in-Err
returns-in-Err c = rw c.in-Err.is too_short

-- `lines::writing::put_byte` meets its contract: one byte is set.
-- Assumes nothing.
use Rattle.lines.proofs.Adding.{adds_byte}
use Rattle.lines.proofs.writing.put_byte.Goals as goal

pub returns : goal.returns
returns c = adds_byte _ _ _

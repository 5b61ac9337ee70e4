-- `type_reader::sign` meets its contract.
-- Assumes nothing.
use Rattle.cursor.proofs.Symbols.{is_that, is_other}
use Rattle.type_reader.specs.Leaves.{signed, not_signed}
use Rattle.type_reader.proofs.sign.Goals as goal

pub returns-then-is : goal.returns-then-is
returns-then-is c = signed (c.take-t.ensures c.requires) (is_that _ _ c.is.ensures c.if-is.true)

pub returns-else-is : goal.returns-else-is
returns-else-is c = rw c.refusal.ensures (not_signed (c.take-t.ensures c.requires) (is_other _ _ c.is.ensures c.if-is.false))

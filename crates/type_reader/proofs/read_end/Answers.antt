-- `type_reader::read_end` meets its contract.
-- Assumes nothing.
use Rattle.type_reader.proofs.Handed.{handed_on}
use Rattle.type_reader.proofs.Ending.{end_refused, end_past}
use Rattle.type_reader.proofs.read_end.Goals as goal

pub returns-in_err-begun : goal.returns-in_err-begun
returns-in_err-begun c = rw (handed_on c.from_residual.result c.from_residual.ensures.1) (end_refused c.in_err-begun.ensures)

pub returns : goal.returns
returns c = end_past c.in_ok-begun.ensures c.store.ensures

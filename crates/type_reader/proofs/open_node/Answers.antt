-- `type_reader::open_node` meets its contract.
-- Assumes nothing.
use Rattle.type_reader.proofs.Handed.{handed_on}
use Rattle.type_reader.proofs.Opening.{open_full, open_refused, open_past}
use Rattle.type_reader.proofs.open_node.Goals as goal

pub returns-in_err-begun : goal.returns-in_err-begun
returns-in_err-begun c = rw (handed_on c.from_residual.result c.from_residual.ensures.1) (open_full c.in_err-begun.ensures)

pub returns-in_err-next : goal.returns-in_err-next
returns-in_err-next c =
    rw (handed_on c.from_residual-in_err-next.result c.from_residual-in_err-next.ensures.1) (open_refused c.in_ok-begun.ensures c.in_err-next.ensures)

pub returns : goal.returns
returns c = open_past c.in_ok-begun.ensures c.in_ok-next.ensures

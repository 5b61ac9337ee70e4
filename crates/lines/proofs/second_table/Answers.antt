-- `lines::second_table` meets its contract: a text's table has a dual.
-- Assumes nothing.
use Rattle.lines.proofs.Asking.{against-dual}
use Rattle.lines.proofs.second_table.Goals as goal

pub returns-in-IsCompatible : goal.returns-in-IsCompatible
returns-in-IsCompatible c = rw c.in-IsCompatible.is (against-dual c.requires c.dual-turned.ensures)

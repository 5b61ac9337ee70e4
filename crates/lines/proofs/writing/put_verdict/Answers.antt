-- `lines::writing::put_verdict` meets its contract: by the verdict.
-- Assumes nothing.
use Rattle.lines.proofs.writing.put_verdict.Goals as goal

pub put_yes-requires : goal.put_yes-requires
put_yes-requires c = rw c.in-Yes.is at c.requires.1

pub put_no-requires : goal.put_no-requires
put_no-requires c = rw c.in-No.is at c.requires

pub returns-in-Yes : goal.returns-in-Yes
returns-in-Yes c = rw c.in-Yes.is c.put_yes.ensures

pub returns-in-No : goal.returns-in-No
returns-in-No c = rw c.in-No.is c.put_no.ensures

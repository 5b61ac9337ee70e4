-- `search::settle` meets its contract: at turn i the first i marks are left as they shall be, and the others stand.
-- Assumes nothing.
use Rattle.std.proofs.Common.{rules}
use Rattle.std.proofs.lemmas.List.Edits.{map_over_more}
use Rattle.search.specs.Queue.{settled}
use Rattle.search.proofs.Marks.{settled_byte}
use Rattle.search.proofs.settle.Goals as goal

pub loop-mark-preserved : goal.loop-mark-preserved
loop-mark-preserved c =
    rw (c.from.ensures, settled_byte)
    (map_over_more settled _ c.loop-mark.marks c.loop-mark.mark-index _ c.loop-mark-test.true c.loop-mark.invariant (search rules))

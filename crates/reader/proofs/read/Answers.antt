-- `reader::read` meets its promise: refusal 1, then 2 to 7, then the names.
-- Assumes nothing.
use Rattle.rules.proofs.Reached.{refuses_reads}
use Rattle.reader.proofs.Looping.{text_past, text_refuses, too_long}
use Rattle.reader.proofs.read.Goals as goal

pub returns-then-text-gt-TEXT_MOST : goal.returns-then-text-gt-TEXT_MOST
returns-then-text-gt-TEXT_MOST c = rw c.refused.ensures (too_long _ c.if-text-gt-TEXT_MOST.true)

pub resolve-requires : goal.resolve-requires
resolve-requires c = text_past c.in-Ok.ensures

pub returns-in-Err : goal.returns-in-Err
returns-in-Err c = rw c.refused-in-Err.ensures (refuses_reads (text_refuses c.in-Err.ensures))

-- `lines::writing::put_fields` meets its contract: behind each turn the fields so far are put.
-- Assumes nothing.
use lib.ListN.{take}
use Rattle.rules.specs.Line.{fields}
use Rattle.lines.specs.Adding.{Adds}
use Rattle.lines.proofs.writing.put_fields.Given as goal

abbrev pub invariant-loop-k : goal.invariant-loop-k
invariant-loop-k l = Adds l.initial.line l.at (fields (take l.k-index l.all)) l.line l.next

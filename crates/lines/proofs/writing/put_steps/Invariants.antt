-- `lines::writing::put_steps` meets its contract: behind each turn the fields so far are put.
-- Assumes nothing.
use lib.ListN.{take}
use Rattle.rules.specs.Line.{fields}
use Rattle.lines.specs.Adding.{Adds}
use Rattle.lines.proofs.writing.put_steps.Given as goal

abbrev pub invariant-loop-step : goal.invariant-loop-step
invariant-loop-step l = Adds l.initial.line l.at (fields (take l.step-index l.steps)) l.line l.next

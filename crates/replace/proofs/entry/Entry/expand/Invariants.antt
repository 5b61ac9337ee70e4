-- `replace::entry::Entry::expand` meets its contract: the steps below `s` were taken.
-- Assumes nothing.
use Rattle.replace.specs.Taking.{StepsTaken}
use Rattle.replace.proofs.entry.Entry.expand.Given as goal

abbrev pub invariant-loop-s : goal.invariant-loop-s
invariant-loop-s l =
    StepsTaken l.self l.left l.right l.places l.s (record { marks = l.initial.marks; scratch = l.initial.scratch; tail = l.tail })
    (record { marks = l.marks; scratch = l.scratch; tail = l.end })

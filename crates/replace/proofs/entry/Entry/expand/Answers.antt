-- `replace::entry::Entry::expand` meets its contract: the steps below `s` were taken.
-- Assumes nothing.
use native.Mathlib.Omega.{arith}
use Rattle.replace.proofs.Expanding.{steps_none, steps_more, steps_all, ready_after}
use Rattle.replace.proofs.entry.Entry.expand.Goals as goal

pub loop-s-init : goal.loop-s-init
loop-s-init c = steps_none

pub take_step-end-requires : goal.take_step-end-requires
take_step-end-requires c = (ready_after c.requires.0 c.requires.1 c.loop-s.invariant, c.requires.1, omega arith)

pub loop-s-preserved : goal.loop-s-preserved
loop-s-preserved c = steps_more c.loop-s.invariant c.take_step-end.ensures

pub returns : goal.returns
returns c = steps_all c.loop-s.invariant c.step_limit-s-end.ensures (omega arith)

-- `lines::writing::put_steps` meets its contract: behind each turn the fields so far are put.
-- Assumes nothing.
use mathlib.Core.Path.{ap}
use lib.Seq.{take_all}
use Rattle.rules.specs.Line.{fields}
use Rattle.lines.proofs.Adding.{no-fields, adds_step, adds_as, room_step}
use Rattle.lines.proofs.writing.put_steps.Goals as goal

pub loop-step-init : goal.loop-step-init
loop-step-init c = no-fields _ _

pub put_field-next-requires : goal.put_field-next-requires
put_field-next-requires c = room_step c.args.steps.now c.loop-step.invariant c.from.ensures c.loop-step-test.true c.requires

pub loop-step-preserved : goal.loop-step-preserved
loop-step-preserved c = adds_step c.args.steps.now c.loop-step.invariant c.from.ensures c.loop-step-test.true c.put_field-next.ensures

pub returns : goal.returns
returns c = adds_as c.loop-step.invariant (ap fields (take_all _ _ c.loop-step-test.false))

-- `lines::writing::put_fields` meets its contract: behind each turn the fields so far are put.
-- Assumes nothing.
use mathlib.Core.Path.{refl, ap}
use lib.Seq.{take_all}
use Rattle.rules.specs.Line.{fields}
use Rattle.lines.proofs.Adding.{no-fields, adds_step, adds_as, room_step}
use Rattle.lines.proofs.writing.put_fields.Goals as goal

pub loop-k-init : goal.loop-k-init
loop-k-init c = no-fields _ _

pub put_field-next-requires : goal.put_field-next-requires
put_field-next-requires c = room_step c.args.all.now c.loop-k.invariant refl c.loop-k-test.true c.requires

pub loop-k-preserved : goal.loop-k-preserved
loop-k-preserved c = adds_step c.args.all.now c.loop-k.invariant refl c.loop-k-test.true c.put_field-next.ensures

pub returns : goal.returns
returns c = adds_as c.loop-k.invariant (ap fields (take_all _ _ c.loop-k-test.false))

-- `printer::line_for`: its areas are long enough for the largest tables of texts, so that what is written is the line.
-- Assumes nothing.
use Rattle.std.proofs.Common.{arith}
use Rattle.printer.proofs.Enough.{prints_into}
use Rattle.printer.proofs.line_for.Goals as goal

pub returns : goal.returns
returns c =
    prints_into c.args.input.now _ c.line_of_input-written.ensures
    (record { marks_long = omega arith; path_long = omega arith; scratch_long = omega arith; line_long = omega (arith, c.requires) })
    c.length_of.ensures

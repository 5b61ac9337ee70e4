-- `harness::line_in_own` meets its contract: of its areas only the line's can be too short.
-- Assumes nothing.
use native.Mathlib.Omega.{arith}
use Rattle.harness.proofs.Own.{tells_own}
use Rattle.harness.proofs.line_in_own.Goals as goal

pub returns : goal.returns
returns g c =
    tells_own
    (record {
      marks_long = omega (arith, c.requires.marks_long);
      path_long = omega (arith, c.requires.path_long);
      scratch_long = omega (arith, c.requires.scratch_long);
    })
    c.line_of_texts-written.ensures c.tell.ensures

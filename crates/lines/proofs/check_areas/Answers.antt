-- `lines::check_areas` meets its contract: the four sizes, over n × m.
-- Assumes nothing.
use native.Mathlib.Omega.{arith}
use Rattle.rules.specs.Writing.{marks_short, path_short, scratch_short, line_short}
use Rattle.lines.specs.Asking.{all_long, short}
use Rattle.lines.proofs.Sizes.{pairs_times}
use Rattle.lines.proofs.check_areas.Goals as goal

pub returns-then-marks-pairs : goal.returns-then-marks-pairs
returns-then-marks-pairs c = let e = pairs_times c.args.n c.args.m in rw c.too_short.ensures (short (marks_short (omega (arith, e.0))))

pub returns-then-path-pairs : goal.returns-then-path-pairs
returns-then-path-pairs c =
    let e = pairs_times c.args.n c.args.m in
    rw c.too_short-then-path-pairs.ensures (short (path_short (omega (arith, e.0)) (omega (arith, e.0))))

pub returns-then-scratch-pairs : goal.returns-then-scratch-pairs
returns-then-scratch-pairs c =
    let e = pairs_times c.args.n c.args.m in
    rw c.too_short-then-scratch-pairs.ensures (short (scratch_short (omega (arith, e.0)) (omega (arith, e.0)) (omega (arith, e.1))))

pub returns-then-line-pairs : goal.returns-then-line-pairs
returns-then-line-pairs c =
    let e = pairs_times c.args.n c.args.m in
    rw c.too_short-then-line-pairs.ensures
    (short (line_short (omega (arith, e.0)) (omega (arith, e.0)) (omega (arith, e.1)) (omega (arith, e.2))))

pub returns : goal.returns
returns c =
    let e = pairs_times c.args.n c.args.m in
    all_long
    (record {
      marks_long = omega (arith, e.0);
      path_long = omega (arith, e.0);
      scratch_long = omega (arith, e.1);
      line_long = omega (arith, e.2);
    })

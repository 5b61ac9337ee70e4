-- `replace::may_replace` meets its contract: each refusal where it applies, else the verdict.
-- Assumes nothing.
use native.Mathlib.Omega.{arith}
use mathlib.Core.Path.{refl, sym}
use Rattle.rules.specs.Replies.{new_not_formed, old_not_formed, marks_short, path_short, scratch_short}
use Rattle.rules.proofs.Formed.{formed}
use Rattle.replace.proofs.States.{sizes_asked}
use Rattle.replace.proofs.Longer.{pairs_counted, pairs_twice}
use Rattle.replace.proofs.may_replace.Goals as goal

pub returns-then-not-well_formed : goal.returns-then-not-well_formed
returns-then-not-well_formed c = new_not_formed (sym c.if-not-well_formed.ensures) refl

pub returns-then-not-well_formed-2 : goal.returns-then-not-well_formed-2
returns-then-not-well_formed-2 c = old_not_formed (sym c.if-not-well_formed.ensures) (sym c.if-not-well_formed-2.ensures) refl

pub new-sizes-requires : goal.new-sizes-requires
new-sizes-requires c = sizes_asked (formed (sym c.if-not-well_formed.ensures)) (formed (sym c.if-not-well_formed-2.ensures))

pub returns-then-marks-size : goal.returns-then-marks-size
returns-then-marks-size c =
    let e = pairs_counted c.args.new c.args.old c.new-sizes.ensures c.pair_count-size.ensures in
    marks_short (sym c.if-not-well_formed.ensures) (sym c.if-not-well_formed-2.ensures) (omega (arith, e)) refl

pub returns-then-path-size : goal.returns-then-path-size
returns-then-path-size c =
    let e = pairs_counted c.args.new c.args.old c.new-sizes.ensures c.pair_count-size.ensures in
    path_short (sym c.if-not-well_formed.ensures) (sym c.if-not-well_formed-2.ensures) (omega (arith, e)) (omega (arith, e)) refl

pub returns-then-scratch-size : goal.returns-then-scratch-size
returns-then-scratch-size c =
    let e = pairs_counted c.args.new c.args.old c.new-sizes.ensures c.pair_count-size.ensures in
    let d = pairs_twice c.args.new c.args.old c.new-sizes.ensures c.pair_count-size.ensures in
    scratch_short (sym c.if-not-well_formed.ensures) (sym c.if-not-well_formed-2.ensures) (omega (arith, e)) (omega (arith, e)) (omega (arith, d)) refl

pub decide-requires : goal.decide-requires
decide-requires c =
    let e = pairs_counted c.args.new c.args.old c.new-sizes.ensures c.pair_count-size.ensures in
    let d = pairs_twice c.args.new c.args.old c.new-sizes.ensures c.pair_count-size.ensures in
    record {
      new_formed = sym c.if-not-well_formed.ensures;
      old_formed = sym c.if-not-well_formed-2.ensures;
      marks_long = omega (arith, e);
      path_long = omega (arith, e);
      scratch_long = omega (arith, d);
    }

-- `lines::write_line` meets its contract: a refused text's line, a short area, or the verdict's line.
-- Assumes nothing.
use Rattle.std.proofs.Common.{◌≡◌, Err, refl, rules}
use native.Mathlib.Omega.{arith}
use Rattle.rules.specs.Writing.{LineAreas}
use Rattle.rules.proofs.SmallNumbers.{refusal_small}
use Rattle.lines.proofs.Asking.{read_accepted, read_refused, both_read, first_reply, second_reply, both_few, short_reply, no_refusal, verdict_fits, verdict_reply}
use Rattle.lines.proofs.write_line.Goals as goal

pub refused_text-requires : goal.refused_text-requires
refused_text-requires c = let s = refusal_small (read_refused c.requires.0 c.in-Err.is) in (s.0, omega arith, s.1)

pub returns-in-Err : goal.returns-in-Err
returns-in-Err c = first_reply refl (read_refused c.requires.0 c.in-Err.is) c.refused_text.ensures

pub refused_text-requires-in-Err-answer : goal.refused_text-requires-in-Err-answer
refused_text-requires-in-Err-answer c =
    let s = refusal_small (read_refused c.requires.1 c.in-Err-answer.is) in (s.0, omega arith, s.1)

pub returns-in-Err-answer : goal.returns-in-Err-answer
returns-in-Err-answer c =
    second_reply refl (read_accepted c.requires.0 c.in_default.is) (read_refused c.requires.1 c.in-Err-answer.is)
    c.refused_text-in-Err-answer.ensures

pub second_table-other-requires : goal.second_table-other-requires
second_table-other-requires c = read_accepted c.requires.1 c.in_default-answer.is

pub check_areas-requires : goal.check_areas-requires
check_areas-requires c =
    let few = both_few (both_read c.requires c.in_default.is c.in_default-answer.is c.second_table-other.ensures) in
    (omega (arith, few.0, c.from-n.ensures), omega (arith, few.1, c.from-m.ensures))

pub returns-in_err-check_areas : goal.returns-in_err-check_areas
returns-in_err-check_areas c =
    let e : c.from_residual.result ≡ Err c.in_err-check_areas.field-0.0 = search rules in
    let B = both_read c.requires c.in_default.is c.in_default-answer.is c.second_table-other.ensures in
    rw e (short_reply B (rw (c.from-n.ensures, c.from-m.ensures) at c.check_areas.ensures) c.in_err-check_areas.was)

pub decide-verdict-requires : goal.decide-verdict-requires
decide-verdict-requires c =
    let B = both_read c.requires c.in_default.is c.in_default-answer.is c.second_table-other.ensures in
    let before : LineAreas = record { lent = record { marks = c.args.marks.now; path = c.args.path.now; scratch = c.args.scratch.now }; line = c.args.line.now } in
    no_refusal B before (rw (c.from-n.ensures, c.from-m.ensures) at c.check_areas.ensures) c.in_ok-check_areas.was

pub put_verdict-requires : goal.put_verdict-requires
put_verdict-requires c =
    let B = both_read c.requires c.in_default.is c.in_default-answer.is c.second_table-other.ensures in
    let before : LineAreas = record { lent = record { marks = c.args.marks.now; path = c.args.path.now; scratch = c.args.scratch.now }; line = c.args.line.now } in
    verdict_fits B before (rw (c.from-n.ensures, c.from-m.ensures) at c.check_areas.ensures) c.in_ok-check_areas.was _ c.decide-verdict.ensures

pub returns : goal.returns
returns c =
    let B = both_read c.requires c.in_default.is c.in_default-answer.is c.second_table-other.ensures in
    verdict_reply B _ (rw (c.from-n.ensures, c.from-m.ensures) at c.check_areas.ensures) c.in_ok-check_areas.was _ c.decide-verdict.ensures c.put_verdict.ensures

-- `reader::definitions::read_definitions` meets its contract: before each turn the definitions so far are the beginning of a text.
-- Assumes nothing.
use native.Mathlib.Omega.{arith}
use Rattle.cursor.proofs.Symbols.{is_that, is_other}
use Rattle.type_reader.proofs.Handed.{handed_on}
use Rattle.type_reader.proofs.Safe.{take_ready}
use Rattle.reader.proofs.Looping.{first_got, later_got, text_refused, sound_within, loop_first, loop_next, loop_ended, origin_ready}
use Rattle.reader.proofs.definitions.read_definitions.Goals as goal

pub read_definition-requires : goal.read_definition-requires
read_definition-requires c = (take_ready (origin_ready c.requires.0 c.requires.1 c.requires.2) (c.take.ensures (omega arith)), c.requires.3)

pub returns-in_err-c : goal.returns-in_err-c
returns-in_err-c c =
    rw (handed_on c.from_residual.result c.from_residual.ensures.1)
    (text_refused (first_got (c.take.ensures (omega arith)) c.in_err-c.ensures.definition_read))

pub loop-c-init : goal.loop-c-init
loop-c-init c =
    let w = sound_within c.in_ok-c.ensures.sound in
    loop_first (c.take.ensures (omega arith)) c.in_ok-c.ensures.definition_read w.ready w.rows (c.take-t.ensures w.ready.inside)

pub returns-in_err-c-2 : goal.returns-in_err-c-2
returns-in_err-c-2 c =
    rw (handed_on c.from_residual-in_err-c-2.result c.from_residual-in_err-c-2.ensures.1)
    (text_refused (later_got c.loop-c.invariant (is_other _ _ c.is.ensures c.loop-c-test.true) c.in_err-c-2.ensures.definition_read))

pub loop-c-preserved : goal.loop-c-preserved
loop-c-preserved c =
    let i = c.loop-c.invariant in
    let w = sound_within c.in_ok-c-2.ensures.sound in
    let g = later_got i (is_other _ _ c.is.ensures c.loop-c-test.true) c.in_ok-c-2.ensures.definition_read in
    loop_next i.taken i.open_text g w.ready w.rows (c.take-t-in-loop-c.ensures w.ready.inside)

pub returns : goal.returns
returns c = loop_ended c.loop-c.invariant (is_that _ _ c.is.ensures c.loop-c-test.false)

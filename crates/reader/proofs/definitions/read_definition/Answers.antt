-- `reader::definitions::read_definition` meets its contract.
-- Assumes nothing.
use native.Mathlib.Omega.{arith}
use Rattle.type_reader.proofs.Handed.{handed_on}
use Rattle.type_reader.proofs.Safe.{take_ready, signed_onward, sound_past, label_ready, label_places}
use Rattle.reader.specs.Defining.{refused}
use Rattle.reader.proofs.Naming.{fresh_name}
use Rattle.reader.proofs.Defined.{definition_told₁, definition_told₂, definition_told₃, definition_told₄}
use Rattle.reader.proofs.Looping.{sound_signed, rows_stay}
use Rattle.reader.proofs.definitions.read_definition.Goals as goal

pub returns-in_err-c1 : goal.returns-in_err-c1
returns-in_err-c1 c =
    let e = handed_on c.from_residual.result c.from_residual.ensures.1 in
    record { sound = rw e refused; definition_read = rw e (definition_told₁ c.requires.0.ready.short _ _ _ _ c.in_err-c1.ensures _ _ _) }

pub returns-in_err-c2 : goal.returns-in_err-c2
returns-in_err-c2 c =
    let e = handed_on c.from_residual-in_err-c2.result c.from_residual-in_err-c2.ensures.1 in
    let f = c.in_ok-c1.ensures in
    record { sound = rw e refused; definition_read = rw e (definition_told₂ c.requires.0.ready.short _ _ _ _ f c.in_err-c2.ensures) }

pub read_type-requires : goal.read_type-requires
read_type-requires c =
    let g = signed_onward (label_ready c.requires.0 (fresh_name c.in_ok-c1.ensures).1) c.in_ok-c2.ensures (omega arith) in
    (take_ready g.ready (c.take.ensures g.ready.inside), omega arith)

pub returns-in_err-session : goal.returns-in_err-session
returns-in_err-session c =
    let e = handed_on c.from_residual-in_err-session.result c.from_residual-in_err-session.ensures.1 in
    let f = c.in_ok-c1.ensures in
    let g = signed_onward (label_ready c.requires.0 (fresh_name f).1) c.in_ok-c2.ensures (omega arith) in
    let k = c.take.ensures g.ready.inside in
    let h = c.in_err-session.ensures.type_read in
    record { sound = rw e refused; definition_read = rw e (definition_told₃ c.requires.0.ready.short _ _ _ _ f c.in_ok-c2.ensures k h _) }

pub sign-requires-2 : goal.sign-requires-2
sign-requires-2 c = (sound_past c.in_ok-session.ensures.sound).ready.inside

pub returns : goal.returns
returns c =
    let f = c.in_ok-c1.ensures in
    let g = signed_onward (label_ready c.requires.0 (fresh_name f).1) c.in_ok-c2.ensures (omega arith) in
    let k = c.take.ensures g.ready.inside in
    let z = sound_past c.in_ok-session.ensures.sound in
    let h = c.in_ok-session.ensures.type_read in
    let p = label_places (fresh_name f).1 in
    let st = c.store_definition.ensures in
    let stop = c.sign-2.ensures in
    record {
      sound =
          sound_signed z.ready stop (omega arith) (omega (arith, p.0, g.further, k.from, z.further, c.requires.0.order))
          (rows_stay c.args.definitions.now _ c.args.n c.args.t _ c.requires.1 st);
      definition_read = definition_told₄ c.requires.0.ready.short _ _ _ _ f c.in_ok-c2.ensures k _ _ _ _ c.requires.1 _ st h stop;
    }

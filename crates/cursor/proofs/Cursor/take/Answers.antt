-- `Cursor::take` meets its contract: by what stands behind the blanks.
-- Assumes nothing.
use mathlib.Core.Path.{◌≡◌, refl, sym, ◌∙◌}
use Prim.Native.Nat.{◌<◌}
use native.Mathlib.Omega.{arith}
use borrow.Author.Rules.{rules}
use lib.ListN.{length, get_or}
use Rattle.cursor.proofs.Taking.{take_end, take_byte, take_word}
use Rattle.cursor.proofs.Cursor.take.Goals as goal

pub returns-in_default : goal.returns-in_default
returns-in_default c = λ h. take_end _ _ h _ c.skip-c.ensures (search rules)

pub returns-then-not-is_letter : goal.returns-then-not-is_letter
returns-then-not-is_letter c =
    let within : c.skip-c.result.at < length c.args.s.now = search rules in
    let read : c.in-Some.field-0.now ≡ get_or c.args.s.now c.skip-c.result.at 0 = search rules in λ h.
    rw read
    (take_byte _ _ h _ c.skip-c.ensures _ c.moved.ensures within (rw read at (sym c.is_letter.ensures ∙ c.if-not-is_letter.true))
    (omega (arith, c.type_inv.s c.skip-c.result.at)))

pub returns : goal.returns
returns c =
    let within : c.skip-c.result.at < length c.args.s.now = search rules in
    let read : c.in-Some.field-0.now ≡ get_or c.args.s.now c.skip-c.result.at 0 = search rules in λ h.
    take_word _ _ h _ c.skip-c.ensures _ _ _ _ c.word_end-e.ensures c.word_symbol.ensures refl c.moved-2.ensures within
    (rw read at (sym c.is_letter.ensures ∙ c.if-not-is_letter.false))

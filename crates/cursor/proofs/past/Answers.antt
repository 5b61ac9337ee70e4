-- `cursor::past` meets its contract: whatever the test tells, the same byte is got to from `at` as from i.
-- Assumes nothing.
use mathlib.Core.Path.{sym, ◌∙◌}
use native.Mathlib.Omega.{arith}
use Rattle.rules.proofs.TokensBehind.{past_end, past_stop, past_on}
use Rattle.cursor.proofs.past.Goals as goal

pub returns-then-not-test : goal.returns-then-not-test
returns-then-not-test g c = λ p tells.
    sym (past_stop p _ _ (omega arith) (sym (tells _ _ (omega (arith, c.type_inv.s c.loop-at.at)) c.test.ensures) ∙ c.if-not-test.true))
    ∙ c.loop-at.invariant p tells

pub loop-at-preserved : goal.loop-at-preserved
loop-at-preserved g c = λ p tells.
    sym (past_on p _ _ (omega arith) (sym (tells _ _ (omega (arith, c.type_inv.s c.loop-at.at)) c.test.ensures) ∙ c.if-not-test.false))
    ∙ c.loop-at.invariant p tells

pub returns : goal.returns
returns g c = λ p tells.
    grind (arith, past_end p c.args.s.now c.args.i, past_end p c.args.s.now c.loop-at.at c.loop-at-test.false, c.loop-at.invariant p tells)

-- `cursor::past` meets its contract: whatever the test tells, the same byte is got to from `at` as from i.
-- Assumes nothing.
use Rattle.std.proofs.Common.{◌≡◌, ℕ, Bool}
use Rattle.rules.proofs.TokensBehind.{past}
use Rattle.cursor.specs.Takes.{Tells}
use Rattle.cursor.proofs.past.Given as goal

abbrev pub invariant-loop-at : goal.invariant-loop-at
invariant-loop-at g l = (p : ℕ → Bool) → Tells (goal.F-post g l.test) p → past p l.s l.at ≡ past p l.s l.i

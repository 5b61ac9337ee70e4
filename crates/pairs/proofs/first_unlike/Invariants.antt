-- `pairs::first_unlike` meets its contract: the items before position i agree.
-- Assumes nothing.
use Rattle.std.proofs.Common.{◌≡◌, ◌<◌, ◌≤◌, ℕ, false, not}
use Rattle.rules.specs.Tables.{item_at}
use Rattle.rules.specs.Pairs.{items_agree}
use Rattle.pairs.proofs.first_unlike.Given as goal

abbrev pub invariant-loop-i : goal.invariant-loop-i
invariant-loop-i l = (j : ℕ) → 0 ≤ j → j < l.i → not (items_agree (item_at l.x j) (item_at l.y j)) ≡ false

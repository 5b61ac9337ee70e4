-- `dual::hands_over_at` meets its contract.
-- Assumes nothing.
use Rattle.std.proofs.Common.{rules, tests}
use Rattle.rules.specs.Tables.{item_at}
use Rattle.rules.specs.Dual.{is_session, hands_over_at}
use Rattle.words.proofs.Every.{some_by_any}
use Rattle.dual.proofs.hands_over_at.Goals as goal

pub returns : goal.returns
unfolding hands_over_at
returns c = rw (← c.item_count.ensures) (some_by_any _ (λ i. is_session (item_at c.args.x.now i)) _ _ _ c.any.ensures.ran (λ i b q k. search (rules, tests)))

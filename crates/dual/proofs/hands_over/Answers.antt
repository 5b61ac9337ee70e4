-- `dual::hands_over` meets its contract.
-- Assumes nothing.
use Rattle.std.proofs.Common.{rules, tests}
use Rattle.rules.specs.Tables.{node_at}
use Rattle.rules.specs.Dual.{hands_over_at, hands_over}
use Rattle.words.proofs.Every.{some_by_any}
use Rattle.dual.proofs.hands_over.Goals as goal

pub returns : goal.returns
unfolding hands_over
returns c =
    rw (← c.from.ensures)
    (some_by_any _ (λ i. hands_over_at (node_at c.args.t.now i)) _ _ _ c.any.ensures.ran (λ i b q k. search (rules, tests)))

-- `pairs::first_unlike` meets its contract: the items before position i agree.
-- Assumes nothing.
use Rattle.std.proofs.Common.{false, not, ◌≡◌, ℕ, rules, arith}
use borrow.Author.Count.{below_more}
use Rattle.rules.specs.Tables.{item_at}
use Rattle.rules.specs.Pairs.{items_agree}
use Rattle.pairs.proofs.first_unlike.Goals as goal

pub loop-i-preserved : goal.loop-i-preserved
loop-i-preserved c =
    λ j p l.
    below_more (λ (k : ℕ). not (items_agree (item_at c.args.x.now k) (item_at c.args.y.now k)) ≡ false) c.loop-i.i
    (λ k q. c.loop-i.invariant k (omega arith) q) (search rules) j l

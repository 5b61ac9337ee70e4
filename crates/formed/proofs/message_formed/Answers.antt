-- `formed::message_formed` meets its contract: `all` asks it of each item.
-- Assumes nothing.
use mathlib.Core.Path.{◌≡◌}
use Rattle.std.proofs.Common.{rules, arith}
use Rattle.std.proofs.lemmas.Grind.{common_steps}
use Rattle.rules.specs.Basics.{every}
use Rattle.rules.specs.Tables.{item_at}
use Rattle.rules.specs.Formed.{item_formed, message_formed}
use Rattle.words.proofs.Every.{every_by_all}
use Rattle.formed.proofs.message_formed.Goals as goal

pub returns-then-continuation-n : goal.returns-then-continuation-n
unfolding message_formed
returns-then-continuation-n c =
    let e : c.all.result ≡ every c.item_count-count.result (λ i. item_formed c.args.n (item_at c.args.x.now i)) =
    every_by_all _ _ _ _ _ c.all.ensures.ran (λ x b q k. search rules) in
    grind (arith, common_steps)

pub returns-else-continuation-n : goal.returns-else-continuation-n
unfolding message_formed
returns-else-continuation-n c = grind (arith, common_steps)

-- `pairs::find_label` meets its contract: what the searches behind and before `start` find is the place.
-- Assumes nothing.
use Rattle.std.proofs.Common.{arith, rules}
use Rattle.pairs.proofs.Labels.{found_round}
use Rattle.pairs.proofs.find_label.Goals as goal

pub returns : goal.returns
returns c =
    found_round _ _ _ c.requires (omega arith) c.find_between-behind.ensures (λ p. search rules) c.or_else.ensures

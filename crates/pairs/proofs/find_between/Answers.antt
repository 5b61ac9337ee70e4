-- `pairs::find_between` meets its contract: what `find` comes to over the positions.
-- Assumes nothing.
use Rattle.std.proofs.Common.{true, false, ◌≡◌, ℕ, rules, tests}
use Rattle.std.proofs.lemmas.Iterator.{first_from_Range}
use Rattle.rules.specs.Basics.{same}
use Rattle.pairs.specs.Beside.{spelled}
use Rattle.pairs.proofs.find_between.Goals as goal

pub returns : goal.returns
returns c =
    let has = λ (j : ℕ). same c.args.w.now (spelled c.args.labels.now c.args.names.now j) in
    first_from_Range _ _ _ _ (λ j. has j ≡ true) (λ j. has j ≡ false) c.find.ensures.ran
    (λ j q k. search (rules, tests)) (λ j q k. search (rules, tests))

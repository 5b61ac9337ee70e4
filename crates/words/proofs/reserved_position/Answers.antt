-- `words::reserved_position` meets its contract: what `find` over the rows answers is what `first` finds of them.
-- Assumes nothing.
use mathlib.Core.List.{[]}
use lib.ListN.{length, get_or}
use Rattle.std.proofs.Common.{rules}
use Rattle.rules.specs.Basics.{same}
use Rattle.rules.specs.Words.{reserved_words, reserved_position}
use Rattle.words.proofs.Found.{found_by_find}
use Rattle.words.proofs.reserved_position.Goals as goal

pub returns : goal.returns
unfolding reserved_position
returns c =
    found_by_find (length reserved_words) (λ k. same c.args.w.now (get_or reserved_words k [])) _ _ _ c.find.ensures.ran
    (λ x b q k. search rules)

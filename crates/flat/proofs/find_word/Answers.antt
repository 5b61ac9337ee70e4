-- `flat::find_word` meets its contract: what `find` over the rows answers is what `first` finds of them.
-- Assumes nothing.
use lib.ListN.{get_or}
use Prim.Native.Nat.{◌+◌, ◌*◌}
use Rattle.std.proofs.Common.{rules}
use Rattle.rules.specs.Basics.{part, same}
use Rattle.words.proofs.Found.{found_by_find}
use Rattle.flat.specs.Flat.{row, word_found}
use Rattle.flat.proofs.find_word.Goals as goal

pub returns : goal.returns
unfolding word_found
returns c =
    found_by_find c.args.n
    (λ i. same (part c.args.s.now (get_or c.args.rows.now (i * row) 0) (get_or c.args.rows.now (i * row + 1) 0)) c.args.w.now) _ _ _
    c.find.ensures.ran (λ x b q k. search rules)

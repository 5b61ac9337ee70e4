-- `formed::label_new` meets its contract: `all` asks it of each label before.
-- Assumes nothing.
use mathlib.Core.Bool.{not}
use Rattle.std.proofs.Common.{rules}
use Rattle.rules.specs.Basics.{same}
use Rattle.rules.specs.Tables.{spelling_at}
use Rattle.rules.specs.Formed.{label_new}
use Rattle.words.proofs.Every.{every_by_all}
use Rattle.formed.proofs.label_new.Goals as goal

pub returns : goal.returns
unfolding label_new
returns c = every_by_all _ (λ j. not (same (spelling_at c.args.x.now c.args.names.now c.args.i) (spelling_at c.args.x.now c.args.names.now j))) _ _ _ c.all.ensures.ran (λ x b q k. search rules)

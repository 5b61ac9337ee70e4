-- `words::same_bytes` meets its contract: `==` asks of each place whether the two bytes there are the same.
-- Assumes nothing.
use mathlib.Core.Path.{sym, ◌∙◌}
use Rattle.words.proofs.Lists.{same_pointwise}
use Rattle.words.proofs.same_bytes.Goals as goal

pub returns : goal.returns
returns c = c.eq.ensures ∙ sym (same_pointwise c.args.a.now c.args.b.now)

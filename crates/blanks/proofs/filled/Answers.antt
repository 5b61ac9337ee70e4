-- `blanks::filled` meets its contract.
-- Assumes nothing.
use native.Mathlib.Omega.{arith}
use lib.ListN.{length-replicate, length-set}
use mathlib.Core.Path.{◌∙◌}
use Rattle.rules.proofs.Filling.{fills_none, fills_one}
use Rattle.blanks.proofs.filled.Goals as goal

pub loop-i-init : goal.loop-i-init
loop-i-init g c = (length-replicate g.row.N c.args.blank, λ f h. fills_none _ _ f)

pub loop-i-preserved : goal.loop-i-preserved
loop-i-preserved g c = (
  length-set c.loop-i.all c.loop-i.i c.at.result ∙ c.loop-i.invariant.0,
  λ f h. fills_one _ _ f _ _ _ (omega arith) (c.loop-i.invariant.1 f h) (h _ _ c.loop-i-test.true c.at.ensures),
)

-- `search::depth` meets its contract: k steps up from `at`, k more than the steps to i lead to `at`.
-- Assumes nothing.
use native.Mathlib.Omega.{arith}
use Rattle.search.proofs.Loops.{walk-begin, walk_turn, walk_end}
use Rattle.search.proofs.depth.Goals as goal

pub loop-i-init : goal.loop-i-init
loop-i-init c = walk-begin c.requires

pub loop-i-preserved : goal.loop-i-preserved
loop-i-preserved c = walk_turn c.loop-i.invariant (omega arith) c.from-i.ensures

pub returns : goal.returns
returns c = walk_end c.loop-i.invariant (omega arith)

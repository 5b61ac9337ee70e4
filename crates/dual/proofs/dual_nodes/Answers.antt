-- `dual::dual_nodes` meets its contract.
-- Assumes nothing.
use mathlib.Core.Path.{◌∙◌}
use Rattle.std.proofs.Common.{rules, tests}
use Rattle.dual.proofs.Nodes.{node_of_both, nodes_there}
use Rattle.dual.proofs.dual_nodes.Goals as goal

pub returns : goal.returns
unfolding node_of_both
returns c = c.filled.ensures (node_of_both c.args.t.now) (λ i x l p. search (rules, tests)) ∙ nodes_there c.args.t.now c.args.both c.dual_count.ensures

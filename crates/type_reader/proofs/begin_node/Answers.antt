-- `type_reader::begin_node` meets its contract.
-- Assumes nothing.
use native.Mathlib.Omega.{arith}
use Rattle.type_reader.specs.Leaves.{begun, not_begun}
use Rattle.type_reader.proofs.begin_node.Goals as goal

pub returns-then-n-ge-TEXT_NODES_MOST : goal.returns-then-n-ge-TEXT_NODES_MOST
returns-then-n-ge-TEXT_NODES_MOST c = rw c.refusal.ensures (not_begun c.if-n-ge-TEXT_NODES_MOST.true)

pub returns : goal.returns
returns c = begun (omega arith)

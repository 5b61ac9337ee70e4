-- `search::visit` meets its contract.
-- Assumes nothing.
use mathlib.Core.Path.{sym}
use native.Mathlib.Omega.{arith}
use Rattle.search.proofs.Queues.{queue_room, visited-met, visited_new}
use Rattle.search.proofs.visit.Goals as goal

pub returns-then-marks-to-ne0 : goal.returns-then-marks-to-ne0
returns-then-marks-to-ne0 c = sym (visited-met _ _ _ _ _ c.if-marks-to-ne0.true)

pub prove-unreachable-requires : goal.prove-unreachable-requires
prove-unreachable-requires c = omega (arith, queue_room c.requires.0 c.requires.3 c.if-marks-to-ne0.false)

pub returns : goal.returns
returns c = sym (visited_new _ _ _ _ _ c.if-marks-to-ne0.false)

-- `judging::main`: no more tables are well formed than there were rounds.
-- Assumes nothing.
use Rattle.std.proofs.Common.{◌≤◌}
use Rattle.judging.proofs.main.Given as goal

abbrev pub invariant-loop-round : goal.invariant-loop-round
invariant-loop-round l = l.good ≤ l.round

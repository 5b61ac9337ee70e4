-- `reader::definitions::read_definitions` meets its contract: before each turn the definitions so far are the beginning of a text.
-- Assumes nothing.
use Prim.Native.Nat.{◌-◌}
use lib.ListN.{length}
use Rattle.reader.proofs.Looping.{Looping}
use Rattle.reader.proofs.definitions.read_definitions.Given as goal

abbrev pub invariant-loop-c : goal.invariant-loop-c
invariant-loop-c l = Looping l.s l.areas.nodes l.areas.uses l.definitions l.c l.n l.t

abbrev pub decreases-loop-c : goal.decreases-loop-c
decreases-loop-c l = length l.s - l.c.at

-- `names::find_ends` meets its contract: each definition below `d` leads to a node, and which is written.
-- Assumes nothing.
use Rattle.flat.specs.Flat.{a_use}
use Rattle.names.specs.Following.{leads, Written}
use Rattle.names.proofs.find_ends.Given as goal

abbrev pub invariant-loop-d : goal.invariant-loop-d
invariant-loop-d l = Written (leads l.definitions l.owners l.n) a_use l.d l.initial.ends l.ends l.d

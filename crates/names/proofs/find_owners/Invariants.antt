-- `names::find_owners` meets its contract: each use below `u` names a definition, and which is written.
-- Assumes nothing.
use Rattle.names.specs.Following.{owner, Written}
use Rattle.names.proofs.find_owners.Given as goal

abbrev pub invariant-loop-u : goal.invariant-loop-u
invariant-loop-u l = Written (owner l.s l.definitions l.n l.uses) l.n l.u l.initial.owners l.owners l.u

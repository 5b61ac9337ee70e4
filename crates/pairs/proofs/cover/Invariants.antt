-- `pairs::cover` meets its contract: the labels of x before the one at `i` are found, and their places kept.
-- Assumes nothing.
use Rattle.pairs.proofs.Labels.{PlacedBefore}
use Rattle.pairs.proofs.cover.Given as goal

abbrev pub invariant-loop-i : goal.invariant-loop-i
invariant-loop-i l = PlacedBefore l.x l.xs l.y l.ys l.i l.places

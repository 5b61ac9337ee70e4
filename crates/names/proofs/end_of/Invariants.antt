-- `names::end_of` meets its contract: from `at` on, through the names that are left, the same is got to as from d through n.
-- Assumes nothing.
use mathlib.Core.Path.{◌≡◌}
use Prim.Native.Nat.{◌<◌, ◌-◌}
use Rattle.names.specs.Following.{leads}
use Rattle.names.proofs.end_of.Given as goal

abbrev pub invariant-loop : goal.invariant-loop
invariant-loop l = record {
  within : l.at < l.n;
  same : leads l.definitions l.owners (l.n - l.counter) l.at ≡ leads l.definitions l.owners l.n l.d;
}

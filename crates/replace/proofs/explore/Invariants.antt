-- `replace::explore` meets its contract: at each entry the search stands there, with the entries before it expanded.
-- Assumes nothing.
use Prim.Native.Nat.{◌-◌, ◌≤◌}
use Rattle.rules.specs.Replies.{pair_count}
use Rattle.replace.specs.State.{State}
use Rattle.replace.proofs.explore.Given as goal

abbrev pub invariant-loop-at : goal.invariant-loop-at
invariant-loop-at l = record {
  state : State l.new l.new_names l.old l.old_names (record { marks = l.marks; scratch = l.scratch; tail = l.tail }) l.at l.at 0;
  room : l.tail ≤ pair_count l.new l.old;
}

abbrev pub decreases-loop-at : goal.decreases-loop-at
decreases-loop-at l = pair_count l.new l.old - l.at

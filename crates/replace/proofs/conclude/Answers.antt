-- `replace::conclude` meets its contract: the search's end is settled as declared.
-- Assumes nothing.
use native.Mathlib.Omega.{arith}
use Rattle.search.proofs.Queues.{queue_fits}
use Rattle.replace.proofs.Verdicts.{concluded_yes, concluded_no}
use Rattle.replace.proofs.conclude.Goals as goal

pub offset_bounds-scratch-at : goal.offset_bounds-scratch-at
offset_bounds-scratch-at c = let E = c.requires.entry _ c.in-Err.is in omega (arith, queue_fits E.queue)

pub bounds-scratch-at : goal.bounds-scratch-at
bounds-scratch-at c = let E = c.requires.entry _ c.in-Err.is in omega (arith, queue_fits E.queue)

pub leave_run-steps-requires : goal.leave_run-steps-requires
leave_run-steps-requires c = rw c.pair_count.ensures (c.requires.entry _ c.in-Err.is, c.requires.path_long)

pub returns-in-Ok : goal.returns-in-Ok
returns-in-Ok c = concluded_yes c.in-Ok.is c.leave_marks.ensures.0 c.leave_marks.ensures.1

pub returns-in-Err : goal.returns-in-Err
returns-in-Err c =
    concluded_no c.in-Err.is c.pair_count.ensures c.from-last.ensures c.leave_run-steps.ensures c.found.ensures

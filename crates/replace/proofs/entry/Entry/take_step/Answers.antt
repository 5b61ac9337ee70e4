-- `replace::entry::Entry::take_step` meets its contract: where the step leads to a pair, that is a pair of nodes, and has its place.
-- Assumes nothing.
use native.Mathlib.Omega.{arith}
use Rattle.rules.proofs.Places.{place_below}
use Rattle.replace.proofs.Stepping.{step_inside}
use Rattle.replace.proofs.entry.Entry.take_step.Goals as goal

pub mark_place-to-requires : goal.mark_place-to-requires
mark_place-to-requires c = step_inside c.step.ensures c.in-Some.is c.pair_after.ensures c.requires.1

pub visit-requires : goal.visit-requires
visit-requires c =
    let inside = step_inside c.step.ensures c.in-Some.is c.pair_after.ensures c.requires.1 in (
      rw c.pair_count-size.ensures c.requires.0.queue,
      c.requires.0.entry,
      omega arith,
      omega (arith, c.pair_count-size.ensures, c.mark_place-to.ensures, place_below inside),
    )

-- `replace::explore` meets its contract: at each entry the search stands there, with the entries before it expanded.
-- Assumes nothing.
use mathlib.Core.Path.{◌≡◌, refl}
use Rattle.std.proofs.Common.{rules, Ok}
use Rattle.std.proofs.lemmas.Result.{err_from_is_err_and}
use Rattle.rules.proofs.Formed.{formed}
use Rattle.search.proofs.Queues.{queue_fits}
use Rattle.replace.proofs.Mapped.{mapped_err}
use Rattle.replace.proofs.States.{sizes_asked, starts_inside, begin_asks, begun_state, entry_inside, entry_ready, entry_nodes, entry_expanded, entry_wrong}
use Rattle.replace.proofs.explore.Goals as goal

pub new-sizes-requires : goal.new-sizes-requires
new-sizes-requires c = sizes_asked (formed c.requires.0) (formed c.requires.1)

pub mark_place-requires : goal.mark_place-requires
mark_place-requires c =
    starts_inside (formed c.requires.0) (formed c.requires.1) c.new-sizes.ensures (c.from.ensures, c.from-2.ensures)

pub begin-requires : goal.begin-requires
begin-requires c =
    begin_asks (formed c.requires.0) (formed c.requires.1) c.new-sizes.ensures (c.from.ensures, c.from-2.ensures)
    c.pair_count.ensures c.mark_place.ensures c.requires.2 c.requires.3

pub loop-at-init : goal.loop-at-init
loop-at-init c =
    let state =
    begun_state (formed c.requires.0) (formed c.requires.1) c.new-sizes.ensures (c.from.ensures, c.from-2.ensures)
    c.pair_count.ensures c.mark_place.ensures c.begin.ensures in
    record { state = state; room = queue_fits state.queue }

pub invariant_of-entry : goal.invariant_of-entry
invariant_of-entry c =
    record {
      turn_below =
          (entry_inside (formed c.requires.0) (formed c.requires.1) c.loop-at.invariant.state c.loop-at-test.true c.new-sizes.result
          c.new-sizes.ensures c.from-in-loop-at.ensures c.pair_at-pair.ensures).turn_below;
    }

pub take_nodes-requires : goal.take_nodes-requires
take_nodes-requires c = (
  entry_ready (formed c.requires.0) (formed c.requires.1) c.loop-at.invariant.state c.loop-at-test.true c.new-sizes.result
      c.new-sizes.ensures c.from-in-loop-at.ensures c.pair_at-pair.ensures _,
  entry_nodes (formed c.requires.0) (formed c.requires.1) c.loop-at.invariant.state c.loop-at-test.true c.new-sizes.result
      c.new-sizes.ensures c.from-in-loop-at.ensures c.pair_at-pair.ensures _ _ (refl, refl) (refl, refl) _,
)

pub returns-in_err-tail : goal.returns-in_err-tail
returns-in_err-tail c =
    let p = err_from_is_err_and c.from_residual.result c.from_residual.ensures.1 in
    let m = mapped_err _ c.take_nodes.result c.map_err.result _ c.map_err.ensures.cases c.in_err-tail.was in
    let q : c.in_err-tail.field-0.0 ≡ record { at = c.loop-at.at; mismatch = m.0 } = search rules in
    rw (p.1, p.2, q)
    (entry_wrong (formed c.requires.0) (formed c.requires.1) c.loop-at.invariant.state c.loop-at-test.true c.new-sizes.result
    c.new-sizes.ensures c.from-in-loop-at.ensures c.pair_at-pair.ensures _ _ (refl, refl) (refl, refl) (rw m.1 at c.take_nodes.ensures))

pub loop-at-preserved : goal.loop-at-preserved
loop-at-preserved c =
    let went : c.take_nodes.result ≡ Ok c.in_ok-tail.tail = search rules in
    let state =
    entry_expanded (formed c.requires.0) (formed c.requires.1) c.loop-at.invariant.state c.loop-at-test.true c.new-sizes.result
    c.new-sizes.ensures c.from-in-loop-at.ensures c.pair_at-pair.ensures _ _ (refl, refl) (refl, refl) (rw went at c.take_nodes.ensures) in
    record { state = state; room = queue_fits state.queue }

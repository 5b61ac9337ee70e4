-- `pairs::cover` meets its contract: the labels of x before the one at `i` are found, and their places kept.
-- Assumes nothing.
use Rattle.std.proofs.Common.{Err, ◌≡◌, arith, rules}
use Rattle.pairs.proofs.Labels.{place_one, lacks_one, lacks_none}
use Rattle.pairs.proofs.cover.Goals as goal
use Rattle.table.specs.declared.answers.Mismatch.TheVariants as mismatch

pub returns-in_err-at : goal.returns-in_err-at
returns-in_err-at c =
    let e : c.from_residual.result ≡ Err (mismatch.Label c.loop-i.i) = search rules in
    rw e
    (lacks_one _ _ _ _ _ c.spelling-w.ensures c.label_count-other.ensures c.loop-i.invariant (omega arith)
    (rw c.in_err-at.ensures.ok_part at c.find_label.ensures))

pub loop-i-preserved : goal.loop-i-preserved
loop-i-preserved c =
    place_one _ _ _ _ _ c.spelling-w.ensures c.label_count-other.ensures c.loop-i.invariant (omega arith)
    (rw c.in_ok-at.ensures.ok_part at c.find_label.ensures)

pub returns : goal.returns
returns c = lacks_none _ _ _ _ c.loop-i.invariant (omega arith)

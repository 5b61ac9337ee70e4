-- `pairs::compare` meets its contract: the reasons in their order, then the labels of the chooser.
-- Assumes nothing.
use Rattle.std.proofs.Common.{sym, arith}
use Rattle.rules.specs.Pairs.{mismatch_of, kinds_differ, counts_differ, item_differs}
use Rattle.pairs.proofs.SameKind.{same_kinds}
use Rattle.pairs.proofs.Firsts.{at_first_some, at_first_none}
use Rattle.pairs.proofs.Comparing.{compared_left, compared_right}
use Rattle.pairs.proofs.compare.Goals as goal
use Rattle.table.specs.declared.answers.Mismatch.TheVariants as mismatch

pub returns-then-ne : goal.returns-then-ne
unfolding mismatch_of kinds_differ
returns-then-ne c = grind (arith, same_kinds c.args.x.now.kind c.args.y.now.kind)

pub returns-then-item_count : goal.returns-then-item_count
unfolding mismatch_of kinds_differ counts_differ
returns-then-item_count c = grind (arith, same_kinds c.args.x.now.kind c.args.y.now.kind)

pub returns-in-Some : goal.returns-in-Some
unfolding mismatch_of kinds_differ counts_differ item_differs
returns-in-Some c = grind (arith, same_kinds c.args.x.now.kind c.args.y.now.kind, at_first_some mismatch.Item c.in-Some.ensures)

pub returns-then-left_chooses : goal.returns-then-left_chooses
unfolding mismatch_of kinds_differ counts_differ item_differs
returns-then-left_chooses c =
    compared_left _ _ _ _ _ (grind (arith, same_kinds c.args.x.now.kind c.args.y.now.kind, at_first_none mismatch.Item c.in_default.ensures))
    (sym c.if-left_chooses.ensures) c.cover.ensures

pub returns-else-left_chooses : goal.returns-else-left_chooses
unfolding mismatch_of kinds_differ counts_differ item_differs
returns-else-left_chooses c =
    compared_right _ _ _ _ _ (grind (arith, same_kinds c.args.x.now.kind c.args.y.now.kind, at_first_none mismatch.Item c.in_default.ensures))
    (sym c.if-left_chooses.ensures) c.cover-else-left_chooses.ensures

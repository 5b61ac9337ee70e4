-- `type_reader::bracket` meets its contract.
-- Assumes nothing.
use native.Mathlib.Omega.{arith}
use Rattle.cursor.proofs.Symbols.{is_that, is_other}
use Rattle.type_reader.specs.Leaves.{opened, too_deep, not_opened}
use Rattle.type_reader.proofs.bracket.Goals as goal

pub returns-then-not-is : goal.returns-then-not-is
returns-then-not-is c = rw c.refusal.ensures (not_opened (c.take-t.ensures c.requires) (is_other _ _ c.is.ensures c.if-not-is.true))

pub returns-then-deep-ge-BRACKETS_MOST : goal.returns-then-deep-ge-BRACKETS_MOST
returns-then-deep-ge-BRACKETS_MOST c =
    rw c.refusal-then-deep-ge-BRACKETS_MOST.ensures
    (too_deep (c.take-t.ensures c.requires) (is_that _ _ c.is.ensures c.if-not-is.false) c.if-deep-ge-BRACKETS_MOST.true)

pub returns : goal.returns
returns c = opened (c.take-t.ensures c.requires) (is_that _ _ c.is.ensures c.if-not-is.false) (omega arith)

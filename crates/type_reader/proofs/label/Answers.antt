-- `type_reader::label` meets its contract.
-- Assumes nothing.
use Prim.Native.Nat.{◌+◌, ◌-◌, ◌*◌, ◌≤◌}
use borrow.Author.Tests.{ltb-true, ltb-false}
use mathlib.Core.Path.{sym, ◌∙◌}
use native.Mathlib.Omega.{arith}
use Rattle.rules.specs.Numbers.{text_most}
use Rattle.rules.specs.Words.{word_most}
use Rattle.cursor.proofs.Symbols.{is_that, is_other}
use Rattle.flat.specs.Flat.{room, list_from}
use Rattle.type_reader.specs.Leaves.{no_label, long_label, label_too_many, label_twice, labelled}
use Rattle.type_reader.proofs.Labelling.{row_found, rows_other}
use Rattle.type_reader.proofs.label.Goals as goal

pub returns-then-not-is : goal.returns-then-not-is
returns-then-not-is c = rw c.refusal.ensures (no_label (is_other _ _ c.is.ensures c.if-not-is.true))

pub returns-then-too_long : goal.returns-then-too_long
returns-then-too_long c = rw c.refusal-then-too_long.ensures (long_label (is_that _ _ c.is.ensures c.if-not-is.false) (ltb-true _ _ (sym c.too_long.ensures ∙ c.if-too_long.true)))

pub returns-then-n-ge-LABELS_MOST : goal.returns-then-n-ge-LABELS_MOST
returns-then-n-ge-LABELS_MOST c =
    rw c.refusal-then-n-ge-LABELS_MOST.ensures
    (label_too_many (is_that _ _ c.is.ensures c.if-not-is.false) (ltb-false _ _ (sym c.too_long.ensures ∙ c.if-too_long.false)) c.if-n-ge-LABELS_MOST.true)

pub returns-then-is_some : goal.returns-then-is_some
returns-then-is_some c =
    let short : c.args.t.len ≤ word_most = ltb-false _ _ (sym c.too_long.ensures ∙ c.if-too_long.false) in
    let (j, l, h) = row_found _ c.args.nodes.now (c.args.node * room + list_from) (text_most - (c.args.node * room + list_from)) c.args.n
    (omega arith) _ c.find_word.ensures c.is_some.ensures c.word_at.ensures c.if-is_some.true in
    rw c.refusal-then-is_some.ensures (label_twice (is_that _ _ c.is.ensures c.if-not-is.false) short (omega arith) j l h)

pub returns : goal.returns
returns c =
    let short : c.args.t.len ≤ word_most = ltb-false _ _ (sym c.too_long.ensures ∙ c.if-too_long.false) in
    labelled (is_that _ _ c.is.ensures c.if-not-is.false) short (omega arith)
    (rows_other _ c.args.nodes.now (c.args.node * room + list_from) (text_most - (c.args.node * room + list_from)) c.args.n
    (omega arith) _ c.find_word.ensures c.is_some.ensures c.word_at.ensures c.if-is_some.false)

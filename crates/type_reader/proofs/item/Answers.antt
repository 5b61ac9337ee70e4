-- `type_reader::item` meets its contract.
-- Assumes nothing.
use borrow.Author.Tests.{ltb-true, ltb-false}
use mathlib.Core.Path.{sym, ◌∙◌}
use native.Mathlib.Omega.{arith}
use borrow.Author.Rules.{rules}
use mathlib.Core.Bool.{false}
use mathlib.Core.Path.{◌≡◌}
use Rattle.cursor.specs.Takes.{number}
use Rattle.type_reader.proofs.Sorts.{sort_word}
use Rattle.type_reader.specs.Leaves.{is_sort, no_item, long_item, item_too_many, a_sort, a_type}
use Rattle.type_reader.proofs.item.Goals as goal

pub returns-then-not-begins_item : goal.returns-then-not-begins_item
returns-then-not-begins_item c = rw c.refusal.ensures (no_item (sym c.begins_item.ensures ∙ c.if-not-begins_item.true))

pub returns-then-too_long : goal.returns-then-too_long
returns-then-too_long c = rw c.refusal-then-too_long.ensures (long_item (sym c.begins_item.ensures ∙ c.if-not-begins_item.false) (ltb-true _ _ (sym c.too_long.ensures ∙ c.if-too_long.true)))

pub returns-then-n-ge-ITEMS_MOST : goal.returns-then-n-ge-ITEMS_MOST
returns-then-n-ge-ITEMS_MOST c =
    rw c.refusal-then-n-ge-ITEMS_MOST.ensures
    (item_too_many (sym c.begins_item.ensures ∙ c.if-not-begins_item.false) (ltb-false _ _ (sym c.too_long.ensures ∙ c.if-too_long.false)) c.if-n-ge-ITEMS_MOST.true)

pub returns-in-Sort : goal.returns-in-Sort
returns-in-Sort c =
    let (e, v) = sort_word c.in-Sort.sort in
    a_sort (ltb-false _ _ (sym c.too_long.ensures ∙ c.if-too_long.false)) (omega arith) (rw c.in-Sort.is e) (rw c.in-Sort.is v)

pub returns-in_default : goal.returns-in_default
unfolding is_sort
returns-in_default c =
    let no_sort : is_sort (number c.args.t.symbol) ≡ false = search rules in
    a_type (sym c.begins_item.ensures ∙ c.if-not-begins_item.false) (ltb-false _ _ (sym c.too_long.ensures ∙ c.if-too_long.false)) (omega arith) no_sort

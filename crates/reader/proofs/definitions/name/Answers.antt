-- `reader::definitions::name` meets its contract.
-- Assumes nothing.
use Prim.Native.Nat.{◌≤◌}
use borrow.Author.Tests.{ltb-true, ltb-false}
use mathlib.Core.Path.{sym, ◌∙◌}
use native.Mathlib.Omega.{arith}
use Rattle.rules.specs.Words.{word_most}
use Rattle.cursor.proofs.Symbols.{is_that, is_other}
use Rattle.reader.specs.Defining.{no_name, long_name, name_too_many, name_twice, new_name}
use Rattle.reader.proofs.Naming.{name_found, names_other}
use Rattle.reader.proofs.definitions.name.Goals as goal

pub returns-then-not-is : goal.returns-then-not-is
returns-then-not-is c = rw c.refusal.ensures (no_name (is_other _ _ c.is.ensures c.if-not-is.true))

pub returns-then-too_long : goal.returns-then-too_long
returns-then-too_long c = rw c.refusal-then-too_long.ensures (long_name (is_that _ _ c.is.ensures c.if-not-is.false) (ltb-true _ _ (sym c.too_long.ensures ∙ c.if-too_long.true)))

pub returns-then-n-ge-DEFINITIONS_MOST : goal.returns-then-n-ge-DEFINITIONS_MOST
returns-then-n-ge-DEFINITIONS_MOST c =
    rw c.refusal-then-n-ge-DEFINITIONS_MOST.ensures
    (name_too_many (is_that _ _ c.is.ensures c.if-not-is.false) (ltb-false _ _ (sym c.too_long.ensures ∙ c.if-too_long.false)) c.if-n-ge-DEFINITIONS_MOST.true)

pub returns-then-is_some : goal.returns-then-is_some
returns-then-is_some c =
    let short : c.args.t.len ≤ word_most = ltb-false _ _ (sym c.too_long.ensures ∙ c.if-too_long.false) in
    let (j, l, h) = name_found _ _ _ _ c.find_word.ensures c.is_some.ensures c.word_at.ensures c.if-is_some.true in
    rw c.refusal-then-is_some.ensures (name_twice (is_that _ _ c.is.ensures c.if-not-is.false) short (omega arith) j l h)

pub returns : goal.returns
returns c =
    let short : c.args.t.len ≤ word_most = ltb-false _ _ (sym c.too_long.ensures ∙ c.if-too_long.false) in
    new_name (is_that _ _ c.is.ensures c.if-not-is.false) short (omega arith)
    (names_other _ _ _ _ c.find_word.ensures c.is_some.ensures c.word_at.ensures c.if-is_some.false)

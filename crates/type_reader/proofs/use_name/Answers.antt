-- `type_reader::use_name` meets its contract.
-- Assumes nothing.
use borrow.Author.Tests.{ltb-true, ltb-false}
use mathlib.Core.Path.{refl, sym, ◌∙◌}
use Rattle.type_reader.specs.Leaves.{used_name, long_name}
use Rattle.type_reader.proofs.use_name.Goals as goal

pub returns-then-too_long : goal.returns-then-too_long
returns-then-too_long c = rw c.refusal.ensures (long_name (ltb-true _ _ (sym c.too_long.ensures ∙ c.if-too_long.true)))

pub returns : goal.returns
returns c = used_name (ltb-false _ _ (sym c.too_long.ensures ∙ c.if-too_long.false)) refl

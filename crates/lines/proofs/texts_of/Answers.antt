-- `lines::texts_of` meets its contract: the texts stand before and behind the first byte 0.
-- Assumes nothing.
use mathlib.Core.Path.{sym, ◌∙◌}
use Rattle.lines.proofs.Splitting.{before_zero, behind_zero, first_whole, second_empty}
use Rattle.lines.proofs.texts_of.Goals as goal

pub returns-in-Some-clause-first : goal.returns-in-Some-clause-first
returns-in-Some-clause-first c = before_zero c.args.input.now (sym c.first_zero.ensures ∙ c.in-Some.is)

pub returns-in-Some-clause-second : goal.returns-in-Some-clause-second
returns-in-Some-clause-second c = behind_zero c.args.input.now (sym c.first_zero.ensures ∙ c.in-Some.is)

pub returns-in-None-clause-first : goal.returns-in-None-clause-first
returns-in-None-clause-first c = first_whole c.args.input.now (sym c.first_zero.ensures ∙ c.in-None.is)

pub returns-in-None-clause-second : goal.returns-in-None-clause-second
returns-in-None-clause-second c = second_empty c.args.input.now (sym c.first_zero.ensures ∙ c.in-None.is)

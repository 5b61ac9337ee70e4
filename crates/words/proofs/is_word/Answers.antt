-- `words::is_word` meets its contract: what is asked is asked of the first byte and of those behind it.
-- Assumes nothing.
use mathlib.Core.Path.{sym}
use Rattle.std.proofs.Common.{rules, arith}
use Rattle.words.proofs.Lists.{is_word_none, is_word_some}
use Rattle.words.proofs.is_word.Goals as goal

pub returns-in-None : goal.returns-in-None
returns-in-None c = sym (is_word_none _ (search rules))

pub returns-then-is_letter : goal.returns-then-is_letter
returns-then-is_letter c = grind (arith, is_word_some c.args.w.now c.in-Some.rest.now c.in-Some.first.now c.in-Some.ensures.cases.0)

pub returns-else-is_letter : goal.returns-else-is_letter
returns-else-is_letter c = grind (arith, is_word_some c.args.w.now c.in-Some.rest.now c.in-Some.first.now c.in-Some.ensures.cases.0)

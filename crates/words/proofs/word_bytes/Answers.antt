-- `words::word_bytes` meets its contract: `all` asks it of each byte.
-- Assumes nothing.
use mathlib.Core.Path.{sym, ◌∙◌}
use Rattle.std.proofs.Common.{rules}
use Rattle.std.proofs.lemmas.Iterator.{YieldsList-from_slice}
use Rattle.std.proofs.lemmas.Iterator.Search.{all_from_yields_List}
use Rattle.rules.specs.Words.{word_byte}
use Rattle.words.proofs.Lists.{word_bytes_list}
use Rattle.words.proofs.word_bytes.Goals as goal

pub returns : goal.returns
returns c =
    all_from_yields_List word_byte _ _ _ c.all.ensures.ran (YieldsList-from_slice c.args.w.now cc) (λ x b q k. search rules)
    ∙ sym (word_bytes_list _)

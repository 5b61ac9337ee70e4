-- `lines::writing::put_word` meets its contract: the word is copied into its place.
-- Assumes nothing.
use Rattle.lines.proofs.Adding.{adds_part}
use Rattle.lines.proofs.writing.put_word.Goals as goal

pub returns : goal.returns
returns c = adds_part c.args.line.now c.args.word.now c.args.at c.copy_from_slice.ensures.after c.requires

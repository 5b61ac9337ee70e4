-- `type_reader::too_long` meets its contract: written out, so that a limit one off is refused by the two numbers.
-- Assumes nothing.
use mathlib.Core.Path.{refl}
use Rattle.type_reader.proofs.too_long.Goals as goal

pub returns : goal.returns
returns c = refl

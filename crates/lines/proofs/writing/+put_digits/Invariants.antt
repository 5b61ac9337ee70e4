-- The number falls at every call.
-- Assumes nothing.
use Rattle.lines.proofs.writing.+put_digits.Given as goal

abbrev pub decreases-put_digits : goal.decreases-put_digits
decreases-put_digits l = l.k

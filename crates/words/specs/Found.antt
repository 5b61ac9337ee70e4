-- A position that a search from the front gave, as an `Option`.
-- Assumes nothing.
use Rattle.std.specs.Prelude.{ℕ, ltb, cond, Option, Some, None}

-- what a search of the positions below n gave: `Some` position, and `None` where it is n, that is where there was none
abbrev pub found : ℕ → ℕ → Option ℕ
found n k = cond (ltb k n) (Some k) None

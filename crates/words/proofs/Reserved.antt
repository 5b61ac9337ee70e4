-- The constant table of the reserved words is document 01's list of them: one test, computed over the whole table.
-- Assumes nothing.
use mathlib.Core.Bool.{Bool, true, ◌&&◌}
use mathlib.Core.List.{[]}
use mathlib.Core.Path.{◌≡◌, refl}
use Prim.Native.Nat.{ℕ, ◌*◌}
use lib.Dec.{leb}
use lib.ListN.{length, get_or}
use Rattle.rules.specs.Basics.{part, same, every}
use Rattle.rules.specs.Words.{reserved_words}
use Rattle.words.specs.declared.TheConstants.{ROW, RESERVED_BYTES, RESERVED_LENGTHS}

-- the rule of row k: it fits its room, and its bytes are those of the reserved word
abbrev row_right : ℕ → Bool
row_right k =
    leb (get_or RESERVED_LENGTHS k 0) ROW && same (part RESERVED_BYTES (k * ROW) (get_or RESERVED_LENGTHS k 0)) (get_or reserved_words k [])

pub rows_right : every (length reserved_words) row_right ≡ true
unfolding every same
rows_right = refl

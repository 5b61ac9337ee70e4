-- Marks: how many there are, what one mark more changes of that, and marks as they are left behind. Each is by induction on the list.
-- Assumes nothing.
use borrow.Author.Tests.{ne_eqb}
use mathlib.Core.Bool.{not}
use mathlib.Core.List.{List, [], ◌∷◌, map}
use mathlib.Core.Path.{◌≡◌, refl}
use Prim.Native.Nat.{ℕ, zero, suc, ◌+◌, ◌<◌, ◌≤◌}
use mir.Val.{bool_byte}
use native.Mathlib.Numerals.{add-one}
use native.Mathlib.Omega.{arith}
use lib.Dec.{eqb}
use lib.ListN.{length, get_or, set, replicate, length-map, get_or-map}
use Rattle.rules.specs.Replies.{count_marks}
use Rattle.search.specs.Queue.{settled, count_marked}

settled_most : (m : ℕ) → settled m ≤ 1
settled_most zero = omega arith
settled_most (suc m) = omega arith

pub count_most : (ms : List ℕ) → count_marked ms ≤ length ms
count_most [] = omega arith
count_most (m ∷ ms) = omega (arith, settled_most m, count_most ms)

-- a place that is not marked is not counted
pub count_less : (ms : List ℕ) (q : ℕ) → q < length ms → get_or ms q 0 ≡ 0 → count_marked ms < length ms
count_less [] q l e = absurd (omega arith)
count_less (zero ∷ ms) zero l e = omega (arith, count_most ms)
count_less (suc m ∷ ms) zero l e = absurd (omega arith)
count_less (m ∷ ms) (suc q) l e = omega (arith, settled_most m, count_less ms q (omega arith) e)

-- a mark more is counted
pub count_more : (ms : List ℕ) (q s : ℕ) → q < length ms → get_or ms q 0 ≡ 0 → count_marked (set ms q (s + 1)) ≡ count_marked ms + 1
count_more [] q s l e = absurd (omega arith)
count_more (zero ∷ ms) zero s l e = rw (add-one s) (omega arith)
count_more (suc m ∷ ms) zero s l e = absurd (omega arith)
count_more (m ∷ ms) (suc q) s l e = omega (arith, count_more ms q s (omega arith) e)

pub count_none : (n : ℕ) → count_marked (replicate n 0) ≡ 0
count_none zero = refl
count_none (suc n) = omega (arith, count_none n)

-- a mark that is not 0 is left as 1
pub settled_byte : (m : ℕ) → bool_byte (not (eqb m 0)) ≡ settled m
settled_byte zero = refl
settled_byte (suc m) = rw (ne_eqb (suc m) 0 (omega arith)) refl

pub settled_at : (i : ℕ) (ms : List ℕ) → get_or (map settled ms) i 0 ≡ settled (get_or ms i 0)
settled_at i ms = get_or-map settled ms i 0

pub settled-length : (ms : List ℕ) → length (map settled ms) ≡ length ms
settled-length ms = length-map ms settled

-- counted as the published rules count marks
pub settled_count : (ms : List ℕ) → count_marks (map settled ms) ≡ count_marked ms
unfolding count_marks
settled_count [] = refl
settled_count (zero ∷ ms) = omega (arith, settled_count ms)
settled_count (suc m ∷ ms) = omega (arith, settled_count ms)

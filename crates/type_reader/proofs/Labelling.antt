-- What finding a word among rows tells of each row.
-- Assumes nothing.
use mathlib.Core.Bool.{Bool, true, false}
use mathlib.Core.List.{List}
use mathlib.Core.Path.{◌≡◌, refl, sym, ap, ap₂, ◌∙◌}
use Prim.Native.Nat.{ℕ, ◌+◌, ◌*◌, ◌<◌, ◌≤◌}
use native.Mathlib.Omega.{arith}
use lib.Dec.{ltb}
use lib.ListN.{get_or}
use borrow.Author.Tests.{ltb-true, ltb-false}
use Rattle.std.specs.Prelude.{Option, is_some}
use Rattle.words.specs.Found.{found}
use Rattle.words.proofs.Found.{found_tested}
use Rattle.rules.specs.Basics.{part, same}
use Rattle.rules.proofs.Basics.{first_found, part_at}
use Rattle.flat.specs.Flat.{row, word_of, word_found}

-- the rows are those of the area a from i on
module _ (s a : List ℕ) (i m n : ℕ) (room : n * row ≤ m) (w : List ℕ) where
  same_word : (j : ℕ) → j < n → part s (get_or (part a i m) (j * row) 0) (get_or (part a i m) (j * row + 1) 0) ≡ word_of s a i j
  same_word j l =
      ap₂ (λ p q. part s p q) (part_at a i m (j * row) (omega arith))
      (part_at a i m (j * row + 1) (omega arith) ∙ ap (λ k. get_or a k 0) (omega arith))

  row_here : (r : ℕ) → r ≡ word_found s (part a i m) n w → r < n → same (word_of s a i r) w ≡ true
  unfolding word_found
  row_here r e l = let f = first_found n (λ j. same (part s (get_or (part a i m) (j * row) 0) (get_or (part a i m) (j * row + 1) 0)) w) in
      rw (← same_word r l) ((rw (← e) at f).here l)

  no-row : (r : ℕ) → r ≡ word_found s (part a i m) n w → n ≤ r → (j : ℕ) → j < n → same (word_of s a i j) w ≡ false
  unfolding word_found
  no-row r e l j h = let f = first_found n (λ j. same (part s (get_or (part a i m) (j * row) 0) (get_or (part a i m) (j * row + 1) 0)) w) in
      rw (← same_word j h) ((rw (← e) at f).before j (omega arith))

  -- the word looked for is w, and b is whether it was found
  module _ {r : Option ℕ} {b : Bool} {v : List ℕ} (e : r ≡ found n (word_found s (part a i m) n v)) (t : b ≡ is_some r) (d : v ≡ w) where
    abbrev place : ℕ
    place = word_found s (part a i m) n w

    tested : b ≡ ltb place n
    tested = found_tested n place (rw d at e) t

    pub row_found : b ≡ true → (j : ℕ) × (j < n) × (same (word_of s a i j) w ≡ true)
    row_found h = let l = ltb-true _ _ (sym tested ∙ h) in (place, l, row_here place refl l)

    pub rows_other : b ≡ false → (j : ℕ) → j < n → same (word_of s a i j) w ≡ false
    rows_other h = no-row place refl (ltb-false _ _ (sym tested ∙ h))

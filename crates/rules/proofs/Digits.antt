-- Laws of the numbers of the printed line: the digits of a number by its last digit, and how many there are at most, so that the
-- room for the line can be known before it is written.
-- Assumes nothing.
use mathlib.Core.List.{List, [], ◌∷◌, ◌++◌}
use mathlib.Core.Path.{◌≡◌, sym, ap, ◌∙◌}
use Prim.Native.Nat.{ℕ, zero, suc, ◌+◌, ◌/◌, ◌%◌, ◌<◌, ◌≤◌}
use native.Mathlib.Decide.{dec_lt}
use native.Mathlib.Omega.{arith}
use lib.ListN.{length, length-append}
use borrow.Author.Tests.{lt-ltb, le-ltb}
use Rattle.rules.specs.Line.{digits, field}

-- with any fuel that is left
last_one : (n k : ℕ) → k < 10 → digits (suc n) k ≡ (48 + k) ∷ []
unfolding digits
last_one n k l = rw (digits, lt-ltb k 10 l)

last_more : (n k : ℕ) → 10 ≤ k → digits (suc n) k ≡ digits n (k / 10) ++ ((48 + k % 10) ∷ [])
unfolding digits
last_more n k l = rw (digits, le-ltb k 10 l)

-- more fuel than the number makes no difference
fuels_alike : (n m k : ℕ) → k < n → k < m → digits n k ≡ digits m k
fuels_alike zero m k a b = absurd (omega arith)
fuels_alike (suc n) zero k a b = absurd (omega arith)
fuels_alike (suc n) (suc m) k a b = go (dec_lt k 10) (λ c d. fuels_alike n m (k / 10) c d)
  where
    go :
        Dec (k < 10) → (k / 10 < n → k / 10 < m → digits n (k / 10) ≡ digits m (k / 10))
        → digits (suc n) k ≡ digits (suc m) k
    go (yes l) again = last_one n k l ∙ sym (last_one m k l)
    go (no l) again =
        last_more n k (omega arith)
        ∙ ap (λ (ds : List ℕ). ds ++ ((48 + k % 10) ∷ [])) (again (omega arith) (omega arith))
        ∙ sym (last_more m k (omega arith))

pub digits_one : (k : ℕ) → k < 10 → digits (suc k) k ≡ (48 + k) ∷ []
digits_one k l = last_one k k l

pub digits_more : (k : ℕ) → 10 ≤ k → digits (suc k) k ≡ digits (suc (k / 10)) (k / 10) ++ ((48 + k % 10) ∷ [])
digits_more k l =
    last_more k k l
    ∙ ap (λ (ds : List ℕ). ds ++ ((48 + k % 10) ∷ [])) (fuels_alike k (suc (k / 10)) (k / 10) (omega arith) (omega arith))

-- a number of at most n digits
abbrev pub Digits : ℕ → ℕ → Type 0
Digits zero k = ⊥
Digits (suc zero) k = k < 10
Digits (suc (suc n)) k = Digits (suc n) (k / 10)

-- by how large it is
module _ (k : ℕ) where
  pub two_digits : k < 100 → Digits 2 k
  two_digits l = omega arith

  pub three_digits : k < 1000 → Digits 3 k
  three_digits l = omega arith

  pub four_digits : k < 10000 → Digits 4 k
  four_digits l = omega arith

  pub five_digits : k < 100000 → Digits 5 k
  five_digits l = omega arith

few : (f n k : ℕ) → Digits n k → length (digits f k) ≤ n
unfolding digits
few zero n k d = omega arith
few (suc f) zero k d = absurd d
few (suc f) (suc zero) k d = rw (last_one f k d) (omega arith)
few (suc f) (suc (suc n)) k d = go (dec_lt k 10) (few f (suc n) (k / 10) d)
  where
    go : Dec (k < 10) → length (digits f (k / 10)) ≤ suc n → length (digits (suc f) k) ≤ suc (suc n)
    go (yes l) h = rw (last_one f k l) (omega arith)
    go (no l) h = rw (last_more f k (omega arith)) (omega (arith, length-append (digits f (k / 10)) ((48 + k % 10) ∷ [])))

pub digits_few : (n k : ℕ) → Digits n k → length (digits (suc k) k) ≤ n
digits_few n k d = few (suc k) n k d

-- a space before them
pub field_few : (n k : ℕ) → Digits n k → length (field k) ≤ suc n
unfolding field
field_few n k d = omega (arith, digits_few n k d)

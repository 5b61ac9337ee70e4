-- Where an input is split: at its first byte 0, or behind its end where there is none. Said by positions, as code that looks for
-- that byte finds it.
-- Assumes nothing.
use mathlib.Core.List.{List, [], ◌∷◌}
use mathlib.Core.Path.{◌≡◌, refl, ap, ◌∙◌}
use Prim.Native.Nat.{ℕ, zero, suc, ◌+◌, ◌<◌}
use native.Mathlib.Omega.{arith}
use lib.ListN.{length, get_or, take, drop}
use borrow.Author.Tests.{eq-eqb, ne_eqb}
use Rattle.rules.specs.Line.{first_text, second_text}

-- a byte 0 at the front, and another
module _ (b : ℕ) (s : List ℕ) where
  pub first_ends : b ≡ 0 → first_text (b ∷ s) ≡ []
  unfolding first_text
  first_ends e = rw (first_text, eq-eqb b 0 e)

  pub second_begins : b ≡ 0 → second_text (b ∷ s) ≡ s
  unfolding second_text
  second_begins e = rw (second_text, eq-eqb b 0 e)

  pub first_goes_on : (b ≡ 0 → ⊥) → first_text (b ∷ s) ≡ b ∷ first_text s
  unfolding first_text
  first_goes_on f = rw (first_text, ne_eqb b 0 f)

  pub second_behind : (b ≡ 0 → ⊥) → second_text (b ∷ s) ≡ second_text s
  unfolding second_text
  second_behind f = rw (second_text, ne_eqb b 0 f)

split_here :
    (s : List ℕ) (k : ℕ) → k < length s → ((j : ℕ) → j < k → get_or s j 0 ≡ 0 → ⊥) → get_or s k 0 ≡ 0
    → (first_text s ≡ take k s) × (second_text s ≡ drop (suc k) s)
split_here [] k l f e = absurd (omega arith)
split_here (b ∷ s) zero l f e = (first_ends b s e, second_begins b s e)
split_here (b ∷ s) (suc k) l f e =
    let r = split_here s k (omega arith) (λ j m. f (suc j) (omega arith)) e in
    let n = f zero (omega arith) in
    (first_goes_on b s n ∙ ap (λ (t : List ℕ). b ∷ t) r.0, second_behind b s n ∙ r.1)

pub split_at :
    (s : List ℕ) (k : ℕ) → k < length s → ((j : ℕ) → j < k → get_or s j 0 ≡ 0 → ⊥) → get_or s k 0 ≡ 0
    → (first_text s ≡ take k s) × (second_text s ≡ drop (k + 1) s)
split_at s k l f e =
    let r = split_here s k l f e in
    let n : k + 1 ≡ suc k = omega arith in
    rw n r

pub split_none : (s : List ℕ) → ((j : ℕ) → j < length s → get_or s j 0 ≡ 0 → ⊥) → (first_text s ≡ s) × (second_text s ≡ [])
unfolding first_text second_text
split_none [] f = (refl, refl)
split_none (b ∷ s) f =
    let r = split_none s (λ j m. f (suc j) (omega arith)) in
    let n = f zero (omega arith) in
    (first_goes_on b s n ∙ ap (λ (t : List ℕ). b ∷ t) r.0, second_behind b s n ∙ r.1)

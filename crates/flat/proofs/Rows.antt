-- A row that is written holds its three numbers, and nothing else changes.
-- Assumes nothing.
use mathlib.Core.List.{List}
use mathlib.Core.Path.{◌≡◌, ◌∙◌}
use Prim.Native.Nat.{ℕ, ◌+◌, ◌<◌}
use native.Mathlib.Omega.{arith}
use lib.ListN.{length, get_or, set, length-set}
use lib.Seq.{get_or-set_same, get_or-set_other}
use Rattle.flat.specs.Flat.{stored_row}

module _ (a : List ℕ) (i at long link : ℕ) where
  pub row-length : length (stored_row a i at long link) ≡ length a
  row-length = length-set (set (set a i at) (i + 1) long) (i + 2) link ∙ length-set (set a i at) (i + 1) long ∙ length-set a i at

  pub row_apart :
      (j : ℕ) → (j ≡ i + 2 → ⊥) → (j ≡ i + 1 → ⊥) → (j ≡ i → ⊥) → get_or (stored_row a i at long link) j 0 ≡ get_or a j 0
  row_apart j p q r =
      get_or-set_other (set (set a i at) (i + 1) long) (i + 2) j link 0 p ∙ get_or-set_other (set a i at) (i + 1) j long 0 q
      ∙ get_or-set_other a i j at 0 r

  pub row_at :
      i + 2 < length a
      → (get_or (stored_row a i at long link) i 0 ≡ at) × (get_or (stored_row a i at long link) (i + 1) 0 ≡ long)
      × (get_or (stored_row a i at long link) (i + 2) 0 ≡ link)
  row_at h =
      let a₁ : List ℕ = set a i at in
      let a₂ : List ℕ = set a₁ (i + 1) long in
      let e₁ : length a₁ ≡ length a = length-set a i at in
      let e₂ : length a₂ ≡ length a₁ = length-set a₁ (i + 1) long in (
        get_or-set_other a₂ (i + 2) i link 0 (λ e. omega arith) ∙ get_or-set_other a₁ (i + 1) i long 0 (λ e. omega arith)
            ∙ get_or-set_same a i at 0 (omega arith),
        get_or-set_other a₂ (i + 2) (i + 1) link 0 (λ e. omega arith) ∙ get_or-set_same a₁ (i + 1) long 0 (omega arith),
        get_or-set_same a₂ (i + 2) link 0 (omega arith),
      )

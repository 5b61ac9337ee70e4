-- Sets of numbers, one after the other, of which each holds the one before it, come to rest below any number: there from some set
-- to the next nothing comes in. By the number: where n itself comes in after a rest below n, the next rest below n keeps it.
-- Assumes nothing.
use mathlib.Core.Bool.{Bool, true, false, false≢true}
use mathlib.Core.Path.{◌≡◌, refl, sym, ◌∙◌}
use Prim.Native.Nat.{ℕ, zero, suc, ◌<◌, ◌≤◌}
use native.Mathlib.Decide.{le_ind}
use native.Mathlib.Omega.{arith}
use borrow.Author.Count.{below_more}

module _ (set : ℕ → ℕ → Bool) (grows : (k i : ℕ) → set k i ≡ true → set (suc k) i ≡ true) where
  -- at k nothing that is below n comes in
  abbrev RestsAt : ℕ → ℕ → Type 0
  RestsAt n k = (i : ℕ) → i < n → set (suc k) i ≡ true → set k i ≡ true

  one_more : (n k : ℕ) → RestsAt n k → (set (suc k) n ≡ true → set k n ≡ true) → RestsAt (suc n) k
  one_more n k h e i l = below_more (λ i. set (suc k) i ≡ true → set k i ≡ true) n h e i (omega arith)

  pub comes_to_rest : (n k : ℕ) → (j : ℕ) × (k ≤ j) × ((i : ℕ) → i < n → set (suc j) i ≡ true → set j i ≡ true)
  comes_to_rest zero k = (k, omega arith, λ i l. absurd (omega arith))
  comes_to_rest (suc n) k = let (j, l, h) = comes_to_rest n k in go (comes_to_rest n) j l h (set (suc j) n) refl
    where
      go :
          ((k : ℕ) → (j : ℕ) × (k ≤ j) × RestsAt n j) → (j : ℕ) → k ≤ j → RestsAt n j → (b : Bool) → set (suc j) n ≡ b
          → (j : ℕ) × (k ≤ j) × RestsAt (suc n) j
      go again j l h false e = (j, l, one_more n j h (λ f. absurd (false≢true (sym e ∙ f))))
      go again j l h true e =
          let (i, m, g) = again (suc j) in
          (i, omega arith, one_more n i g (λ f. le_ind (λ k. set k n ≡ true) e (λ k d. grows k n) i m))

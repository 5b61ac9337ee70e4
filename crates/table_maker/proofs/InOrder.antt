-- Lists of what a function gives at one number after the other.
-- Assumes nothing.
use mathlib.Core.List.{List, [], ◌∷◌, ◌++◌}
use mathlib.Core.Path.{◌≡◌, refl, ap, ap₂, ◌∙◌}
use Prim.Native.Nat.{ℕ, suc, ◌+◌}
use native.Mathlib.Nat.{add-zero}
use native.Mathlib.Omega.{arith}
use lib.ListN.{length}
use Rattle.rules.specs.Basics.{listed}

module _ {A : Type 0} (f : ℕ → A) where
  -- the list is f at k, at the number behind, and so on below e
  pub data InOrder : ℕ → ℕ → List A → Type 0 where
    none : {k : ℕ} → InOrder k k []
    one : {k e : ℕ} {x : A} {l : List A} → f k ≡ x → InOrder (suc k) e l → InOrder k e (x ∷ l)

  in_order_length : (k e : ℕ) (l : List A) → InOrder k e l → k + length l ≡ e
  in_order_length k e [] none = omega arith
  in_order_length k e (x ∷ l) (one q h) = omega (arith, in_order_length (suc k) e l h)

  -- where g is f from k on
  in_order_from : (k e : ℕ) (l : List A) (g : ℕ → A) → ((j : ℕ) → g j ≡ f (k + j)) → InOrder k e l → listed (length l) g ≡ l
  unfolding listed
  in_order_from k e [] g s none = refl
  in_order_from k e (x ∷ l) g s (one q h) =
      ap₂ {C = List A} ◌∷◌ (s 0 ∙ ap f (add-zero k) ∙ q)
      (in_order_from (suc k) e l (λ j. g (suc j)) (λ j. s (suc j) ∙ ap f (omega arith)) h)

  pub in_order_all : (e : ℕ) (l : List A) → InOrder 0 e l → (listed e f ≡ l) × (e ≡ length l)
  in_order_all e l h =
      let q : e ≡ length l = omega (arith, in_order_length 0 e l h) in
      (rw q (in_order_from 0 e l f (λ j. ap f (omega arith)) h), q)

pub then : {A : Type 0} {f : ℕ → A} {k m e : ℕ} {l n : List A} → InOrder f k m l → InOrder f m e n → InOrder f k e (l ++ n)
then none h = h
then (one q g) h = one q (then g h)

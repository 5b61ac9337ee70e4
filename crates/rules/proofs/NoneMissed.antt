-- Where n numbers below n are all different, no number below n is missed. By n: without the missed one there is one number less, and with
-- the last of the n taken away, that one is missed.
-- Assumes nothing.
use mathlib.Core.Path.{◌≡◌, sym, ap, ◌∙◌}
use Prim.Native.Nat.{ℕ, zero, suc, ◌<◌, ◌+◌, ◌-◌, min}
use native.Mathlib.Omega.{arith}

-- the numbers but j, numbered anew
abbrev squeeze : ℕ → ℕ → ℕ
squeeze j k = k - min 1 (k - j)

squeeze_below : (m j k : ℕ) → j < suc m → k < suc m → (k ≡ j → ⊥) → squeeze j k < m
squeeze_below m j k a b ne = omega arith

-- .. and numbered as before
abbrev back : ℕ → ℕ → ℕ
back j h = h + min 1 (suc h - j)

back_squeeze : (j k : ℕ) → (k ≡ j → ⊥) → back j (squeeze j k) ≡ k
back_squeeze j k ne = omega arith

squeeze_one : (j k l : ℕ) → (k ≡ j → ⊥) → (l ≡ j → ⊥) → squeeze j k ≡ squeeze j l → k ≡ l
squeeze_one j k l a b e = sym (back_squeeze j k a) ∙ ap (back j) e ∙ back_squeeze j l b

pub none_missed :
    (n : ℕ) (f : ℕ → ℕ) (j : ℕ) → j < n → ((i : ℕ) → i < n → f i < n)
    → ((i k : ℕ) → i < n → k < n → f i ≡ f k → i ≡ k) → ((i : ℕ) → i < n → f i ≡ j → ⊥) → ⊥
none_missed zero f j l below once misses = omega arith
none_missed (suc m) f j l below once misses =
    none_missed m (λ i. squeeze j (f i)) (squeeze j (f m)) (low m (omega arith)) (λ i a. low i (omega arith))
    (λ i k a b e. same i k (omega arith) (omega arith) e) (λ i a e. let z : i ≡ m = same i m (omega arith) (omega arith) e in omega arith)
  where
    low : (i : ℕ) → i < suc m → squeeze j (f i) < m
    low i a = squeeze_below m j (f i) l (below i a) (misses i a)

    same : (i k : ℕ) → i < suc m → k < suc m → squeeze j (f i) ≡ squeeze j (f k) → i ≡ k
    same i k a b e = once i k a b (squeeze_one j (f i) (f k) (misses i a) (misses k b) e)

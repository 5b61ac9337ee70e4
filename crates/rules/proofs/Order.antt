-- The order of runs is total, and says document 01's words: at equal length, the lower number at the first step that differs.
-- Assumes nothing.
use mathlib.Core.List.{List, [], ◌∷◌}
use mathlib.Core.Logic.{◌⊎◌, inl, inr}
use mathlib.Core.Path.{◌≡◌, refl, sym, ◌∙◌}
use Prim.Native.Nat.{ℕ, zero, suc, ◌<◌}
use native.Mathlib.Decide.{dec_lt}
use native.Mathlib.Omega.{arith}
use lib.ListN.{length, get_or}
use Rattle.rules.specs.Runs.{Lower, Before}

pub lower_irreflexive : (a : List ℕ) → Lower a a → ⊥
lower_irreflexive [] l = l
lower_irreflexive (s ∷ a) (inl l) = omega arith
lower_irreflexive (s ∷ a) (inr l) = lower_irreflexive a l.1

pub lower_transitive : (a b c : List ℕ) → Lower a b → Lower b c → Lower a c
lower_transitive [] b c l m = absurd l
lower_transitive (s ∷ a) [] c l m = absurd l
lower_transitive (s ∷ a) (t ∷ b) [] l m = absurd m
lower_transitive (s ∷ a) (t ∷ b) (u ∷ c) (inl l) (inl m) = inl (omega arith)
lower_transitive (s ∷ a) (t ∷ b) (u ∷ c) (inl l) (inr m) = inl (omega (arith, m.0))
lower_transitive (s ∷ a) (t ∷ b) (u ∷ c) (inr l) (inl m) = inl (omega (arith, l.0))
lower_transitive (s ∷ a) (t ∷ b) (u ∷ c) (inr l) (inr m) = inr (l.0 ∙ m.0, lower_transitive a b c l.1 m.1)

-- of two lists of one length one is lower, or they are the same
pub lower_total : (a b : List ℕ) → length a ≡ length b → Lower a b ⊎ ((a ≡ b) ⊎ Lower b a)
lower_total [] [] e = inr (inl refl)
lower_total [] (t ∷ b) e = absurd (omega arith)
lower_total (s ∷ a) [] e = absurd (omega arith)
lower_total (s ∷ a) (t ∷ b) e = by_step (dec_lt s t) (dec_lt t s) (lower_total a b (omega arith))
  where
    by_step : Dec (s < t) → Dec (t < s) → Lower a b ⊎ ((a ≡ b) ⊎ Lower b a) → Lower (s ∷ a) (t ∷ b) ⊎ (((s ∷ a) ≡ (t ∷ b)) ⊎ Lower (t ∷ b) (s ∷ a))
    by_step (yes l) d o = inl (inl l)
    by_step (no l) (yes m) o = inr (inr (inl m))
    by_step (no l) (no m) (inl o) = inl (inr (omega arith, o))
    by_step (no l) (no m) (inr (inl o)) = let q : s ≡ t = omega arith in inr (inl (cc))
    by_step (no l) (no m) (inr (inr o)) = inr (inr (inr (omega arith, o)))

pub before_irreflexive : (a : List ℕ) → Before a a → ⊥
before_irreflexive a (inl l) = omega arith
before_irreflexive a (inr l) = lower_irreflexive a l.1

pub before_transitive : (a b c : List ℕ) → Before a b → Before b c → Before a c
before_transitive a b c (inl l) (inl m) = inl (omega arith)
before_transitive a b c (inl l) (inr m) = inl (omega (arith, m.0))
before_transitive a b c (inr l) (inl m) = inl (omega (arith, l.0))
before_transitive a b c (inr l) (inr m) = inr (l.0 ∙ m.0, lower_transitive a b c l.1 m.1)

pub before_total : (a b : List ℕ) → Before a b ⊎ ((a ≡ b) ⊎ Before b a)
before_total a b = by_length (dec_lt (length a) (length b)) (dec_lt (length b) (length a))
  where
    at_one_length : length a ≡ length b → Lower a b ⊎ ((a ≡ b) ⊎ Lower b a) → Before a b ⊎ ((a ≡ b) ⊎ Before b a)
    at_one_length e (inl l) = inl (inr (e, l))
    at_one_length e (inr (inl q)) = inr (inl q)
    at_one_length e (inr (inr l)) = inr (inr (inr (sym e, l)))

    by_length : Dec (length a < length b) → Dec (length b < length a) → Before a b ⊎ ((a ≡ b) ⊎ Before b a)
    by_length (yes l) d = inl (inl l)
    by_length (no l) (yes m) = inr (inr (inl m))
    by_length (no l) (no m) = let e : length a ≡ length b = omega arith in at_one_length e (lower_total a b e)

-- the two lists have the same steps before position k, and the first has the lower number there
pub record LowerAt (a b : List ℕ) (k : ℕ) : Type 0 where
  pub alike : (j : ℕ) → j < k → get_or a j 0 ≡ get_or b j 0
  pub in_first : k < length a
  pub in_second : k < length b
  pub lower : get_or a k 0 < get_or b k 0

pub lower_at : (a b : List ℕ) → Lower a b → (k : ℕ) × LowerAt a b k
lower_at [] b l = absurd l
lower_at (s ∷ a) [] l = absurd l
lower_at (s ∷ a) (t ∷ b) (inl l) =
    (zero, record { alike = λ j h. absurd (omega arith); in_first = omega arith; in_second = omega arith; lower = l })
lower_at (s ∷ a) (t ∷ b) (inr l) = one_later (lower_at a b l.1)
  where
    alike_later : (k : ℕ) → LowerAt a b k → (j : ℕ) → j < suc k → get_or (s ∷ a) j 0 ≡ get_or (t ∷ b) j 0
    alike_later k A zero h = l.0
    alike_later k A (suc j) h = A.alike j (omega arith)

    one_later : (k : ℕ) × LowerAt a b k → (k : ℕ) × LowerAt (s ∷ a) (t ∷ b) k
    one_later (k, A) = (
      suc k,
      record { alike = alike_later k A; in_first = omega (arith, A.in_first); in_second = omega (arith, A.in_second); lower = A.lower },
    )

pub at_lower : (a b : List ℕ) (k : ℕ) → LowerAt a b k → Lower a b
at_lower [] b k A = absurd (omega (arith, A.in_first))
at_lower (s ∷ a) [] k A = absurd (omega (arith, A.in_second))
at_lower (s ∷ a) (t ∷ b) zero A = inl A.lower
at_lower (s ∷ a) (t ∷ b) (suc k) A =
    inr (
      A.alike zero (omega arith),
      at_lower a b k
          (record {
            alike = λ j h. A.alike (suc j) (omega arith);
            in_first = omega (arith, A.in_first);
            in_second = omega (arith, A.in_second);
            lower = A.lower;
          }),
    )

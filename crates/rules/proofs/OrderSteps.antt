-- The order of runs where steps are added at the end, and runs that are not after another.
-- Assumes nothing.
use mathlib.Core.List.{List, [], ◌∷◌, ◌++◌}
use mathlib.Core.Logic.{◌⊎◌, inl, inr}
use mathlib.Core.Path.{◌≡◌, refl, sym, ap, subst, ◌∙◌}
use Prim.Native.Nat.{ℕ, ◌<◌}
use native.Mathlib.Omega.{arith}
use lib.ListN.{length-append}
use Rattle.rules.proofs.Order.{before_irreflexive, before_transitive}
use Rattle.rules.specs.Runs.{Lower, Before}

abbrev pub NotAfter : List ℕ → List ℕ → Type 0
NotAfter a b = Before a b ⊎ (a ≡ b)

-- the order of equal lists
pub before_same : {a b c d : List ℕ} → a ≡ c → b ≡ d → Before c d → Before a b
before_same {a} {b} {c} {d} e f l = subst (λ (x : List ℕ). Before x b) (sym e) (subst (λ (x : List ℕ). Before c x) (sym f) l)

pub not_after_same : {a b c d : List ℕ} → a ≡ c → b ≡ d → NotAfter c d → NotAfter a b
not_after_same e f (inl l) = inl (before_same e f l)
not_after_same e f (inr l) = inr (e ∙ l ∙ sym f)

-- one step more
pub before_longer : (a : List ℕ) (s : ℕ) → Before a (a ++ (s ∷ []))
before_longer a s = inl (omega (arith, length-append a (s ∷ [])))

lower_last : (a : List ℕ) (s t : ℕ) → s < t → Lower (a ++ (s ∷ [])) (a ++ (t ∷ []))
lower_last [] s t l = inl l
lower_last (u ∷ a) s t l = inr (refl, lower_last a s t l)

pub before_last : (a : List ℕ) (s t : ℕ) → s < t → Before (a ++ (s ∷ [])) (a ++ (t ∷ []))
before_last a s t l = inr (length-append a (s ∷ []) ∙ sym (length-append a (t ∷ [])), lower_last a s t l)

lower_both : (a b : List ℕ) (s t : ℕ) → Lower a b → Lower (a ++ (s ∷ [])) (b ++ (t ∷ []))
lower_both [] b s t l = absurd l
lower_both (u ∷ a) [] s t l = absurd l
lower_both (u ∷ a) (v ∷ b) s t (inl l) = inl l
lower_both (u ∷ a) (v ∷ b) s t (inr l) = inr (l.0, lower_both a b s t l.1)

pub before_both : (a b : List ℕ) (s t : ℕ) → Before a b → Before (a ++ (s ∷ [])) (b ++ (t ∷ []))
before_both a b s t (inl l) = inl (omega (arith, length-append a (s ∷ []), length-append b (t ∷ [])))
before_both a b s t (inr l) =
    inr (omega (arith, length-append a (s ∷ []), length-append b (t ∷ []), l.0), lower_both a b s t l.1)

pub not_after_both : (a b : List ℕ) (s : ℕ) → NotAfter a b → NotAfter (a ++ (s ∷ [])) (b ++ (s ∷ []))
not_after_both a b s (inl l) = inl (before_both a b s s l)
not_after_both a b s (inr e) = inr (ap (λ (x : List ℕ). x ++ (s ∷ [])) e)

pub not_after_before : (a b c : List ℕ) → NotAfter a b → Before b c → Before a c
not_after_before a b c (inl l) m = before_transitive a b c l m
not_after_before a b c (inr e) m = before_same e refl m

pub not_after_transitive : (a b c : List ℕ) → NotAfter a b → NotAfter b c → NotAfter a c
not_after_transitive a b c l (inl m) = inl (not_after_before a b c l m)
not_after_transitive a b c l (inr e) = not_after_same refl (sym e) l

pub not_after_not_before : (a b : List ℕ) → NotAfter a b → Before b a → ⊥
not_after_not_before a b l m = before_irreflexive a (not_after_before a b a l m)

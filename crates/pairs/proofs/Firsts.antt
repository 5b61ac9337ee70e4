-- What a search from the front comes to, as `rules` says it: the first position, and what is wrong at it.
-- Assumes nothing.
use Rattle.std.specs.Prelude.{None, Some}
use borrow.Author.Tests.{le-leb, lt-leb}
use mathlib.Core.Bool.{Bool}
use mathlib.Core.Path.{◌≡◌, refl}
use Prim.Native.Nat.{ℕ, ◌<◌}
use native.Mathlib.Omega.{arith}
use Rattle.rules.specs.Basics.{first}
use Rattle.rules.specs.Pairs.{at_first}
use Rattle.rules.proofs.Basics.{first_here, first_nowhere}
use Rattle.pairs.specs.Beside.{FirstBetween}
use Rattle.table.specs.declared.answers.Mismatch.{Mismatch}

module _ {n : ℕ} {p : ℕ → Bool} where
  pub first_some : {i : ℕ} → FirstBetween 0 n p (Some i) → (i < n) × (i ≡ first n p)
  first_some {i} F = (F.1, first_here i F.1 (λ j l. F.3 j (omega arith) l) F.2)

  pub first_none : FirstBetween 0 n p None → n ≡ first n p
  first_none F = first_nowhere n refl (λ j l. F j (omega arith) l)

  module _ (m : ℕ → Mismatch) where
    pub at_first_some : {i : ℕ} → FirstBetween 0 n p (Some i) → at_first m n p ≡ Some (m i)
    at_first_some {i} F = let f = first_some F in rw (← f.1, lt-leb n i f.0) refl

    pub at_first_none : FirstBetween 0 n p None → at_first m n p ≡ None
    at_first_none F = rw (← first_none F, le-leb n n (omega arith)) refl

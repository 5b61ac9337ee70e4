-- Laws of ../specs/Found: what a search answered tells where it stopped, and where it stopped gives the answer.
-- Assumes nothing.
use mathlib.Core.Bool.{Bool, true, false}
use mathlib.Core.Path.{◌≡◌, refl, sym, ap, ◌∙◌}
use Prim.Native.Nat.{ℕ, ◌<◌, ◌≤◌}
use native.Mathlib.Omega.{arith}
use lib.Dec.{ltb}
use mathlib.Core.List.{List}
use denote.Param.Members.{Mut}
use denote.Ref.{Bor}
use Rattle.std.proofs.iter.Yields.{nat_range_steps}
use Rattle.std.proofs.lemmas.Iterator.{first_from_Range}
use Rattle.std.specs.Bool.{⊤}
use Rattle.std.specs.Fn.{CalledAt}
use Rattle.std.specs.Iterator.{YieldsThen}
use Rattle.std.specs.List.{FoldsTo}
use Rattle.std.specs.Option.{MatchOption}
use Rattle.std.specs.declared.ops.Range.{Range}
use Rattle.std.specs.Prelude.{Option, Some, None, cond, is_some}
use Rattle.std.proofs.Common.{rules}
use Rattle.rules.specs.Basics.{first}
use Rattle.rules.proofs.Basics.{first_here, first_nowhere}
use Rattle.words.specs.Found.{found}

module _ (n k : ℕ) where
  pub found_none : n ≤ k → found n k ≡ None
  found_none l = search rules

  pub found_some : k < n → found n k ≡ Some k
  found_some l = search rules

  pub none_found : found n k ≡ None → n ≤ k
  none_found e = search rules

  pub some_found : (i : ℕ) → found n k ≡ Some i → (i ≡ k) × (k < n)
  some_found i e = search rules

-- whether there is one is the test that it is below n
one_there : (k : ℕ) (c : Bool) → is_some (cond c (Some k) None) ≡ c
one_there k true = refl
one_there k false = refl

pub found_tested : (n k : ℕ) {r : Option ℕ} {b : Bool} → r ≡ found n k → b ≡ is_some r → b ≡ ltb k n
found_tested n k e q = q ∙ ap is_some e ∙ one_there k (ltb k n)

-- what `find` over a range from 0 answers, where the closure computes the test p
module _ (n : ℕ) (p : ℕ → Bool) where
  first_met :
      (r : Option ℕ)
      → MatchOption r ((k : ℕ) → 0 ≤ k → k < n → p k ≡ false)
      (λ i. (0 ≤ i) × (i < n) × (p i ≡ true) × ((k : ℕ) → 0 ≤ k → k < i → p k ≡ false))
      → r ≡ found n (first n p)
  first_met None h =
      let e : n ≡ first n p = first_nowhere n refl (λ k l. h k (omega arith) l) in
      sym (found_none n (first n p) (omega arith))
  first_met (Some i) h =
      let e : i ≡ first n p = first_here i h.1 (λ k l. h.3 k (omega arith) l) h.2 in
      ap Some e ∙ sym (found_some n (first n p) (omega (arith, h.1)))

  pub found_by_find :
      {F : Type 0} {g : Mut F (Bor ℕ × Unit {0}) Bool} (f : F) (u : Range ℕ) (r : Option ℕ)
      → (xs : List ℕ) × (j : F) × YieldsThen nat_range_steps (record { start = 0; end = n }) xs r u
      × FoldsTo (λ p x q. CalledAt g p x false q) f xs j × MatchOption r ⊤ (λ x. (h : F) × CalledAt g j x true h)
      → ((x : ℕ) (b : Bool) (q : F) → CalledAt g f x b q → (q ≡ f) × (b ≡ p x)) → r ≡ found n (first n p)
  found_by_find {F} {g} f u r ran calls =
      first_met r
      (first_from_Range {F = F} {g = g} (record { start = 0; end = n }) u f r (λ k. p k ≡ true) (λ k. p k ≡ false) ran
      (λ x q e. sym (calls x true q e).1) (λ x q e. ((calls x false q e).0, sym (calls x false q e).1)))

-- Laws of the words of ../specs/Basics: each test tells the fact that it tests, and the fact gives the test back.
-- `FirstAt` says what `first` finds of every position, so that no proof opens `first` again.
-- Assumes nothing.
use mathlib.Core.Bool.{Bool, true, false, false≢true, not}
use mathlib.Core.List.{List, [], ◌∷◌}
use mathlib.Core.Option.{none, some}
use mathlib.Core.Path.{◌≡◌, refl, sym, ap, ap₂, ◌∙◌}
use mathlib.Mathlib.Data.Bool.Basic.{Bool-eq-false}
use Prim.Native.Nat.{ℕ, zero, suc, ◌+◌, ◌<◌, ◌≤◌}
use native.Mathlib.Decide.{dec_lt}
use native.Mathlib.Nat.{min-eq_left}
use native.Mathlib.Omega.{arith}
use lib.Dec.{eqb}
use lib.ListN.{length, get_or, drop, length-drop, drop_of_length-le, length-take}
use lib.Seq.{ext_get_or, take_all, get_or-take, get_or-drop}
use borrow.Author.Count.{below_more}
use borrow.Author.Tests.{eqb-true, eq-eqb, ltb-true, lt-ltb, not-true, not-false}
use Rattle.rules.specs.Basics.{part, same, every, first, some_below}

-- two tests that pass together are the same
pub tests_same : (a b : Bool) → (a ≡ true → b ≡ true) → (b ≡ true → a ≡ true) → a ≡ b
tests_same true b f g = sym (f refl)
tests_same false true f g = g refl
tests_same false false f g = refl

-- both tests pass, as `same` and `every` ask it
both : (b c : Bool) → elim b as (λ x. Bool) [ true ↦ c | false ↦ false ] ≡ true → (b ≡ true) × (c ≡ true)
both true c e = (refl, e)
both false c e = absurd (false≢true e)

pub every_true : (n : ℕ) (p : ℕ → Bool) → every n p ≡ true → (i : ℕ) → i < n → p i ≡ true
unfolding every
every_true zero p e i l = absurd (omega arith)
every_true (suc n) p e i l =
    let h = both (p n) (every n p) e in below_more (λ i. p i ≡ true) n (every_true n p h.1) h.0 i (omega arith)

pub every_all : (n : ℕ) (p : ℕ → Bool) → ((i : ℕ) → i < n → p i ≡ true) → every n p ≡ true
unfolding every
every_all zero p f = refl
every_all (suc n) p f = rw (every, f n (omega arith)) (every_all n p (λ i l. f i (omega arith)))

pub every_false : (n : ℕ) (p : ℕ → Bool) (i : ℕ) → i < n → p i ≡ false → every n p ≡ false
every_false n p i l e = Bool-eq-false (λ h. false≢true (sym e ∙ every_true n p h i l))

-- a loop that judges one position after the other and stops at the first that does not pass: where it stops, as it goes on, at its end
module _ (p : ℕ → Bool) where
  pub every_stopped : (n i : ℕ) {r : Bool} → i < n → r ≡ p i → not r ≡ true → false ≡ every n p
  every_stopped n i {r} l e f = sym (every_false n p i l (sym e ∙ not-true r f))

  pub every_passed : (i : ℕ) {r : Bool} → ((j : ℕ) → j < i → p j ≡ true) → r ≡ p i → not r ≡ false → (j : ℕ) → j < i + 1 → p j ≡ true
  every_passed i {r} all e f = below_more (λ j. p j ≡ true) i all (sym e ∙ not-false r f)

  pub every-ended : (n i : ℕ) → n ≤ i → ((j : ℕ) → j < i → p j ≡ true) → true ≡ every n p
  every-ended n i l all = sym (every_all n p (λ j m. all j (omega arith)))

-- what `first` finds: the one position with nothing before it, and the end where there is none
pub record FirstAt (n : ℕ) (p : ℕ → Bool) (i : ℕ) : Type 0 where
  pub within : i ≤ n
  pub before : (j : ℕ) → j < i → p j ≡ false
  pub here : i < n → p i ≡ true

-- one position more, at the front
found_on : (p : ℕ → Bool) (n i : ℕ) → p zero ≡ false → FirstAt n (λ j. p (suc j)) i → FirstAt (suc n) p (suc i)
found_on p n i e F = record { within = omega arith; before = below; here = λ l. F.here (omega arith) }
  where
    below : (j : ℕ) → j < suc i → p j ≡ false
    below zero l = e
    below (suc j) l = F.before j (omega arith)

pub first_found : (n : ℕ) (p : ℕ → Bool) → FirstAt n p (first n p)
unfolding first
first_found zero p = record { within = omega arith; before = λ j l. absurd (omega arith); here = λ l. absurd (omega arith) }
first_found (suc n) p = go (p zero) refl (first_found n (λ j. p (suc j)))
  where
    go :
        (b : Bool) → p zero ≡ b → FirstAt n (λ j. p (suc j)) (first n (λ j. p (suc j)))
        → FirstAt (suc n) p (elim b as (λ b. ℕ) [ true ↦ zero | false ↦ suc (first n (λ i. p (suc i))) ])
    go true e F = record { within = omega arith; before = λ j l. absurd (omega arith); here = λ l. e }
    go false e F = found_on p n (first n (λ i. p (suc i))) e F

pub found_first : (n : ℕ) (p : ℕ → Bool) (i : ℕ) → FirstAt n p i → first n p ≡ i
unfolding first
found_first zero p zero F = refl
found_first zero p (suc i) F = absurd (omega arith)
found_first (suc n) p zero F = rw (first, F.here (omega arith))
found_first (suc n) p (suc i) F =
    rw (first, F.before zero (omega arith))
    (ap suc
    (found_first n (λ j. p (suc j)) i
    (record { within = omega arith; before = λ j l. F.before (suc j) (omega arith); here = λ l. F.here (omega arith) })))

-- what a loop that looks from the front has found where it stops
pub first_here : {n : ℕ} {p : ℕ → Bool} (i : ℕ) → i < n → ((j : ℕ) → j < i → p j ≡ false) → p i ≡ true → i ≡ first n p
first_here {n} {p} i l f e = sym (found_first n p i (record { within = omega arith; before = f; here = λ m. e }))

pub first_nowhere : {n : ℕ} {p : ℕ → Bool} (i : ℕ) → i ≡ n → ((j : ℕ) → j < i → p j ≡ false) → i ≡ first n p
first_nowhere {n} {p} i e f =
    sym (found_first n p i (record { within = omega arith; before = f; here = λ m. absurd (omega arith) }))

-- two tests that are the same at every position find the same
pub first_alike : {n m : ℕ} {p q : ℕ → Bool} → n ≡ m → ((i : ℕ) → i < n → p i ≡ q i) → first n p ≡ first m q
first_alike {n} {m} {p} {q} e f =
    let F = first_found m q in
    found_first n p (first m q)
    (record {
      within = omega (arith, F.within);
      before = λ j l. f j (omega (arith, F.within)) ∙ F.before j l;
      here = λ l. f (first m q) l ∙ F.here (omega arith);
    })

-- a test that passes somewhere, by its position
pub some_below_true : (n : ℕ) (p : ℕ → Bool) → some_below n p ≡ true → (i : ℕ) × (i < n) × (p i ≡ true)
some_below_true n p e = let l = ltb-true (first n p) n e in (first n p, l, (first_found n p).here l)

pub some_below_at : (n : ℕ) (p : ℕ → Bool) (i : ℕ) → i < n → p i ≡ true → some_below n p ≡ true
some_below_at n p i l e = lt-ltb (first n p) n (go (dec_lt i (first n p)))
  where
    go : Dec (i < first n p) → first n p < n
    go (yes b) = absurd (false≢true (sym ((first_found n p).before i b) ∙ e))
    go (no h) = omega arith

-- a loop that looks for a position that passes: where it stops, as it goes on, at its end
module _ (p : ℕ → Bool) where
  pub some_met : (n i : ℕ) {r : Bool} → i < n → r ≡ p i → r ≡ true → true ≡ some_below n p
  some_met n i l e f = sym (some_below_at n p i l (sym e ∙ f))

  pub none_met : (i : ℕ) {r : Bool} → ((j : ℕ) → j < i → p j ≡ false) → r ≡ p i → r ≡ false → (j : ℕ) → j < i + 1 → p j ≡ false
  none_met i all e f = below_more (λ j. p j ≡ false) i all (sym e ∙ f)

  pub none_at_all : (n i : ℕ) → n ≤ i → ((j : ℕ) → j < i → p j ≡ false) → false ≡ some_below n p
  none_at_all n i l all =
      sym
      (Bool-eq-false
      (λ h.
      let m = some_below_true n p h in
      false≢true (sym (all m.0 (omega (arith, m.1))) ∙ m.2)))

pub same_true : (a b : List ℕ) → same a b ≡ true → a ≡ b
unfolding same
same_true [] [] e = refl
same_true [] (y ∷ b) e = absurd (false≢true e)
same_true (x ∷ a) [] e = absurd (false≢true e)
same_true (x ∷ a) (y ∷ b) e =
    let h = both (eqb x y) (same a b) e in ap₂ {C = List ℕ} ◌∷◌ (eqb-true x y h.0) (same_true a b h.1)

pub same_refl : (a : List ℕ) → same a a ≡ true
unfolding same
same_refl [] = refl
same_refl (x ∷ a) = rw (same, eq-eqb x x refl) (same_refl a)

pub same_false : (a b : List ℕ) → (a ≡ b → ⊥) → same a b ≡ false
same_false a b h = Bool-eq-false (λ e. h (same_true a b e))

-- two lists compared byte by byte
pub same_lengths : (a b : List ℕ) → (length a ≡ length b → ⊥) → same a b ≡ false
same_lengths a b h = same_false a b (λ e. h (ap length e))

pub same_differ : (a b : List ℕ) (i : ℕ) → (get_or a i 0 ≡ get_or b i 0 → ⊥) → same a b ≡ false
same_differ a b i h = same_false a b (λ e. h (ap (λ (s : List ℕ). get_or s i 0) e))

pub same_all : (a b : List ℕ) → length a ≡ length b → ((i : ℕ) → i < length a → get_or a i 0 ≡ get_or b i 0) → same a b ≡ true
same_all a b e f = rw (ext_get_or 0 a b e f) (same_refl b)

-- a part that is as long as what there is, or longer, is all that there is
pub part_cut : (s : List ℕ) (at n : ℕ) → length s ≤ at + n → part s at n ≡ drop at s
part_cut s at n l = take_all n (drop at s) (omega (arith, length-drop at s))

pub part_none : (s : List ℕ) (at n : ℕ) → length s ≤ at → part s at n ≡ []
part_none s at n l = part_cut s at n (omega arith) ∙ drop_of_length-le s l

pub part_length : (s : List ℕ) (at n : ℕ) → at + n ≤ length s → length (part s at n) ≡ n
part_length s at n l = length-take n (drop at s) ∙ min-eq_left (omega (arith, length-drop at s))

pub part_at : (s : List ℕ) (at n i : ℕ) → i < n → get_or (part s at n) i 0 ≡ get_or s (at + i) 0
part_at s at n i l = get_or-take n (drop at s) i 0 l ∙ get_or-drop at s i 0

pub none_some : {A : Type 0} {a : A} → none ≡ some a → ⊥
none_some e = let z : ◌≡◌ {A = ℕ} 0 1 = cc in omega arith

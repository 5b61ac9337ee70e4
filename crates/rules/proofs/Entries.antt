-- The entries of the computed search: which pairs they have, the marks made of them, and that there are no more of them than pairs.
-- Assumes nothing.
use mathlib.Core.Bool.{Bool, true, false, false≢true}
use mathlib.Core.List.{List, [], ◌∷◌, ◌++◌}
use mathlib.Core.Logic.{◌⊎◌, inl, inr, ⊎_elim}
use mathlib.Core.Path.{◌≡◌, refl, sym, ap, ◌∙◌}
use mathlib.Mathlib.Data.Bool.Basic.{Bool-eq-false}
use Prim.Native.Nat.{ℕ, zero, suc, ◌<◌, ◌≤◌}
use native.Mathlib.Omega.{arith}
use lib.Dec.{eqb}
use lib.ListN.{length, get_or}
use borrow.Author.Tests.{eqb-true, eq-eqb, ne_eqb}
use Rattle.rules.specs.Basics.{listed}
use Rattle.rules.specs.Pairs.{Pair}
use Rattle.rules.specs.Replies.{pair_count, mark_place, mark, count_marks}
use Rattle.rules.specs.computed.Verdict.{Entry, no_entry, same_pair, reached, marked_at, marks_of}
use Rattle.rules.proofs.Basics.{tests_same}
use Rattle.rules.proofs.Filling.{listed-length, listed_at, listed_same}
use Rattle.rules.proofs.Pairs.{same_pair_true, same_pair_is}
use Rattle.rules.proofs.Places.{pair_at, place_below, pair_at_place}
use Rattle.rules.proofs.Searching.{entered, entered_at, entered_where}
use Rattle.rules.proofs.Steps.{Within}
use Rattle.table.specs.declared.Table.{Table}

abbrev pub pair_of : List Entry → ℕ → Pair
pair_of es j = (get_or es j no_entry).pair

abbrev pub run_of : List Entry → ℕ → List ℕ
run_of es j = (get_or es j no_entry).run

-- a test, or else another
abbrev or_test : Bool → Bool → Bool
or_test b c = elim b as (λ z. Bool) [ true ↦ true | false ↦ c ]

or_either : (b c : Bool) → or_test b c ≡ true → (b ≡ true) ⊎ (c ≡ true)
or_either true c e = inl refl
or_either false c e = inr e

or_second : (b c : Bool) → c ≡ true → or_test b c ≡ true
or_second true c e = refl
or_second false c e = e

pub reached_where : (es : List Entry) (p : Pair) → reached es p ≡ true → (j : ℕ) × (j < length es) × (pair_of es j ≡ p)
unfolding reached
reached_where [] p e = absurd (false≢true e)
reached_where (d ∷ es) p e =
    ⊎_elim (λ f. (0, omega arith, same_pair_true d.pair p f))
    (λ g. let w = reached_where es p g in (suc w.0, omega (arith, w.1), w.2))
    (or_either (same_pair d.pair p) (reached es p) e)

reached_at : (es : List Entry) (j : ℕ) → j < length es → reached es (pair_of es j) ≡ true
unfolding reached
reached_at [] j l = absurd (omega arith)
reached_at (d ∷ es) zero l = rw (reached, same_pair_is d.pair d.pair refl) refl
reached_at (d ∷ es) (suc j) l = or_second (same_pair d.pair (pair_of es j)) (reached es (pair_of es j)) (reached_at es j (omega arith))

module _ (new old : Table) where
  marked_where : (es : List Entry) (i : ℕ) → marked_at new old es i ≡ true → (j : ℕ) × (j < length es) × (mark_place new old (pair_of es j) ≡ i)
  unfolding marked_at
  marked_where [] i e = absurd (false≢true e)
  marked_where (d ∷ es) i e =
      ⊎_elim (λ f. (0, omega arith, eqb-true _ _ f))
      (λ g. let w = marked_where es i g in (suc w.0, omega (arith, w.1), w.2))
      (or_either (eqb (mark_place new old d.pair) i) (marked_at new old es i) e)

  marked_entry : (es : List Entry) (j : ℕ) → j < length es → marked_at new old es (mark_place new old (pair_of es j)) ≡ true
  unfolding marked_at
  marked_entry [] j l = absurd (omega arith)
  marked_entry (d ∷ es) zero l = rw (marked_at, eq-eqb (mark_place new old d.pair) (mark_place new old d.pair) refl) refl
  marked_entry (d ∷ es) (suc j) l =
      or_second (eqb (mark_place new old d.pair) (mark_place new old (pair_of es j))) (marked_at new old es (mark_place new old (pair_of es j)))
      (marked_entry es j (omega arith))

  -- one entry more marks its place and no other
  marked_last : (es : List Entry) (e : Entry) → marked_at new old (es ++ (e ∷ [])) (mark_place new old e.pair) ≡ true
  unfolding marked_at
  marked_last [] e = rw (marked_at, eq-eqb (mark_place new old e.pair) (mark_place new old e.pair) refl) refl
  marked_last (d ∷ es) e =
      or_second (eqb (mark_place new old d.pair) (mark_place new old e.pair))
      (marked_at new old (es ++ (e ∷ [])) (mark_place new old e.pair)) (marked_last es e)

  marked_others :
      (es : List Entry) (e : Entry) (i : ℕ) → (i ≡ mark_place new old e.pair → ⊥)
      → marked_at new old (es ++ (e ∷ [])) i ≡ marked_at new old es i
  unfolding marked_at
  marked_others [] e i ne = rw (marked_at, ne_eqb (mark_place new old e.pair) i (λ d. ne (sym d))) refl
  marked_others (d ∷ es) e i ne = ap (or_test (eqb (mark_place new old d.pair) i)) (marked_others es e i ne)

  same_place : {p q : Pair} → Within new old p → Within new old q → mark_place new old p ≡ mark_place new old q → p ≡ q
  same_place v w e = sym (pair_at_place v) ∙ ap (pair_at new old) e ∙ pair_at_place w

  -- a pair is marked exactly if it has an entry
  module _ (es : List Entry) (inside : (j : ℕ) → j < length es → Within new old (pair_of es j)) where
    pub marked_entered : (p : Pair) → Within new old p → marked_at new old es (mark_place new old p) ≡ entered (pair_of es) (length es) p
    marked_entered p w =
        tests_same _ _
        (λ e.
        let v = marked_where es (mark_place new old p) e in
        rw (same_place (inside v.0 v.1) w v.2) at (entered_at (pair_of es) (length es) v.0 v.1))
        (λ e.
        let v = entered_where (pair_of es) (length es) p e in
        rw v.2 at (marked_entry es v.0 v.1))

    pub unreached_unmarked : (q : Pair) → Within new old q → reached es q ≡ false → marked_at new old es (mark_place new old q) ≡ false
    unreached_unmarked q w f =
        Bool-eq-false
        (λ e.
        let v = marked_where es (mark_place new old q) e in
        false≢true (sym f ∙ (rw (same_place (inside v.0 v.1) w v.2) at (reached_at es v.0 v.1))))

-- Of two rows of marks that differ at one place only, one has one mark more.
count_one_more :
    (n : ℕ) (f g : ℕ → Bool) (q : ℕ) → q < n → f q ≡ false → g q ≡ true → ((i : ℕ) → (i ≡ q → ⊥) → g i ≡ f i)
    → count_marks (listed n (λ i. mark (g i))) ≡ suc (count_marks (listed n (λ i. mark (f i))))
unfolding listed count_marks
count_one_more zero f g q l a b same = absurd (omega arith)
count_one_more (suc n) f g zero l a b same =
    rw (count_marks, a, b)
    (ap suc
    (ap count_marks (listed_same n (λ i. mark (g (suc i))) (λ i. mark (f (suc i))) (λ i m. ap mark (same (suc i) (λ d. omega arith))))))
count_one_more (suc n) f g (suc q) l a b same =
    go (f zero) (g zero) (same zero (λ d. omega arith))
    (count_one_more n (λ i. f (suc i)) (λ i. g (suc i)) q (omega arith) a b (λ i ne. same (suc i) (λ d. ne (omega arith))))
  where
    go :
        (c d : Bool) → d ≡ c
        → count_marks (listed n (λ i. mark (g (suc i)))) ≡ suc (count_marks (listed n (λ i. mark (f (suc i)))))
        → count_marks (mark d ∷ listed n (λ i. mark (g (suc i)))) ≡ suc (count_marks (mark c ∷ listed n (λ i. mark (f (suc i)))))
    go true true e h = ap suc h
    go true false e h = absurd (false≢true e)
    go false true e h = absurd (false≢true (sym e))
    go false false e h = h

pub count_within : (l : List ℕ) → count_marks l ≤ length l
unfolding count_marks
count_within [] = omega arith
count_within (b ∷ l) = go (eqb b 1) (count_within l)
  where
    go : (t : Bool) → count_marks l ≤ length l → elim t as (λ z. ℕ) [ true ↦ suc (count_marks l) | false ↦ count_marks l ] ≤ suc (length l)
    go true h = omega arith
    go false h = omega arith

module _ (new old : Table) where
  pub marks_within : (es : List Entry) → count_marks (marks_of new old es) ≤ pair_count new old
  unfolding marks_of
  marks_within es =
      omega (
        arith,
        count_within (listed (pair_count new old) (λ i. mark (marked_at new old es i))),
        listed-length (pair_count new old) (λ i. mark (marked_at new old es i)),
      )

  pub marks_more :
      (es : List Entry) (e : Entry) → Within new old e.pair → marked_at new old es (mark_place new old e.pair) ≡ false
      → count_marks (marks_of new old (es ++ (e ∷ []))) ≡ suc (count_marks (marks_of new old es))
  unfolding marks_of
  marks_more es e w f =
      count_one_more (pair_count new old) (marked_at new old es) (marked_at new old (es ++ (e ∷ []))) (mark_place new old e.pair)
      (place_below w) f (marked_last new old es e) (marked_others new old es e)

  pub marks_at : (es : List Entry) (p : Pair) → Within new old p → get_or (marks_of new old es) (mark_place new old p) 0 ≡ mark (marked_at new old es (mark_place new old p))
  unfolding marks_of
  marks_at es p w = listed_at (pair_count new old) (λ i. mark (marked_at new old es i)) 0 (mark_place new old p) (place_below w)

  pub marks_length : (es : List Entry) → length (marks_of new old es) ≡ pair_count new old
  unfolding marks_of
  marks_length es = listed-length (pair_count new old) (λ i. mark (marked_at new old es i))

  no_marks : (n : ℕ) → count_marks (listed n (λ i. mark (marked_at new old [] i))) ≡ 0
  unfolding listed count_marks marked_at
  no_marks zero = refl
  no_marks (suc n) = no_marks n

  pub one_mark : (e : Entry) → Within new old e.pair → count_marks (marks_of new old (e ∷ [])) ≡ 1
  unfolding marks_of marked_at
  one_mark e w = marks_more [] e w refl ∙ ap suc (no_marks (pair_count new old))

-- Lists made by position (`listed`) and filled up to a length (`fill`): what they hold, and a loop that fills one from the front.
-- Assumes nothing.
use mathlib.Core.List.{List, ◌∷◌, ◌++◌}
use mathlib.Core.Path.{◌≡◌, refl, sym, ap, ap₂, ◌∙◌}
use Prim.Native.Nat.{ℕ, zero, suc, ◌+◌, ◌-◌, ◌<◌}
use native.Mathlib.Nat.{sub-zero, suc-sub-suc, zero-add, suc-add}
use native.Mathlib.Numerals.{add-one, unary_clauses}
use native.Mathlib.Omega.{arith}
use lib.ListN.{length, get_or, set, replicate, length-append, get_or-append}
use lib.Seq.{get_or-append-add}
use Rattle.rules.specs.Basics.{listed, fill}

module _ {A : Type 0} where
  pub listed-length : (n : ℕ) (f : ℕ → A) → length (listed n f) ≡ n
  unfolding listed
  listed-length zero f = refl
  listed-length (suc n) f = ap suc (listed-length n (λ i. f (suc i)))

  pub listed_at : (n : ℕ) (f : ℕ → A) (d : A) (i : ℕ) → i < n → get_or (listed n f) i d ≡ f i
  unfolding listed
  listed_at zero f d i l = absurd (omega arith)
  listed_at (suc n) f d zero l = refl
  listed_at (suc n) f d (suc i) l = listed_at n (λ j. f (suc j)) d i (omega arith)

  -- lists that are the same at every position
  pub listed_same : (n : ℕ) (f g : ℕ → A) → ((i : ℕ) → i < n → f i ≡ g i) → listed n f ≡ listed n g
  unfolding listed
  listed_same zero f g h = refl
  listed_same (suc n) f g h =
      ap₂ {C = List A} ◌∷◌ (h 0 (omega arith)) (listed_same n (λ i. f (suc i)) (λ i. g (suc i)) (λ i l. h (suc i) (omega arith)))

  pub listed_equal : (n m : ℕ) (f g : ℕ → A) → n ≡ m → ((i : ℕ) → i < n → f i ≡ g i) → listed n f ≡ listed m g
  listed_equal n m f g e h = listed_same n f g h ∙ ap (λ (k : ℕ). listed k g) e

  -- a list in two parts, made by one function
  pub listed-append :
      (n m : ℕ) (f g h : ℕ → A) → ((i : ℕ) → i < n → h i ≡ f i) → ((i : ℕ) → i < m → h (n + i) ≡ g i)
      → listed n f ++ listed m g ≡ listed (n + m) h
  unfolding listed
  listed-append zero m f g h p q = rw (zero-add m) (listed_same m g h (λ i l. sym (q i l) ∙ ap h (zero-add i)))
  listed-append (suc n) m f g h p q =
      let rest : (i : ℕ) → i < m → h (suc (n + i)) ≡ g i = λ i l. ap h (sym (suc-add n i)) ∙ q i l in
      rw (suc-add n m)
      (ap₂ {C = List A} ◌∷◌ (sym (p 0 (omega arith)))
      (listed-append n m (λ i. f (suc i)) g (λ i. h (suc i)) (λ i l. p (suc i) (omega arith)) rest))

  -- what a filled list holds below its own length
  pub fill_at : (n : ℕ) (d e : A) (l : List A) (i : ℕ) → i < length l → get_or (fill n e l) i d ≡ get_or l i d
  fill_at n d e l i m = get_or-append l (replicate (n - length l) e) d i m

  pub fill-listed_at : (n : ℕ) (d e : A) (k : ℕ) (f : ℕ → A) (i : ℕ) → i < k → get_or (fill n e (listed k f)) i d ≡ f i
  fill-listed_at n d e k f i l = fill_at n d e (listed k f) i (omega (arith, listed-length k f)) ∙ listed_at k f d i l

  -- and what one of two parts holds
  pub first_of_two : (n : ℕ) (d e : A) (k : ℕ) (f : ℕ → A) (l : List A) (i : ℕ) → i < k → get_or (fill n e (listed k f ++ l)) i d ≡ f i
  first_of_two n d e k f l i m =
      let a = listed-length k f in
      fill_at n d e (listed k f ++ l) i (omega (arith, a, length-append (listed k f) l))
      ∙ get_or-append (listed k f) l d i (omega (arith, a)) ∙ listed_at k f d i m

  pub second_of_two :
      (n : ℕ) (d e : A) (k m : ℕ) (f g : ℕ → A) (i : ℕ) → i < m → get_or (fill n e (listed k f ++ listed m g)) (i + k) d ≡ g i
  second_of_two n d e k m f g i l =
      let a = listed-length k f in
      let p : i + k ≡ length (listed k f) + i = omega (arith, a) in
      fill_at n d e (listed k f ++ listed m g) (i + k) (omega (arith, a, listed-length m g, length-append (listed k f) (listed m g)))
      ∙ rw p (get_or-append-add (listed k f) (listed m g) i d) ∙ listed_at m g d i l

module _ {A : Type 0} (d : A) where
  first_place : (n : ℕ) (a : A) (l : List A) → fill (suc n) d (a ∷ l) ≡ a ∷ fill n d l
  first_place n a l = ap (λ m. a ∷ (l ++ replicate m d)) (suc-sub-suc n (length l))

  next_place : (n : ℕ) (f : ℕ → A) (i : ℕ) → i < n → set (fill n d (listed i f)) i (f i) ≡ fill n d (listed (suc i) f)
  unfolding listed
  next_place zero f i l = absurd (omega arith)
  next_place (suc n) f zero l = simp unary_clauses
  next_place (suc n) f (suc i) l =
      let g : ℕ → A = λ j. f (suc j) in
      ap (λ m. set m (suc i) (f (suc i))) (first_place n (f 0) (listed i g)) ∙ ap (λ (m : List A). f 0 ∷ m) (next_place n g i (omega arith))
      ∙ sym (first_place n (f 0) (listed (suc i) g))

-- n places, of which the first i hold f 0, f 1 and so on, and the others d
module _ {A : Type 0} (d : A) (n : ℕ) (f : ℕ → A) where
  pub fills_none : replicate n d ≡ fill n d (listed 0 f)
  unfolding listed
  fills_none = ap (λ m. replicate m d) (sym (sub-zero n))

  pub fills_one : (i : ℕ) (l : List A) (x : A) → i < n → l ≡ fill n d (listed i f) → x ≡ f i → set l i x ≡ fill n d (listed (i + 1) f)
  fills_one i l x m e g = rw (add-one i, e, g) (next_place d n f i m)

  pub fills_all : (i k : ℕ) (l : List A) → l ≡ fill n d (listed i f) → i ≡ k → l ≡ fill n d (listed k f)
  fills_all i k l e g = rw (← g) e

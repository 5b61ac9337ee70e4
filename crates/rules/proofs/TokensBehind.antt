-- The tokens of a text from a byte on, and how the first of them is found: past the blanks, it is a word as far as word bytes go, or one byte.
-- Assumes nothing.
use mathlib.Core.Bool.{Bool, true, false, false≢true}
use mathlib.Core.List.{List, [], ◌∷◌}
use mathlib.Core.Path.{◌≡◌, refl, sym, ap, ◌∙◌}
use Prim.Native.Nat.{ℕ, zero, suc, ◌+◌, ◌-◌, ◌<◌, ◌≤◌}
use native.Mathlib.Nat.{min-eq_left}
use native.Mathlib.Numerals.{add-one, unary_clauses}
use native.Mathlib.Omega.{arith}
use borrow.Author.Tests.{ltb-true, ltb-false, ne_eqb}
use lib.Dec.{ltb}
use lib.ListN.{length, get_or, take, drop, drop_of_length-le, length-drop, length-take}
use lib.Seq.{drop-cons, drop-drop, get_or-drop}
use Rattle.rules.specs.Basics.{part}
use Rattle.rules.specs.Words.{blank, letter, word_byte}
use Rattle.rules.specs.Tokens.{Token, word_front, tokens_from}
use Rattle.rules.proofs.Words.{letter_before}

-- how many bytes at the front pass a test
unfoldable pub front : (ℕ → Bool) → List ℕ → ℕ
front p [] = 0
front p (b ∷ s) = elim (p b) [ true ↦ suc (front p s) | false ↦ 0 ]

-- the first byte from i on that does not pass
unfoldable pub past : (ℕ → Bool) → List ℕ → ℕ → ℕ
past p s i = i + front p (drop i s)

-- the tokens from the byte i on, where no word goes on
unfoldable pub tokens_behind : List ℕ → ℕ → List Token
tokens_behind s i = tokens_from i zero (drop i s)

module _ (p : ℕ → Bool) (s : List ℕ) (i : ℕ) where
  pub past_end : length s ≤ i → past p s i ≡ i
  unfolding past front
  past_end h = rw (past, drop_of_length-le s {i = i} h) (omega arith)

  pub past_stop : i < length s → p (get_or s i 0) ≡ false → past p s i ≡ i
  unfolding past front
  past_stop h e = rw (past, drop-cons s i 0 h, front, e) (omega arith)

  pub past_on : i < length s → p (get_or s i 0) ≡ true → past p s i ≡ past p s (i + 1)
  unfolding past front
  past_on h e = rw (past, add-one i, drop-cons s i 0 h, front, e) (omega arith)

-- where the front ends, the test fails or the list does
front_stops : (p : ℕ → Bool) (s : List ℕ) → front p s < length s → p (get_or s (front p s) 0) ≡ false
unfolding front
front_stops p [] h = absurd (omega arith)
front_stops p (b ∷ s) h = go (front_stops p s) (p b) refl
  where
    go : (front p s < length s → p (get_or s (front p s) 0) ≡ false) → (q : Bool) → p b ≡ q → p (get_or (b ∷ s) (front p (b ∷ s)) 0) ≡ false
    go again true e = let k : suc (front p s) < suc (length s) = rw (front, e) at h in rw (front, e) (again (omega arith))
    go again false e = rw (front, e) e

front_within : (p : ℕ → Bool) (s : List ℕ) → front p s ≤ length s
unfolding front
front_within p [] = omega arith
front_within p (b ∷ s) = go (front_within p s) (p b)
  where
    go : front p s ≤ length s → (q : Bool) → (elim q as (λ x. ℕ) [ true ↦ suc (front p s) | false ↦ 0 ]) ≤ suc (length s)
    go again true = omega arith
    go again false = omega arith

pub past_from : (p : ℕ → Bool) (s : List ℕ) (i : ℕ) → i ≤ past p s i
unfolding past
past_from p s i = omega arith

pub past_within : (p : ℕ → Bool) (s : List ℕ) (i : ℕ) → i ≤ length s → past p s i ≤ length s
unfolding past
past_within p s i h = omega (arith, front_within p (drop i s), length-drop i s)

pub past_stops : (p : ℕ → Bool) (s : List ℕ) (i : ℕ) → past p s i < length s → p (get_or s (past p s i) 0) ≡ false
unfolding past
past_stops p s i h = rw (← get_or-drop i s (front p (drop i s)) 0) (front_stops p (drop i s) (omega (arith, length-drop i s)))

-- the bytes of a word are the front that word bytes make
word_front_taken : (s : List ℕ) → word_front s ≡ take (front word_byte s) s
unfolding word_front front
word_front_taken [] = refl
word_front_taken (b ∷ s) = go (word_front_taken s) (word_byte b)
  where
    go :
        word_front s ≡ take (front word_byte s) s → (q : Bool)
        → (elim q as (λ x. List ℕ) [ true ↦ b ∷ word_front s | false ↦ [] ])
        ≡ take (elim q as (λ x. ℕ) [ true ↦ suc (front word_byte s) | false ↦ 0 ]) (b ∷ s)
    go again true = ap (λ w. b ∷ w) again
    go again false = refl

word_front-length : (s : List ℕ) → length (word_front s) ≡ front word_byte s
word_front-length s = ap length (word_front_taken s) ∙ length-take (front word_byte s) s ∙ min-eq_left (front_within word_byte s)

-- bytes of a word before them are passed over
tokens_passed : (at k : ℕ) (s : List ℕ) → tokens_from at k s ≡ tokens_from (at + k) zero (drop k s)
unfolding tokens_from
tokens_passed at zero s = simp unary_clauses refl
tokens_passed at (suc k) [] = refl
tokens_passed at (suc k) (b ∷ s) = tokens_passed (suc at) k s ∙ ap (λ n. tokens_from n zero (drop k s)) (omega arith)

tokens-blank : (at : ℕ) (s : List ℕ) → tokens_from at zero s ≡ tokens_from (at + front blank s) zero (drop (front blank s) s)
unfolding tokens_from front
tokens-blank at [] = refl
tokens-blank at (b ∷ s) = go (tokens-blank (suc at) s) (blank b) refl
  where
    go :
        tokens_from (suc at) zero s ≡ tokens_from (suc at + front blank s) zero (drop (front blank s) s) → (q : Bool) → blank b ≡ q
        → tokens_from at zero (b ∷ s) ≡ tokens_from (at + front blank (b ∷ s)) zero (drop (front blank (b ∷ s)) (b ∷ s))
    go again true e = rw (tokens_from, front, e) (again ∙ ap (λ n. tokens_from n zero (drop (front blank s) s)) (omega arith))
    go again false e = rw (front, e) (simp unary_clauses refl)

letter_not_blank : (b : ℕ) → letter b ≡ true → blank b ≡ false
unfolding blank
letter_not_blank b e = go (ltb b 65) refl
  where
    go : (q : Bool) → ltb b 65 ≡ q → blank b ≡ false
    go true l = absurd (false≢true (sym (letter_before b (ltb-true b 65 l)) ∙ e))
    go false l =
        rw
        (blank, ne_eqb b 32 (λ q. omega (arith, ltb-false b 65 l)), ne_eqb b 9 (λ q. omega (arith, ltb-false b 65 l)), ne_eqb b 10 (λ q. omega (arith, ltb-false b 65 l)), ne_eqb b 13 (λ q. omega (arith, ltb-false b 65 l)))

letter-word_byte : (b : ℕ) → letter b ≡ true → word_byte b ≡ true
unfolding word_byte
letter-word_byte b e = rw (word_byte, e) refl

-- how far the word goes whose first byte is b, at i
word_past : (s : List ℕ) (i : ℕ) → i < length s → letter (get_or s i 0) ≡ true → past word_byte s i ≡ suc i + front word_byte (drop (suc i) s)
unfolding past front
word_past s i h l = rw (past, drop-cons s i 0 h, front, letter-word_byte (get_or s i 0) l) (omega arith)

pub word_further : (s : List ℕ) (i : ℕ) → i < length s → letter (get_or s i 0) ≡ true → i < past word_byte s i
word_further s i h l = omega (arith, word_past s i h l)

module _ (s : List ℕ) (i : ℕ) where
  pub behind_past : tokens_behind s i ≡ tokens_behind s (past blank s i)
  unfolding tokens_behind past
  behind_past = tokens-blank i (drop i s) ∙ ap (λ l. tokens_from (i + front blank (drop i s)) zero l) (drop-drop (front blank (drop i s)) i s)

  pub behind_none : length s ≤ i → tokens_behind s i ≡ []
  unfolding tokens_behind tokens_from
  behind_none h = rw (tokens_behind, drop_of_length-le s {i = i} h) refl

  pub behind_byte :
      i < length s → blank (get_or s i 0) ≡ false → letter (get_or s i 0) ≡ false
      → tokens_behind s i ≡ record { at = i; spelled = get_or s i 0 ∷ [] } ∷ tokens_behind s (i + 1)
  unfolding tokens_behind tokens_from
  behind_byte h b l = rw (tokens_behind, drop-cons s i 0 h, tokens_from, b, l, add-one i) refl

  -- the word from i on: its first byte, and those behind it that are word bytes
  word_there : i < length s → letter (get_or s i 0) ≡ true → get_or s i 0 ∷ word_front (drop (suc i) s) ≡ part s i (past word_byte s i - i)
  unfolding past front
  word_there h l =
      let n : ℕ = front word_byte (drop (suc i) s) in
      let e : suc i + n - i ≡ suc n = omega arith in
      rw (word_past s i h l, drop-cons s i 0 h, e) (ap (λ w. get_or s i 0 ∷ w) (word_front_taken (drop (suc i) s)))

  pub behind_word :
      i < length s → letter (get_or s i 0) ≡ true
      → tokens_behind s i ≡ record { at = i; spelled = part s i (past word_byte s i - i) } ∷ tokens_behind s (past word_byte s i)
  unfolding tokens_behind tokens_from
  behind_word h l =
      let k : ℕ = length (word_front (drop (suc i) s)) in
      let e : past word_byte s i ≡ suc i + k = word_past s i h l ∙ ap (λ n. suc i + n) (sym (word_front-length (drop (suc i) s))) in
      let p : tokens_from (suc i) k (drop (suc i) s) ≡ tokens_behind s (suc i + k) =
      tokens_passed (suc i) k (drop (suc i) s) ∙ ap (λ r. tokens_from (suc i + k) zero r) (drop-drop k (suc i) s) in
      rw (← word_there h l, e, ← p, tokens_behind, drop-cons s i 0 h, tokens_from, letter_not_blank (get_or s i 0) l, l) refl

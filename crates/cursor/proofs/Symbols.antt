-- The number of a token tells its symbol.
-- Assumes nothing.
use mathlib.Core.Bool.{Bool, true, false, false≢true}
use mathlib.Core.List.{List, [], ◌∷◌}
use mathlib.Core.Path.{◌≡◌, refl, sym, ◌∙◌}
use Prim.Native.Nat.{ℕ, ◌+◌, ◌<◌}
use native.Mathlib.Omega.{arith}
use borrow.Author.Tests.{ltb-true, lt-ltb, eqb-true, eq-eqb}
use lib.Dec.{eqb, ltb}
use lib.ListN.{length, get_or}
use Rattle.rules.specs.Words.{letter, reserved, reserved_words, reserved_position}
use Rattle.rules.specs.Tokens.{Token, Symbol, word, reserved_word, one_byte, symbol}
use Rattle.cursor.specs.Takes.{kind, first_kind, reserved_kind, word_kind}

-- the first token, by its symbol
pub record First (ts : List Token) (f : Token → Symbol) : Type 0 where
  pub token : Token
  pub rest : List Token
  pub split : ts ≡ token ∷ rest
  pub means : symbol token ≡ f token

-- a word that is not reserved is the token itself
own_word : (t w : Token) → symbol t ≡ word w → symbol t ≡ word t
unfolding symbol
own_word t w e = go (letter (get_or t.spelled 0 0)) refl
  where
    at_letter : (b : Bool) → letter (get_or t.spelled 0 0) ≡ true → reserved t.spelled ≡ b → symbol t ≡ word t
    at_letter true l r = let z : reserved_word (reserved_position t.spelled) ≡ word w = rw (symbol, l, r) at e in cc
    at_letter false l r = rw (symbol, l, r) refl

    go : (b : Bool) → letter (get_or t.spelled 0 0) ≡ b → symbol t ≡ word t
    go true l = at_letter (reserved t.spelled) l refl
    go false l = let z : one_byte (get_or t.spelled 0 0) ≡ word w = rw (symbol, l) at e in cc

kind_byte : (y : Symbol) (b : ℕ) → b < reserved_kind → kind y ≡ b → y ≡ one_byte b
unfolding kind
kind_byte (word w) b l e = absurd (omega arith)
kind_byte (reserved_word i) b l e = go (ltb i (length reserved_words)) refl
  where
    go : (q : Bool) → ltb i (length reserved_words) ≡ q → reserved_word i ≡ one_byte b
    go true q = let z : reserved_kind + i ≡ b = rw (kind, q) at e in absurd (omega arith)
    go false q = let z : 263 ≡ b = rw (kind, q) at e in absurd (omega arith)
kind_byte (one_byte a) b l e = go (ltb a reserved_kind) refl
  where
    go : (q : Bool) → ltb a reserved_kind ≡ q → one_byte a ≡ one_byte b
    go true q = let z : a ≡ b = rw (kind, q) at e in cc
    go false q = let z : 263 ≡ b = rw (kind, q) at e in absurd (omega arith)

kind_reserved : (y : Symbol) (i : ℕ) → i < length reserved_words → kind y ≡ reserved_kind + i → y ≡ reserved_word i
unfolding kind
kind_reserved (word w) i l e = absurd (omega arith)
kind_reserved (reserved_word j) i l e = go (ltb j (length reserved_words)) refl
  where
    go : (q : Bool) → ltb j (length reserved_words) ≡ q → reserved_word j ≡ reserved_word i
    go true q = let z : reserved_kind + j ≡ reserved_kind + i = rw (kind, q) at e in let d : j ≡ i = omega arith in cc
    go false q = let z : 263 ≡ reserved_kind + i = rw (kind, q) at e in absurd (omega arith)
kind_reserved (one_byte a) i l e = go (ltb a reserved_kind) refl
  where
    go : (q : Bool) → ltb a reserved_kind ≡ q → one_byte a ≡ reserved_word i
    go true q = let z : a ≡ reserved_kind + i = rw (kind, q) at e in absurd (omega (arith, ltb-true a reserved_kind q))
    go false q = let z : 263 ≡ reserved_kind + i = rw (kind, q) at e in absurd (omega arith)

kind_word : (t : Token) → kind (symbol t) ≡ word_kind → symbol t ≡ word t
unfolding kind
kind_word t e = go (symbol t) refl
  where
    by_position : (i : ℕ) (q : Bool) → ltb i (length reserved_words) ≡ q → symbol t ≡ reserved_word i → symbol t ≡ word t
    by_position i true q d = let z : reserved_kind + i ≡ word_kind = rw (d, kind, q) at e in absurd (omega (arith, ltb-true i (length reserved_words) q))
    by_position i false q d = let z : 263 ≡ word_kind = rw (d, kind, q) at e in absurd (omega arith)

    by_byte : (b : ℕ) (q : Bool) → ltb b reserved_kind ≡ q → symbol t ≡ one_byte b → symbol t ≡ word t
    by_byte b true q d = let z : b ≡ word_kind = rw (d, kind, q) at e in absurd (omega (arith, ltb-true b reserved_kind q))
    by_byte b false q d = let z : 263 ≡ word_kind = rw (d, kind, q) at e in absurd (omega arith)

    go : (y : Symbol) → symbol t ≡ y → symbol t ≡ word t
    go (word w) d = own_word t w d
    go (reserved_word i) d = by_position i (ltb i (length reserved_words)) refl d
    go (one_byte b) d = by_byte b (ltb b reserved_kind) refl d

pub first_byte : (ts : List Token) (n b : ℕ) → n ≡ first_kind ts → n ≡ b → b < reserved_kind → First ts (λ t. one_byte b)
first_byte [] n b e d l = absurd (omega arith)
first_byte (t ∷ ts) n b e d l = record { token = t; rest = ts; split = refl; means = kind_byte (symbol t) b l (cc) }

pub first_reserved : (ts : List Token) (n i : ℕ) → n ≡ first_kind ts → n ≡ reserved_kind + i → i < length reserved_words → First ts (λ t. reserved_word i)
first_reserved [] n i e d l = absurd (omega arith)
first_reserved (t ∷ ts) n i e d l = record { token = t; rest = ts; split = refl; means = kind_reserved (symbol t) i l (cc) }

pub first_word : (ts : List Token) (n : ℕ) → n ≡ first_kind ts → n ≡ word_kind → First ts word
first_word [] n e d = absurd (omega arith)
first_word (t ∷ ts) n e d = record { token = t; rest = ts; split = refl; means = kind_word t (cc) }

-- and a symbol's number is its own
pub kind_of_word : (w : Token) → kind (word w) ≡ word_kind
unfolding kind
kind_of_word w = refl

pub kind_of_byte : (b : ℕ) → b < reserved_kind → kind (one_byte b) ≡ b
unfolding kind
kind_of_byte b l = rw (kind, lt-ltb b reserved_kind l) refl

pub kind_of-reserved : (i : ℕ) → i < length reserved_words → kind (reserved_word i) ≡ reserved_kind + i
unfolding kind
kind_of-reserved i l = rw (kind, lt-ltb i (length reserved_words) l) refl

-- what `Taken::is` answers, of two numbers
pub is_that : {r : Bool} (n k : ℕ) → r ≡ eqb n k → r ≡ true → n ≡ k
is_that n k e y = eqb-true n k (sym e ∙ y)

pub is_other : {r : Bool} (n k : ℕ) → r ≡ eqb n k → r ≡ false → n ≡ k → ⊥
is_other n k e y d = false≢true (sym y ∙ e ∙ eq-eqb n k d)

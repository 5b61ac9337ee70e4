-- What the tokens of a text are: where they stand, how they are spelled, and that their places tell them apart.
-- Assumes nothing.
use mathlib.Core.Bool.{Bool, true, false}
use mathlib.Core.List.{List, [], ◌∷◌, ◌++◌, append_assoc, nil≢cons, head-eq_of_cons-eq, tail-eq_of_cons-eq}
use mathlib.Core.Path.{◌≡◌, refl, sym, ap, ◌∙◌}
use mathlib.Mathlib.Data.Bool.Basic.{and_intro}
use Prim.Native.Nat.{ℕ, zero, suc, ◌+◌, ◌<◌, ◌≤◌}
use native.Mathlib.Omega.{arith}
use lib.ListN.{length, get_or, take}
use Rattle.rules.specs.Basics.{part}
use Rattle.rules.specs.Words.{blank, letter, word_byte, word_bytes}
use Rattle.rules.specs.Tokens.{Token, word_front, tokens_from, tokens}

-- what a byte is, where a token may begin
pub data ByteKind (b : ℕ) : Type 0 where
  is_blank : blank b ≡ true → ByteKind b
  is_letter : blank b ≡ false → letter b ≡ true → ByteKind b
  is_other : blank b ≡ false → letter b ≡ false → ByteKind b

pub byte_kind : (b : ℕ) → ByteKind b
byte_kind b = go (blank b) refl (letter b) refl
  where
    go : (p : Bool) → blank b ≡ p → (q : Bool) → letter b ≡ q → ByteKind b
    go true e q f = is_blank e
    go false e true f = is_letter e f
    go false e false f = is_other e f

-- the tokens of bytes, by what their first one is
module _ (at b : ℕ) (s : List ℕ) where
  abbrev pub word_token : Token
  word_token = record { at = at; spelled = b ∷ word_front s }

  abbrev pub byte_token : Token
  byte_token = record { at = at; spelled = b ∷ [] }

  pub tokens-blank : blank b ≡ true → tokens_from at zero (b ∷ s) ≡ tokens_from (suc at) zero s
  unfolding tokens_from
  tokens-blank e = rw (tokens_from, e)

  pub tokens_word : blank b ≡ false → letter b ≡ true → tokens_from at zero (b ∷ s) ≡ word_token ∷ tokens_from (suc at) (length (word_front s)) s
  unfolding tokens_from
  tokens_word e f = rw (tokens_from, e, f)

  pub tokens_other : blank b ≡ false → letter b ≡ false → tokens_from at zero (b ∷ s) ≡ byte_token ∷ tokens_from (suc at) zero s
  unfolding tokens_from
  tokens_other e f = rw (tokens_from, e, f)

-- that ts are the tokens of the bytes s, of which the first stands at `at` and the first k belong to the word before: the cases of
-- `tokens_from`, to go along them
pub data Lexed : ℕ → ℕ → List ℕ → List Token → Type 0 where
  ends : {at k : ℕ} → Lexed at k [] []
  inside : {at k b : ℕ} {s : List ℕ} {ts : List Token} → Lexed (suc at) k s ts → Lexed at (suc k) (b ∷ s) ts
  past-blank : {at b : ℕ} {s : List ℕ} {ts : List Token} → blank b ≡ true → Lexed (suc at) zero s ts → Lexed at zero (b ∷ s) ts
  a_word :
      {at b : ℕ} {s : List ℕ} {ts : List Token} → blank b ≡ false → letter b ≡ true → Lexed (suc at) (length (word_front s)) s ts
      → Lexed at zero (b ∷ s) (word_token at b s ∷ ts)
  a_byte :
      {at b : ℕ} {s : List ℕ} {ts : List Token} → blank b ≡ false → letter b ≡ false → Lexed (suc at) zero s ts
      → Lexed at zero (b ∷ s) (byte_token at b s ∷ ts)

pub lexed : (at k : ℕ) (s : List ℕ) → Lexed at k s (tokens_from at k s)
unfolding tokens_from
lexed at k [] = ends
lexed at (suc k) (b ∷ s) = inside (lexed (suc at) k s)
lexed at zero (b ∷ s) = go (λ k. lexed (suc at) k s) (byte_kind b)
  where
    go : ((k : ℕ) → Lexed (suc at) k s (tokens_from (suc at) k s)) → ByteKind b → Lexed at zero (b ∷ s) (tokens_from at zero (b ∷ s))
    go f (is_blank e) = rw (tokens-blank at b s e) (past-blank e (f zero))
    go f (is_letter e g) = rw (tokens_word at b s e g) (a_word e g (f (length (word_front s))))
    go f (is_other e g) = rw (tokens_other at b s e g) (a_byte e g (f zero))

-- a word goes as far as word bytes do
front_part : (s : List ℕ) → word_front s ≡ take (length (word_front s)) s
unfolding word_front
front_part [] = refl
front_part (b ∷ s) = go (word_byte b) (front_part s)
  where
    go :
        (p : Bool) → word_front s ≡ take (length (word_front s)) s
        → let w : List ℕ = elim p [ true ↦ b ∷ word_front s | false ↦ [] ] in w ≡ take (length w) (b ∷ s)
    go true e = ap (λ (w : List ℕ). b ∷ w) e
    go false e = refl

pub front_length : (s : List ℕ) → length (word_front s) ≤ length s
unfolding word_front
front_length [] = omega arith
front_length (b ∷ s) = go (word_byte b) (front_length s)
  where
    go :
        (p : Bool) → length (word_front s) ≤ length s
        → let w : List ℕ = elim p [ true ↦ b ∷ word_front s | false ↦ [] ] in length w ≤ length (b ∷ s)
    go true l = omega arith
    go false l = omega arith

front_bytes : (s : List ℕ) → word_bytes (word_front s) ≡ true
unfolding word_front word_bytes
front_bytes [] = refl
front_bytes (b ∷ s) = go (word_byte b) refl (front_bytes s)
  where
    go :
        (p : Bool) → word_byte b ≡ p → word_bytes (word_front s) ≡ true
        → let w : List ℕ = elim p [ true ↦ b ∷ word_front s | false ↦ [] ] in word_bytes w ≡ true
    go true e l = and_intro e l
    go false e l = refl

letter-word_byte : (b : ℕ) → letter b ≡ true → word_byte b ≡ true
unfolding word_byte
letter-word_byte b e = rw (word_byte, e)

-- where a token stands among the bytes s, of which the first stands at `from`, and how it is spelled
pub record Spelled (s : List ℕ) (from : ℕ) (t : Token) : Type 0 where
  pub offset : ℕ
  pub place : t.at ≡ from + offset
  pub is_part : t.spelled ≡ part s offset (length t.spelled)
  pub some_byte : 0 < length t.spelled
  pub within : offset + length t.spelled ≤ length s

-- a word, which is all word bytes; or one byte
pub data Shape (w : List ℕ) : Type 0 where
  shaped_word : letter (get_or w 0 0) ≡ true → word_bytes w ≡ true → Shape w
  shaped_byte : length w ≡ 1 → letter (get_or w 0 0) ≡ false → Shape w

no_split : (a b : List Token) (t : Token) → [] ≡ a ++ (t ∷ b) → ⊥
no_split [] b t e = nil≢cons e
no_split (d ∷ a) b t e = nil≢cons e

-- one byte more in front
behind_byte : {s : List ℕ} {at : ℕ} {t : Token} (b : ℕ) → Spelled s (suc at) t → Spelled (b ∷ s) at t
behind_byte b S =
    record { offset = suc S.offset; place = omega (arith, S.place); is_part = S.is_part; some_byte = S.some_byte; within = omega (arith, S.within) }

word_spelled : (at b : ℕ) (s : List ℕ) → Spelled (b ∷ s) at (word_token at b s)
word_spelled at b s =
    record {
      offset = zero;
      place = omega arith;
      is_part = ap (λ (w : List ℕ). b ∷ w) (front_part s);
      some_byte = omega arith;
      within = omega (arith, front_length s);
    }

byte_spelled : (at b : ℕ) (s : List ℕ) → Spelled (b ∷ s) at (byte_token at b s)
byte_spelled at b s = record { offset = zero; place = omega arith; is_part = refl; some_byte = omega arith; within = omega arith }

spelled_from :
    {at k : ℕ} {s : List ℕ} {ts : List Token} → Lexed at k s ts → (a b : List Token) (t : Token) → ts ≡ a ++ (t ∷ b) → Spelled s at t
spelled_from ends a b t e = absurd (no_split a b t e)
spelled_from (inside {b = c} l) a b t e = behind_byte c (spelled_from l a b t e)
spelled_from (past-blank {b = c} p l) a b t e = behind_byte c (spelled_from l a b t e)
spelled_from (a_word {at} {b = c} {s} p q l) [] b t e = rw (← head-eq_of_cons-eq e) (word_spelled at c s)
spelled_from (a_word {b = c} p q l) (d ∷ a) b t e = behind_byte c (spelled_from l a b t (tail-eq_of_cons-eq e))
spelled_from (a_byte {at} {b = c} {s} p q l) [] b t e = rw (← head-eq_of_cons-eq e) (byte_spelled at c s)
spelled_from (a_byte {b = c} p q l) (d ∷ a) b t e = behind_byte c (spelled_from l a b t (tail-eq_of_cons-eq e))

shape_from : {at k : ℕ} {s : List ℕ} {ts : List Token} → Lexed at k s ts → (a b : List Token) (t : Token) → ts ≡ a ++ (t ∷ b) → Shape t.spelled
unfolding word_bytes
shape_from ends a b t e = absurd (no_split a b t e)
shape_from (inside l) a b t e = shape_from l a b t e
shape_from (past-blank p l) a b t e = shape_from l a b t e
shape_from (a_word {b = c} {s} p q l) [] b t e =
    rw (← head-eq_of_cons-eq e) (shaped_word q (and_intro (letter-word_byte c q) (front_bytes s)))
shape_from (a_word p q l) (d ∷ a) b t e = shape_from l a b t (tail-eq_of_cons-eq e)
shape_from (a_byte p q l) [] b t e = rw (← head-eq_of_cons-eq e) (shaped_byte refl q)
shape_from (a_byte p q l) (d ∷ a) b t e = shape_from l a b t (tail-eq_of_cons-eq e)

-- a token stands before those behind it
earlier_from :
    {at k : ℕ} {s : List ℕ} {ts : List Token} → Lexed at k s ts → (before after rest : List Token) (d t : Token)
    → ts ≡ before ++ (d ∷ (after ++ (t ∷ rest))) → d.at < t.at
earlier_from ends a b c d t e = absurd (no_split a (b ++ (t ∷ c)) d e)
earlier_from (inside l) a b c d t e = earlier_from l a b c d t e
earlier_from (past-blank p l) a b c d t e = earlier_from l a b c d t e
earlier_from (a_word {at} p q l) [] b c d t e =
    let S = spelled_from l b c t (tail-eq_of_cons-eq e) in omega (arith, S.place, ap (λ (t : Token). t.at) (head-eq_of_cons-eq e))
earlier_from (a_word p q l) (x ∷ a) b c d t e = earlier_from l a b c d t (tail-eq_of_cons-eq e)
earlier_from (a_byte {at} p q l) [] b c d t e =
    let S = spelled_from l b c t (tail-eq_of_cons-eq e) in omega (arith, S.place, ap (λ (t : Token). t.at) (head-eq_of_cons-eq e))
earlier_from (a_byte p q l) (x ∷ a) b c d t e = earlier_from l a b c d t (tail-eq_of_cons-eq e)

-- The tokens of a text.
module _ (s : List ℕ) where
  text_lexed : Lexed 0 0 s (tokens s)
  unfolding tokens
  text_lexed = lexed 0 0 s

  pub token_shape : (done rest : List Token) (t : Token) → tokens s ≡ done ++ (t ∷ rest) → Shape t.spelled
  token_shape done rest t e = shape_from text_lexed done rest t e

  -- the spelling is a part of the text
  pub token_spelling :
      (done rest : List Token) (t : Token) → tokens s ≡ done ++ (t ∷ rest)
      → (t.spelled ≡ part s t.at (length t.spelled)) × (0 < length t.spelled) × (t.at + length t.spelled ≤ length s)
  token_spelling done rest t e =
      let S = spelled_from text_lexed done rest t e in
      let z : t.at ≡ S.offset = omega (arith, S.place) in
      rw z (S.is_part, S.some_byte, S.within)

  pub token_place : (done rest : List Token) (t : Token) → tokens s ≡ done ++ (t ∷ rest) → t.at < length s
  token_place done rest t e = let (p, m, n) = token_spelling done rest t e in omega arith

  -- places rise
  pub earlier_place : (before after rest : List Token) (d t : Token) → tokens s ≡ (before ++ (d ∷ after)) ++ (t ∷ rest) → d.at < t.at
  earlier_place before after rest d t e = earlier_from text_lexed before after rest d t (e ∙ append_assoc before (d ∷ after) (t ∷ rest))

-- two places of one list: the same, or one behind the other
data Splits (a b c d : List Token) (t u : Token) : Type 0 where
  same_split : a ≡ c → t ≡ u → b ≡ d → Splits a b c d t u
  behind : (e : List Token) → c ≡ a ++ (t ∷ e) → b ≡ e ++ (u ∷ d) → Splits a b c d t u
  before : (e : List Token) → a ≡ c ++ (u ∷ e) → d ≡ e ++ (t ∷ b) → Splits a b c d t u

one_more : {a b c d : List Token} {t u : Token} (x : Token) → Splits a b c d t u → Splits (x ∷ a) b (x ∷ c) d t u
one_more x (same_split p q r) = same_split (cc) q r
one_more x (behind e p q) = behind e (cc) q
one_more x (before e p q) = before e (cc) q

splits : (a b c d : List Token) (t u : Token) → a ++ (t ∷ b) ≡ c ++ (u ∷ d) → Splits a b c d t u
splits [] b [] d t u h = same_split refl (head-eq_of_cons-eq h) (tail-eq_of_cons-eq h)
splits [] b (x ∷ c) d t u h = behind c (rw (head-eq_of_cons-eq h)) (tail-eq_of_cons-eq h)
splits (x ∷ a) b [] d t u h = before a (rw (head-eq_of_cons-eq h)) (sym (tail-eq_of_cons-eq h))
splits (x ∷ a) b (y ∷ c) d t u h = rw (← head-eq_of_cons-eq h) (one_more x (splits a b c d t u (tail-eq_of_cons-eq h)))

module _ (s : List ℕ) (a b c d : List Token) (t u : Token) (p : tokens s ≡ a ++ (t ∷ b)) (q : tokens s ≡ c ++ (u ∷ d)) where
  -- a place is one token's
  pub same_place : t.at ≡ u.at → (a ≡ c) × (t ≡ u) × (b ≡ d)
  same_place h = go (splits a b c d t u (sym p ∙ q))
    where
      go : Splits a b c d t u → (a ≡ c) × (t ≡ u) × (b ≡ d)
      go (same_split x y z) = (x, y, z)
      go (behind e x y) = absurd (omega (arith, earlier_place s a e d t u (rw x at q)))
      go (before e x y) = absurd (omega (arith, earlier_place s c e b u t (rw x at p)))

  -- a token with a greater place stands behind
  pub later_place : t.at < u.at → (e : List Token) × (c ≡ a ++ (t ∷ e)) × (b ≡ e ++ (u ∷ d))
  later_place h = go (splits a b c d t u (sym p ∙ q))
    where
      go : Splits a b c d t u → (e : List Token) × (c ≡ a ++ (t ∷ e)) × (b ≡ e ++ (u ∷ d))
      go (same_split x y z) = absurd (omega (arith, ap (λ (t : Token). t.at) y))
      go (behind e x y) = (e, x, y)
      go (before e x y) = absurd (omega (arith, earlier_place s c e b u t (rw x at p)))

-- a blank behind the whole of a word changes nothing in it
front_cut :
    (u back v : List ℕ) → length (word_front (u ++ back)) ≤ length u → word_front (u ++ (32 ∷ v)) ≡ word_front (u ++ back)
unfolding word_front word_byte letter
front_cut [] back v l = go (word_front back) l
  where
    go : (w : List ℕ) → length w ≤ 0 → [] ≡ w
    go [] l = refl
    go (b ∷ w) l = absurd (omega arith)
front_cut (b ∷ u) back v l = go (word_byte b) refl (front_cut u back v)
  where
    go :
        (p : Bool) → word_byte b ≡ p
        → (length (word_front (u ++ back)) ≤ length u → word_front (u ++ (32 ∷ v)) ≡ word_front (u ++ back))
        → word_front (b ∷ (u ++ (32 ∷ v))) ≡ word_front (b ∷ (u ++ back))
    go true e f = rw (word_front, e) (ap (λ (w : List ℕ). b ∷ w) (f (omega (arith, rw (word_front, e) at l))))
    go false e f = rw (word_front, e) refl

-- Bytes whose tokens begin with `done`, cut off behind these: with a blank behind the front part, whatever follows has its own tokens.
pub record Cut (s : List ℕ) (from k : ℕ) (done : List Token) : Type 0 where
  pub front : List ℕ
  pub back : List ℕ
  pub parts : s ≡ front ++ back
  pub long : k ≤ length front
  pub next : ℕ
  pub cut : (v : List ℕ) → tokens_from from k (front ++ (32 ∷ v)) ≡ done ++ tokens_from next zero v

-- before the first token
cut_here : (s : List ℕ) (at : ℕ) → Cut s at zero []
unfolding tokens_from blank
cut_here s at = record { front = []; back = s; parts = refl; long = omega arith; next = suc at; cut = λ v. refl }

-- one byte more in front
cut_behind :
    {s : List ℕ} {at j k : ℕ} {done ts : List Token} (b : ℕ) (C : Cut s (suc at) j done) → k ≤ suc (length C.front)
    → ((v : List ℕ) → tokens_from at k (b ∷ (C.front ++ (32 ∷ v))) ≡ ts ++ tokens_from C.next zero v) → Cut (b ∷ s) at k ts
cut_behind b C l f =
    record { front = b ∷ C.front; back = C.back; parts = ap (λ (u : List ℕ). b ∷ u) C.parts; long = l; next = C.next; cut = f }

-- it is inside a word, or blank, or begins a word, or is a token
cut_inside : {s : List ℕ} {at k : ℕ} {done : List Token} (b : ℕ) → Cut s (suc at) k done → Cut (b ∷ s) at (suc k) done
unfolding tokens_from
cut_inside b C = cut_behind b C (omega (arith, C.long)) C.cut

cut_blank : {s : List ℕ} {at : ℕ} {done : List Token} (b : ℕ) → blank b ≡ true → Cut s (suc at) zero done → Cut (b ∷ s) at zero done
cut_blank {at} b p C = cut_behind b C (omega arith) (λ v. tokens-blank at b (C.front ++ (32 ∷ v)) p ∙ C.cut v)

cut_word :
    (at b : ℕ) (s : List ℕ) (done : List Token) → blank b ≡ false → letter b ≡ true → Cut s (suc at) (length (word_front s)) done
    → Cut (b ∷ s) at zero (word_token at b s ∷ done)
cut_word at b s done p q C =
    cut_behind b C (omega arith) (λ v.
    tokens_word at b (C.front ++ (32 ∷ v)) p q ∙ rw (same_front v) (ap (λ (ts : List Token). word_token at b s ∷ ts) (C.cut v)))
  where
    same_front : (v : List ℕ) → word_front (C.front ++ (32 ∷ v)) ≡ word_front s
    same_front v = front_cut C.front C.back v (rw C.parts at C.long) ∙ ap word_front (sym C.parts)

cut_byte :
    (at b : ℕ) (s : List ℕ) (done : List Token) → blank b ≡ false → letter b ≡ false → Cut s (suc at) zero done
    → Cut (b ∷ s) at zero (byte_token at b s ∷ done)
cut_byte at b s done p q C =
    cut_behind b C (omega arith) (λ v.
    tokens_other at b (C.front ++ (32 ∷ v)) p q ∙ ap (λ (ts : List Token). byte_token at b s ∷ ts) (C.cut v))

cut_from :
    {at k : ℕ} {s : List ℕ} {ts : List Token} → Lexed at k s ts → k ≤ length s → (done rest : List Token) → ts ≡ done ++ rest
    → Cut s at k done
cut_from (ends {at} {k}) l [] rest e = let z : k ≡ 0 = omega arith in rw z (cut_here [] at)
cut_from ends l (d ∷ done) rest e = absurd (nil≢cons e)
cut_from (inside {b} m) l done rest e = cut_inside b (cut_from m (omega arith) done rest e)
cut_from (past-blank {b} p m) l done rest e = cut_blank b p (cut_from m (omega arith) done rest e)
cut_from (a_word {at} {b} {s} p q m) l [] rest e = cut_here (b ∷ s) at
cut_from (a_word {at} {b} {s} p q m) l (d ∷ done) rest e =
    rw (← head-eq_of_cons-eq e) (cut_word at b s done p q (cut_from m (front_length s) done rest (tail-eq_of_cons-eq e)))
cut_from (a_byte {at} {b} {s} p q m) l [] rest e = cut_here (b ∷ s) at
cut_from (a_byte {at} {b} {s} p q m) l (d ∷ done) rest e =
    rw (← head-eq_of_cons-eq e) (cut_byte at b s done p q (cut_from m (omega arith) done rest (tail-eq_of_cons-eq e)))

pub text_cut : (s : List ℕ) (done rest : List Token) → tokens s ≡ done ++ rest → Cut s 0 0 done
text_cut s done rest e = cut_from (text_lexed s) (omega arith) done rest e

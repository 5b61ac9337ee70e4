-- Laws of ../specs/Words: words and their bytes, position by position.
-- Assumes nothing.
use mathlib.Core.Bool.{true, false, false≢true, and-true, and-false}
use mathlib.Core.List.{List, [], ◌∷◌}
use mathlib.Core.Path.{◌≡◌, refl, sym, ◌∙◌}
use mathlib.Mathlib.Data.Bool.Basic.{and_elim_left, and_elim_right, and_intro, Bool-eq-false}
use Prim.Native.Nat.{ℕ, zero, suc, ◌<◌, ◌≤◌}
use native.Mathlib.Omega.{arith}
use borrow.Author.Tests.{leb-true, le-leb, lt-leb, lt-ltb, le-ltb}
use lib.ListN.{length, get_or, drop}
use lib.Dec.{leb}
use Rattle.rules.specs.Basics.{same, every}
use Rattle.rules.proofs.Basics.{first_found, every_true, same_true}
use Rattle.rules.specs.Words.{letter, word_byte, word_bytes, word_most, is_word, reserved_words, reserved_position, reserved, may_name}

-- a letter, by where a byte stands among the letters
module _ (b : ℕ) where
  pub letter_before : b < 65 → letter b ≡ false
  unfolding letter
  letter_before l = rw (letter, lt-leb 65 b l, lt-leb 97 b (omega arith))

  pub letter_capital : 65 ≤ b → b ≤ 90 → letter b ≡ true
  unfolding letter
  letter_capital l m = rw (letter, le-leb 65 b l, le-leb b 90 m)

  pub letter_between : 90 < b → b < 97 → letter b ≡ false
  unfolding letter
  letter_between l m = rw (letter, le-leb 65 b (omega arith), lt-leb b 90 l, lt-leb 97 b m)

  pub letter_small : 97 ≤ b → b ≤ 122 → letter b ≡ true
  unfolding letter
  letter_small l m = rw (letter, le-leb 65 b (omega arith), lt-leb b 90 (omega arith), le-leb 97 b l, le-leb b 122 m)

  pub letter_behind : 122 < b → letter b ≡ false
  unfolding letter
  letter_behind l = rw (letter, le-leb 65 b (omega arith), lt-leb b 90 (omega arith), le-leb 97 b (omega arith), lt-leb b 122 l)

word_bytes_true : (w : List ℕ) → word_bytes w ≡ true → (i : ℕ) → i < length w → word_byte (get_or w i 0) ≡ true
unfolding word_bytes
word_bytes_true [] e i l = absurd (omega arith)
word_bytes_true (b ∷ w) e zero l = and_elim_left (word_byte b) (word_bytes w) e
word_bytes_true (b ∷ w) e (suc i) l = word_bytes_true w (and_elim_right (word_byte b) (word_bytes w) e) i (omega arith)

pub word_bytes_all : (w : List ℕ) → ((i : ℕ) → i < length w → word_byte (get_or w i 0) ≡ true) → word_bytes w ≡ true
unfolding word_bytes
word_bytes_all [] f = refl
word_bytes_all (b ∷ w) f = and_intro (f 0 (omega arith)) (word_bytes_all w (λ i l. f (suc i) (omega arith)))

pub word_bytes_false : (w : List ℕ) (i : ℕ) → i < length w → word_byte (get_or w i 0) ≡ false → word_bytes w ≡ false
word_bytes_false w i l e = Bool-eq-false (λ h. false≢true (sym e ∙ word_bytes_true w h i l))

-- a word, as plain facts
pub record Word (w : List ℕ) : Type 0 where
  pub some_byte : 1 ≤ length w
  pub few_bytes : length w ≤ word_most
  pub begins : letter (get_or w 0 0) ≡ true
  pub goes_on : word_bytes (drop 1 w) ≡ true

pub word_facts : {w : List ℕ} → is_word w ≡ true → Word w
unfolding is_word
word_facts {w = []} e = absurd (false≢true e)
word_facts {w = b ∷ w} e =
    record {
      some_byte = omega arith;
      few_bytes = leb-true _ _ (search (and_elim_left, and_elim_right));
      begins = search (and_elim_left, and_elim_right);
      goes_on = search (and_elim_left, and_elim_right);
    }

pub word_true : {w : List ℕ} → Word w → is_word w ≡ true
unfolding is_word
word_true {w = []} f = absurd (omega (arith, f.some_byte))
word_true {w = b ∷ w} f = and_intro (and_intro f.begins f.goes_on) (le-leb _ _ f.few_bytes)

-- what may be a name: a word that is none of the reserved ones
pub may_name-reserved : (w : List ℕ) → reserved_position w < length reserved_words → may_name w ≡ false
unfolding may_name reserved
may_name-reserved w l = rw (lt-ltb (reserved_position w) (length reserved_words) l) (and-false (is_word w))

pub may_name_word : (w : List ℕ) → length reserved_words ≤ reserved_position w → may_name w ≡ is_word w
unfolding may_name reserved
may_name_word w l = rw (le-ltb (reserved_position w) (length reserved_words) l) (and-true (is_word w))

-- a reserved word is short
reserved_lengths : every (length reserved_words) (λ i. leb (length (get_or reserved_words i [])) word_most) ≡ true
unfolding every
reserved_lengths = refl

pub reserved_short : (w : List ℕ) → reserved_position w < length reserved_words → length w ≤ word_most
unfolding reserved_position
reserved_short w l =
    let found = first_found (length reserved_words) (λ i. same w (get_or reserved_words i [])) in
    let e : w ≡ get_or reserved_words (reserved_position w) [] = same_true w _ (found.here l) in
    rw e (leb-true _ _ (every_true (length reserved_words) _ reserved_lengths (reserved_position w) l))

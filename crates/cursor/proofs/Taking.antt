-- What stands behind the blanks is the next token: the end of the text, one byte, or a word.
-- Assumes nothing.
use mathlib.Core.Bool.{Bool, true, false}
use mathlib.Core.List.{List, [], ◌∷◌}
use mathlib.Core.Logic.{◌⊎◌, inl, inr}
use mathlib.Core.Path.{◌≡◌, refl, sym, ap, ◌∙◌}
use Prim.Native.Nat.{ℕ, ◌+◌, ◌-◌, ◌<◌, ◌≤◌}
use native.Mathlib.Omega.{arith}
use borrow.Author.Tests.{lt-ltb, ltb-true}
use lib.Dec.{ltb}
use lib.ListN.{length, get_or}
use Rattle.rules.specs.Basics.{part}
use Rattle.rules.specs.Words.{blank, letter, word_byte, word_most, reserved_words, reserved_position, reserved}
use Rattle.rules.specs.Tokens.{Token, symbol}
use Rattle.rules.proofs.Basics.{part_length, part_at}
use Rattle.rules.proofs.Words.{reserved_short}
use Rattle.rules.proofs.TokensBehind.{past, past_from, past_within, past_stops, tokens_behind, behind_past, behind_none, behind_byte, behind_word, word_further}
use Rattle.cursor.specs.Takes.{kind, number, word_number, reserved_kind, word_kind, Takes}
use Rattle.cursor.specs.declared.Cursor.{Cursor}
use Rattle.cursor.specs.declared.Symbol as declared
use Rattle.cursor.specs.declared.Symbol.TheVariants as symbols

-- the kind of a token that begins with a letter is its word's number
word_token : (t : Token) → letter (get_or t.spelled 0 0) ≡ true → word_number t.spelled ≡ kind (symbol t)
unfolding kind symbol word_number reserved
word_token t l = go (reserved t.spelled) refl
  where
    go : (b : Bool) → reserved t.spelled ≡ b → word_number t.spelled ≡ kind (symbol t)
    go true e = rw (word_number, symbol, l, e, kind, e) refl
    go false e = rw (word_number, symbol, l, e) refl

word_short : (w : List ℕ) (n : ℕ) → length w ≡ n → (word_number w ≡ word_kind) ⊎ (n ≤ word_most)
unfolding word_number
word_short w n e = go (ltb (reserved_position w) (length reserved_words)) refl
  where
    go : (b : Bool) → ltb (reserved_position w) (length reserved_words) ≡ b → (word_number w ≡ word_kind) ⊎ (n ≤ word_most)
    go true l = inr (omega (arith, reserved_short w (ltb-true _ _ l)))
    go false l = inl (rw (word_number, l) refl)

byte_token : (i b : ℕ) → letter b ≡ false → b < reserved_kind → b ≡ kind (symbol (record { at = i; spelled = b ∷ [] }))
unfolding kind symbol
byte_token i b e l = rw (symbol, e, kind, lt-ltb b reserved_kind l) refl

module _ (s : List ℕ) (c : Cursor) (h : c.at ≤ length s) where
  abbrev there : ℕ
  there = past blank s c.at

  abbrev moved : ℕ → Cursor
  moved i = record { at = i; nodes = c.nodes; uses = c.uses }

  there_from : c.at ≤ there
  there_from = past_from blank s c.at

  there_within : there ≤ length s
  there_within = past_within blank s c.at h

  takes_end : length s ≤ there → Takes s c (record { symbol = symbols.Nothing; at = there; len = 0; next = moved there })
  takes_end l =
      let e : there ≡ length s = omega (arith, there_within) in
      let n : tokens_behind s c.at ≡ [] = behind_past s c.at ∙ behind_none s there l in
      record {
        ahead = rw n (record { is = refl; stands = e; long = refl; behind = sym (behind_none s there l); short = inr (omega arith) });
        from = there_from;
        onward = omega arith;
        within = λ g. there_within;
        some_byte = inl refl;
        nodes = refl;
        uses = refl;
      }

  takes_byte :
      there < length s → letter (get_or s there 0) ≡ false → get_or s there 0 < reserved_kind
      → Takes s c (record { symbol = symbols.Byte (get_or s there 0); at = there; len = 1; next = moved (there + 1) })
  takes_byte l e b =
      let n = behind_past s c.at ∙ behind_byte s there l (past_stops blank s c.at l) e in
      record {
        ahead = rw n (record { is = byte_token there (get_or s there 0) e b; stands = refl; long = refl; behind = refl; short = inr (omega arith) });
        from = there_from;
        onward = refl;
        within = λ g. omega arith;
        some_byte = inr (omega arith);
        nodes = refl;
        uses = refl;
      }

  abbrev ended : ℕ
  ended = past word_byte s there

  -- a part of some bytes begins where it stands
  part_first : (n : ℕ) → 0 < n → get_or (part s there n) 0 0 ≡ get_or s there 0
  part_first n l = part_at s there n 0 l ∙ ap (λ i. get_or s i 0) (omega arith)

  takes_word :
      (y : declared.Symbol) → number y ≡ word_number (part s there (ended - there)) → there < length s → letter (get_or s there 0) ≡ true
      → Takes s c (record { symbol = y; at = there; len = ended - there; next = moved ended })
  takes_word y k l e =
      let further = word_further s there l e in
      let within = past_within word_byte s there there_within in
      let n = behind_past s c.at ∙ behind_word s there l e in
      let size : length (part s there (ended - there)) ≡ ended - there = part_length s there (ended - there) (omega arith) in
      let head : get_or (part s there (ended - there)) 0 0 ≡ get_or s there 0 = part_first (ended - there) (omega arith) in
      record {
        ahead =
            rw n (record {
              is = k ∙ word_token (record { at = there; spelled = part s there (ended - there) }) (rw head e);
              stands = refl;
              long = sym size;
              behind = refl;
              short = rw k (word_short (part s there (ended - there)) (ended - there) size);
            });
        from = there_from;
        onward = omega arith;
        within = λ g. within;
        some_byte = inr (omega arith);
        nodes = refl;
        uses = refl;
      }

  -- the same of what the cursor's methods hand back
  module _ (d : Cursor) (e : d ≡ moved there) where
    pub take_end : length s ≤ d.at → Takes s c (record { symbol = symbols.Nothing; at = d.at; len = 0; next = d })
    take_end l = rw e (takes_end (rw e at l))

    pub take_byte :
        (r : Cursor) → r ≡ record { at = d.at + 1; nodes = d.nodes; uses = d.uses } → d.at < length s → letter (get_or s d.at 0) ≡ false
        → get_or s d.at 0 < reserved_kind → Takes s c (record { symbol = symbols.Byte (get_or s d.at 0); at = d.at; len = 1; next = r })
    take_byte r q l n b = rw (q, e) (takes_byte (rw e at l) (rw e at n) (rw e at b))

    pub take_word :
        (r : Cursor) (i : ℕ) (y : declared.Symbol) (w : List ℕ) → i ≡ past word_byte s d.at → number y ≡ word_number w → w ≡ part s d.at (i - d.at)
        → r ≡ record { at = i; nodes = d.nodes; uses = d.uses } → d.at < length s → letter (get_or s d.at 0) ≡ true
        → Takes s c (record { symbol = y; at = d.at; len = i - d.at; next = r })
    take_word r i y w x k z q l n = rw (q, x, e) (takes_word y (rw (z, x, e) at k) (rw e at l) (rw e at n))

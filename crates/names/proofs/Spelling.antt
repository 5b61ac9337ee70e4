-- The names that a text uses or defines are words of it: each is spelled with the bytes from its place on, as far as word bytes go.
-- Assumes nothing.
use mathlib.Core.Bool.{Bool, true, false, false≢true}
use mathlib.Core.List.{List, [], ◌∷◌, ◌++◌, append_assoc, nil≢cons, head-eq_of_cons-eq, tail-eq_of_cons-eq}
use mathlib.Core.Path.{◌≡◌, refl, sym, ◌∙◌}
use Prim.Native.Nat.{ℕ, zero, suc, ◌+◌, ◌-◌, ◌<◌, ◌≤◌}
use native.Mathlib.Decide.{dec_lt}
use native.Mathlib.Omega.{arith}
use lib.ListN.{length, get_or}
use Rattle.rules.specs.Basics.{part}
use Rattle.rules.specs.Words.{blank, letter, word_byte, reserved, reserved_position}
use Rattle.rules.specs.Tokens.{Token, Symbol, word, reserved_word, one_byte, symbol, symbols, tokens}
use Rattle.rules.specs.Notation.{Text, write_text, Writes}
use Rattle.rules.specs.Refusals.{used_names, defined_names}
use Rattle.rules.proofs.Links.{Each}
use Rattle.rules.proofs.NamesInOrder.{InOrder, no_more, taken, passed, uses_in_order, defined_in_order, symbol_word}
use Rattle.rules.proofs.TokenLists.{token_spelling}
use Rattle.rules.proofs.TokensBehind.{past, past_from, past_stops, tokens_behind, behind_past, behind_none, behind_byte, behind_word, word_further}

-- Each word among the tokens of a text goes as far as word bytes do.
module _ (s : List ℕ) where
  abbrev Whole : Token → Type 0
  Whole t = letter (get_or t.spelled 0 0) ≡ true → t.spelled ≡ part s t.at (past word_byte s t.at - t.at)

  abbrev AllWhole : List Token → Type 0
  AllWhole ts = (a b : List Token) (t : Token) → ts ≡ a ++ (t ∷ b) → Whole t

  none_whole : AllWhole []
  none_whole [] b t e = absurd (nil≢cons e)
  none_whole (d ∷ a) b t e = absurd (nil≢cons e)

  more_whole : (t : Token) (ts : List Token) → Whole t → AllWhole ts → AllWhole (t ∷ ts)
  more_whole t ts h f [] b u e = rw (← head-eq_of_cons-eq e) h
  more_whole t ts h f (v ∷ a) b u e = f a b u (tail-eq_of_cons-eq e)

  -- a token that begins at j, and those behind it
  from_whole : (j : ℕ) → j < length s → blank (get_or s j 0) ≡ false → ((i : ℕ) → j < i → AllWhole (tokens_behind s i)) → AllWhole (tokens_behind s j)
  from_whole j h b again = go (letter (get_or s j 0)) refl
    where
      go : (q : Bool) → letter (get_or s j 0) ≡ q → AllWhole (tokens_behind s j)
      go true e = rw (behind_word s j h e) (more_whole _ _ (λ f. refl) (again (past word_byte s j) (word_further s j h e)))
      go false e = rw (behind_byte s j h b e) (more_whole _ _ (λ f. absurd (false≢true (sym e ∙ f))) (again (j + 1) (omega arith)))

  behind_whole : (n i : ℕ) → length s ≤ i + n → AllWhole (tokens_behind s i)
  behind_whole zero i l = rw (behind_none s i (omega arith)) none_whole
  behind_whole (suc n) i l = rw (behind_past s i) (go (dec_lt (past blank s i) (length s)) (λ k m. behind_whole n k (omega (arith, past_from blank s i))))
    where
      go :
          Dec (past blank s i < length s) → ((k : ℕ) → past blank s i < k → AllWhole (tokens_behind s k))
          → AllWhole (tokens_behind s (past blank s i))
      go (yes h) again = from_whole (past blank s i) h (past_stops blank s i h) again
      go (no h) again = rw (behind_none s (past blank s i) (omega arith)) none_whole

  text_whole : AllWhole (tokens s)
  unfolding tokens tokens_behind
  text_whole = behind_whole (length s) 0 (omega arith)

-- what is known of a token that is a word: how it is spelled, told by where it ends and by how long it is; and that it is in the text
pub record IsWord (s : List ℕ) (t : Token) : Type 0 where
  pub whole : t.spelled ≡ part s t.at (past word_byte s t.at - t.at)
  pub is_part : t.spelled ≡ part s t.at (length t.spelled)
  pub inside : t.at < length s

word_letter : (t w : Token) → symbol t ≡ word w → letter (get_or t.spelled 0 0) ≡ true
unfolding symbol
word_letter t w e = go (letter (get_or t.spelled 0 0)) (reserved t.spelled) refl e
  where
    go :
        (b c : Bool) → letter (get_or t.spelled 0 0) ≡ b
        → elim b as (λ b. Symbol) [
          | false ↦ one_byte (get_or t.spelled 0 0)
          | true ↦ elim c as (λ c. Symbol) [ true ↦ reserved_word (reserved_position t.spelled) | false ↦ word t ]
        ] ≡ word w
        → letter (get_or t.spelled 0 0) ≡ true
    go true c f e = f
    go false c f e = let z : ◌≡◌ {A = ℕ} 0 1 = cc in absurd (omega arith)

-- that each word among some symbols is as P says
module _ (P : Token → Type 0) where
  abbrev Says : Symbol → Type 0
  Says (word w) = P w
  Says (reserved_word i) = Unit {0}
  Says (one_byte b) = Unit {0}

  abbrev AllSay : List Symbol → Type 0
  AllSay [] = Unit {0}
  AllSay (a ∷ k) = Says a × AllSay k

  -- then tokens that stand among them are
  order_says : {ts : List Token} {k : List Symbol} → InOrder ts k → AllSay k → Each P ts
  order_says no_more h = tt
  order_says (taken o) h = (h.0, order_says o h.1)
  order_says (passed o) h = order_says o h.1

-- the words of a text's symbols are its words
module _ (s : List ℕ) where
  token_says : (done rest : List Token) (t : Token) → tokens s ≡ done ++ (t ∷ rest) → (a : Symbol) → symbol t ≡ a → Says (IsWord s) a
  token_says done rest t e (reserved_word i) p = tt
  token_says done rest t e (one_byte b) p = tt
  token_says done rest t e (word w) p =
      let (q, m, l) = token_spelling s done rest t e in
      rw (← symbol_word t w p)
      (record { whole = text_whole s done rest t e (word_letter t w p); is_part = q; inside = omega arith })

  tokens_say : (done rest : List Token) → tokens s ≡ done ++ rest → AllSay (IsWord s) (symbols rest)
  tokens_say done [] e = tt
  tokens_say done (t ∷ rest) e = (
    token_says done rest t e (symbol t) refl,
    tokens_say (done ++ (t ∷ [])) rest (e ∙ sym (append_assoc done (t ∷ []) rest)),
  )

module _ {s : List ℕ} {x : Text} (w : Writes s x) where
  text_says : AllSay (IsWord s) (write_text x)
  text_says = rw w.written (tokens_say s [] (tokens s) refl)

  pub used_words : Each (IsWord s) (used_names x)
  used_words = order_says (IsWord s) (uses_in_order x) text_says

  pub defined_words : Each (IsWord s) (defined_names x)
  defined_words = order_says (IsWord s) (defined_in_order x) text_says

-- Document 01, "The notation": the tokens of a text, each with its place.
-- Assumes nothing.
use Rattle.std.specs.Prelude.{true, false, List, [], ◌∷◌, ℕ, zero, suc, length, get_or}
use Rattle.rules.specs.Words.{blank, letter, word_byte, reserved_position, reserved}

-- a token: the place of its first byte, and its bytes
pub record Token : Type 0 where
  pub at : ℕ
  pub spelled : List ℕ

-- the word bytes at the front
unfoldable pub word_front : List ℕ → List ℕ
word_front [] = []
word_front (b ∷ s) = elim (word_byte b) [ true ↦ b ∷ word_front s | false ↦ [] ]

-- The tokens of bytes of which the first stands at `at`; the first k of them belong to the word before.
-- Blank bytes part tokens; a letter begins a word, which goes as far as word bytes do; "every other token is one byte".
unfoldable pub tokens_from : ℕ → ℕ → List ℕ → List Token
tokens_from at k [] = []
tokens_from at (suc k) (b ∷ s) = tokens_from (suc at) k s
tokens_from at zero (b ∷ s) =
    elim (blank b) [
      | true ↦ tokens_from (suc at) zero s
      | false ↦
          elim (letter b) [
            | true ↦ record { at = at; spelled = b ∷ word_front s } ∷ tokens_from (suc at) (length (word_front s)) s
            | false ↦ record { at = at; spelled = b ∷ [] } ∷ tokens_from (suc at) zero s
          ]
    ]

-- the tokens of a text
unfoldable pub tokens : List ℕ → List Token
tokens s = tokens_from zero zero s

-- what a token is to the grammar: a word that is not reserved, with its place; a reserved word, by its position in the list; or one byte
pub data Symbol : Type 0 where
  word : Token → Symbol
  reserved_word : ℕ → Symbol
  one_byte : ℕ → Symbol

unfoldable pub symbol : Token → Symbol
symbol t =
    elim (letter (get_or t.spelled 0 0)) [
      | false ↦ one_byte (get_or t.spelled 0 0)
      | true ↦
          elim (reserved t.spelled) [
            | true ↦ reserved_word (reserved_position t.spelled)
            | false ↦ word t
          ]
    ]

abbrev pub symbols : List Token → List Symbol
symbols [] = []
symbols (t ∷ ts) = symbol t ∷ symbols ts

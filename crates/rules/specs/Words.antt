-- Document 01, "The notation": blank bytes, words, and the reserved words.
-- Assumes nothing.
use Rattle.std.specs.Prelude.{Bool, true, false, not, ◌&&◌, ◌||◌, List, [], ◌∷◌, ℕ, eqb, leb, ltb, length, get_or}
use Rattle.rules.specs.Basics.{bytes, same, first}

-- "Blank bytes are space, tab, LF and CR."
unfoldable pub blank : ℕ → Bool
blank b = eqb b 32 || eqb b 9 || eqb b 10 || eqb b 13

-- ASCII: A to Z and a to z
unfoldable pub letter : ℕ → Bool
letter b = leb 65 b && leb b 90 || leb 97 b && leb b 122

-- "letters, digits or underscores (ASCII)"
unfoldable pub word_byte : ℕ → Bool
word_byte b = letter b || leb 48 b && leb b 57 || eqb b 95

unfoldable pub word_bytes : List ℕ → Bool
word_bytes [] = true
word_bytes (b ∷ s) = word_byte b && word_bytes s

-- "1 to 16 bytes"
abbrev pub word_most : ℕ
word_most = 16

-- "A word is a letter, then letters, digits or underscores (ASCII), 1 to 16 bytes, case counted."
unfoldable pub is_word : List ℕ → Bool
is_word [] = false
is_word (b ∷ s) = letter b && word_bytes s && leb (length (b ∷ s)) word_most

-- "`end`, `string`, `float`, `boolean` and `void` are reserved"
abbrev pub reserved_words : List (List ℕ)
reserved_words = bytes "end" ∷ bytes "string" ∷ bytes "float" ∷ bytes "boolean" ∷ bytes "void" ∷ []

-- which of them w is; their count where it is none
unfoldable pub reserved_position : List ℕ → ℕ
reserved_position w = first (length reserved_words) (λ i. same w (get_or reserved_words i []))

unfoldable pub reserved : List ℕ → Bool
reserved w = ltb (reserved_position w) (length reserved_words)

-- "never a label or a definition's name": what may be one
unfoldable pub may_name : List ℕ → Bool
may_name w = is_word w && not (reserved w)

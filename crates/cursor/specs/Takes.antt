-- What taking a token from a text answers, told by the tokens of ../../rules.
-- Assumes nothing.
use Rattle.std.specs.Prelude.{Bool, true, false, List, [], ◌∷◌, ◌⊎◌, ◌≡◌, ℕ, ◌+◌, ◌<◌, ◌≤◌, ltb, length}
use Rattle.rules.specs.Words.{word_most, reserved_words, reserved_position}
use Rattle.rules.specs.Tokens.{Token, Symbol, word, reserved_word, one_byte, symbol}
use Rattle.rules.specs.computed.Reading.{place}
use Rattle.rules.proofs.TokensBehind.{tokens_behind}
use Rattle.cursor.specs.declared.Cursor.{Cursor}
use Rattle.cursor.specs.declared.Symbol as declared
use Rattle.cursor.specs.declared.Symbol.TheVariants as symbols
use Rattle.cursor.specs.declared.Taken.{Taken}
use Rattle.table.specs.declared.Sort.{Sort}
use Rattle.table.specs.declared.Sort.TheVariants.{String, Float, Boolean, Void}

-- whatever a test answers of a byte is p of it
abbrev pub Tells : (ℕ → Bool → Type 0) → (ℕ → Bool) → Type 0
Tells answers p = (b : ℕ) (r : Bool) → b < 256 → answers b r → r ≡ p b

-- A symbol as a number: a byte is itself, a reserved word is 256 and its position, any other word is 261; 262 is the end of the text.
-- (What is no byte, or no position in the list, is 263. A text has neither.)
abbrev pub reserved_kind : ℕ
reserved_kind = 256

abbrev pub word_kind : ℕ
word_kind = 261

abbrev pub end_kind : ℕ
end_kind = 262

unfoldable pub kind : Symbol → ℕ
kind (word t) = word_kind
kind (reserved_word i) = elim (ltb i (length reserved_words)) [ true ↦ reserved_kind + i | false ↦ 263 ]
kind (one_byte b) = elim (ltb b reserved_kind) [ true ↦ b | false ↦ 263 ]

-- the number of a word
unfoldable pub word_number : List ℕ → ℕ
word_number w = elim (ltb (reserved_position w) (length reserved_words)) [ true ↦ reserved_kind + reserved_position w | false ↦ word_kind ]

-- the same numbers of what a token is to the code: a sort's word has its place in the list
abbrev pub sort_place : Sort → ℕ
sort_place String = 1
sort_place Float = 2
sort_place Boolean = 3
sort_place Void = 4

abbrev pub number : declared.Symbol → ℕ
number (symbols.Byte b) = b
number symbols.End = reserved_kind
number (symbols.Sort x) = reserved_kind + sort_place x
number symbols.Word = word_kind
number symbols.Nothing = end_kind

-- the number of a token
abbrev pub kind_of : Taken → ℕ
kind_of t = number t.symbol

abbrev pub first_kind : List Token → ℕ
first_kind [] = end_kind
first_kind (t ∷ ts) = kind (symbol t)

abbrev pub first_length : List Token → ℕ
first_length [] = 0
first_length (t ∷ ts) = length t.spelled

abbrev pub behind_first : List Token → List Token
behind_first [] = []
behind_first (t ∷ ts) = ts

-- t is the first of the tokens ts of the text s, or the end where there is none
pub record Ahead (s : List ℕ) (t : Taken) (ts : List Token) : Type 0 where
  pub is : kind_of t ≡ first_kind ts
  pub stands : t.at ≡ place (length s) ts
  pub long : t.len ≡ first_length ts
  pub behind : behind_first ts ≡ tokens_behind s t.next.at
  -- none but a word that is not reserved is long
  pub short : (kind_of t ≡ word_kind) ⊎ (t.len ≤ word_most)

-- t is what the cursor c takes
pub record Takes (s : List ℕ) (c : Cursor) (t : Taken) : Type 0 where
  pub ahead : Ahead s t (tokens_behind s c.at)
  pub from : c.at ≤ t.at
  pub onward : t.next.at ≡ t.at + t.len
  pub within : c.at ≤ length s → t.next.at ≤ length s
  -- a token has a byte
  pub some_byte : (kind_of t ≡ end_kind) ⊎ (0 < t.len)
  pub nodes : t.next.nodes ≡ c.nodes
  pub uses : t.next.uses ≡ c.uses

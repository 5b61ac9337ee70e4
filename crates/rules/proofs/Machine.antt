-- A machine that takes a text's symbols one by one, with a stack of what is still to come: the tokens that a text of the notation could have
-- next are those that it takes (Viable, beside this file).
-- Assumes nothing.
use mathlib.Core.Bool.{true, false}
use mathlib.Core.List.{List, [], ◌∷◌}
use Prim.Native.Char.{code}
use Prim.Native.Nat.{ℕ}
use lib.Dec.{eqb}
use Rattle.rules.specs.Tokens.{Symbol, word, reserved_word, one_byte}
use Rattle.rules.specs.Notation.{Way, into, out, end_position, sort_position}
use Rattle.table.specs.declared.Sort.TheVariants.{String, Float, Boolean, Void}

-- what may be expected next
pub data Expect : Type 0 where
  -- this byte
  this : ℕ → Expect
  a_type : Expect
  -- behind an opening bracket, behind a comma, behind an item
  some_items an_item more_items : Way → Expect
  -- behind `{` or `|`, and behind a label's type
  a_label more_labels : Expect
  -- the first definition
  a_definition : Expect

-- where nothing is expected, a further definition may come
abbrev pub Stack : Type 0
Stack = List Expect

pub data Next : Type 0 where
  on : Stack → Next
  stuck : Next

-- a reserved word's position or a byte, and what is expected behind it
pub data Row : Type 0 where
  ◌⇒◌ : ℕ → Stack → Row

infix 50 ◌⇒◌
unfoldable pub look : List Row → ℕ → Next
look [] b = stuck
look ((c ⇒ K) ∷ rs) b = elim (eqb b c) [ true ↦ on K | false ↦ look rs b ]

abbrev pub open_byte : Way → ℕ
open_byte into = code "("
open_byte out = code "["

abbrev pub close_byte : Way → ℕ
close_byte into = code ")"
close_byte out = code "]"

-- what follows a message's sign, a choice's, and a definition's name
abbrev pub in_message : Way → Stack → Stack
in_message d K = this (open_byte d) ∷ some_items d ∷ this (code ";") ∷ a_type ∷ K

abbrev pub in_choice : Stack → Stack
in_choice K = this (code "{") ∷ a_label ∷ K

abbrev pub in_definition : Stack → Stack
in_definition K = this (code "=") ∷ a_type ∷ this (code ".") ∷ K

-- the bytes at which a type begins, then further rows
abbrev pub type_rows : Stack → List Row → List Row
type_rows K rs = (code "?" ⇒ in_message into K) ∷ (code "!" ⇒ in_message out K) ∷ (code "&" ⇒ in_choice K) ∷ (code "+" ⇒ in_choice K) ∷ rs

-- what each byte leads to
abbrev pub byte_rows : Expect → Stack → List Row
byte_rows (this b) K = (b ⇒ K) ∷ []
byte_rows a_type K = type_rows K []
byte_rows (some_items d) K = type_rows (more_items d ∷ K) ((close_byte d ⇒ K) ∷ [])
byte_rows (an_item d) K = type_rows (more_items d ∷ K) []
byte_rows (more_items d) K = (code "," ⇒ an_item d ∷ K) ∷ (close_byte d ⇒ K) ∷ []
byte_rows a_label K = []
byte_rows more_labels K = (code "|" ⇒ a_label ∷ K) ∷ (code "}" ⇒ K) ∷ []
byte_rows a_definition K = []

-- the reserved words that an item may be: `end`, and the sorts
abbrev pub item_rows : Stack → List Row
item_rows K =
    (end_position ⇒ K) ∷ (sort_position String ⇒ K) ∷ (sort_position Float ⇒ K) ∷ (sort_position Boolean ⇒ K) ∷ (sort_position Void ⇒ K)
    ∷ []

-- what each reserved word leads to
abbrev pub reserved_rows : Expect → Stack → List Row
reserved_rows (this b) K = []
reserved_rows a_type K = (end_position ⇒ K) ∷ []
reserved_rows (some_items d) K = item_rows (more_items d ∷ K)
reserved_rows (an_item d) K = item_rows (more_items d ∷ K)
reserved_rows (more_items d) K = []
reserved_rows a_label K = []
reserved_rows more_labels K = []
reserved_rows a_definition K = []

-- what any other word leads to
abbrev pub on_word : Expect → Stack → Next
on_word (this b) K = stuck
on_word a_type K = on K
on_word (some_items d) K = on (more_items d ∷ K)
on_word (an_item d) K = on (more_items d ∷ K)
on_word (more_items d) K = stuck
on_word a_label K = on (this (code ":") ∷ a_type ∷ more_labels ∷ K)
on_word more_labels K = stuck
on_word a_definition K = on (in_definition K)

unfoldable pub step : Stack → Symbol → Next
step [] (word w) = on (in_definition [])
step [] (reserved_word i) = stuck
step [] (one_byte b) = stuck
step (e ∷ K) (word w) = on_word e K
step (e ∷ K) (reserved_word i) = look (reserved_rows e K) i
step (e ∷ K) (one_byte b) = look (byte_rows e K) b

abbrev pub and_then : Next → (Stack → Next) → Next
and_then (on K) f = f K
and_then stuck f = stuck

unfoldable pub run : Stack → List Symbol → Next
run K [] = on K
run K (t ∷ ts) = and_then (step K t) (λ J. run J ts)

abbrev pub start : Stack
start = a_definition ∷ []

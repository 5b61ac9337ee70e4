-- Document 01, "The notation": what a text is. A text is written from a tree of definitions, types, items and labels; the
-- functions below say how. Each is given what is written behind.
-- Assumes nothing.
use Rattle.std.specs.Prelude.{◌≡◌, List, [], ◌∷◌, ℕ}
use Prim.Native.Char.{Char, code}
use Rattle.rules.specs.Tokens.{Token, Symbol, word, reserved_word, one_byte, symbols, tokens}
use Rattle.table.specs.declared.Sort.{Sort}
use Rattle.table.specs.declared.Sort.TheVariants.{String, Float, Boolean, Void}

-- which way a message or a choice goes: `?` and `&` come in from the card, `!` and `+` go out from the host
pub data Way : Type 0 where
  into out : Way

-- "A type is one of: `end`; a defined name; a message ..; a choice .."
mutual
  pub data Ty : Type 0 where
    ended : Ty
    name : Token → Ty
    message : Way → Items → Ty → Ty
    choice : Way → Labels → Ty

  -- "Items are zero or more .. An item is a sort .. or a type, and one list may mix both."
  pub data Items : Type 0 where
    no_items : Items
    sort : Sort → Items → Items
    session : Ty → Items → Items

  -- "one or more of label `:` type"
  pub data Labels : Type 0 where
    last_label : Token → Ty → Labels
    label : Token → Ty → Labels → Labels

-- "A text is one or more definitions: a name, `=`, a type, `.`."
pub data Text : Type 0 where
  last_definition : Token → Ty → Text
  definition : Token → Ty → Text → Text

-- a one-byte token
abbrev pub sign : Char → Symbol
sign c = one_byte (code c)

-- the reserved words, by their positions in the list
abbrev pub end_position : ℕ
end_position = 0

abbrev pub sort_position : Sort → ℕ
sort_position String = 1
sort_position Float = 2
sort_position Boolean = 3
sort_position Void = 4

-- "a message: `?`, `(`, items, `)`, `;`, type; or `!`, `[`, items, `]`, `;`, type"
abbrev pub message_sign : Way → Symbol
message_sign into = sign "?"
message_sign out = sign "!"

abbrev pub opening : Way → Symbol
opening into = sign "("
opening out = sign "["

abbrev pub closing : Way → Symbol
closing into = sign ")"
closing out = sign "]"

-- "a choice: `&` or `+`, then `{`, one or more of label `:` type parted by `|`, then `}`"
abbrev pub choice_sign : Way → Symbol
choice_sign into = sign "&"
choice_sign out = sign "+"

-- "parted by commas": what is behind an item, with a comma before it where that is an item too
abbrev pub parted : Items → List Symbol → List Symbol
parted no_items k = k
parted (sort s xs) k = sign "," ∷ k
parted (session x xs) k = sign "," ∷ k

abbrev mutual
  pub write_type : Ty → List Symbol → List Symbol
  write_type ended k = reserved_word end_position ∷ k
  write_type (name w) k = word w ∷ k
  write_type (message d xs x) k = message_sign d ∷ opening d ∷ write_items d xs (sign ";" ∷ write_type x k)
  write_type (choice d ls) k = choice_sign d ∷ sign "{" ∷ write_labels ls k

  -- the items of a list, and what closes it
  pub write_items : Way → Items → List Symbol → List Symbol
  write_items d no_items k = closing d ∷ k
  write_items d (sort s xs) k = reserved_word (sort_position s) ∷ parted xs (write_items d xs k)
  write_items d (session x xs) k = write_type x (parted xs (write_items d xs k))

  pub write_labels : Labels → List Symbol → List Symbol
  write_labels (last_label w x) k = word w ∷ sign ":" ∷ write_type x (sign "}" ∷ k)
  write_labels (label w x ls) k = word w ∷ sign ":" ∷ write_type x (sign "|" ∷ write_labels ls k)

abbrev pub write_text : Text → List Symbol
write_text (last_definition w x) = word w ∷ sign "=" ∷ write_type x (sign "." ∷ [])
write_text (definition w x ds) = word w ∷ sign "=" ∷ write_type x (sign "." ∷ write_text ds)

-- the bytes s are the text x, written
pub record Writes (s : List ℕ) (x : Text) : Type 0 where
  pub written : write_text x ≡ symbols (tokens s)

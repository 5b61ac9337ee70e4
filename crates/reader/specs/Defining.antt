-- What the readers of a definition's name, of a definition and of all definitions answer.
-- Assumes nothing.
use Rattle.std.specs.Prelude.{Bool, true, false, List, [], ◌∷◌, ◌≡◌, ℕ, ◌+◌, ◌*◌, ◌<◌, ◌≤◌, length, Ok, Err}
use Rattle.rules.specs.Basics.{part, same}
use Rattle.rules.specs.Words.{word_most}
use Rattle.rules.specs.Tokens.{Token, word, symbols}
use Rattle.rules.specs.Notation.{Ty, Text, sign, write_type}
use Rattle.rules.specs.Numbers.{definitions_most}
use Rattle.rules.specs.Numbering.{behind}
use Rattle.rules.specs.Refusals.{number, a_definition}
use Rattle.rules.specs.Replies.{refusal}
use Rattle.rules.proofs.Machine.{Stack, start}
use Rattle.rules.proofs.Reached.{Reached, Refuses}
use Rattle.rules.proofs.OneToken.{counted}
use Rattle.rules.proofs.TokensBehind.{tokens_behind}
use Rattle.cursor.specs.Takes.{Ahead, word_kind, kind_of}
use Rattle.cursor.specs.declared.Cursor.{Cursor}
use Rattle.cursor.specs.declared.Taken.{Taken}
use Rattle.flat.specs.Flat.{room, row, used, raw_row, Holds, Stored, Kept, word_of, words_of, stored_row, Parsed}
use Rattle.table.specs.declared.answers.Refusal.{Refusal}
use Rattle.table.specs.declared.answers.RefusalKind.TheVariants as kind
use Rattle.type_reader.specs.Leaves.{Got, Moved, got}
use Rattle.type_reader.specs.Answers.{Ready}

-- the area of the definitions' rows
abbrev pub rows_room : ℕ
rows_room = definitions_most * row

-- whether definition j has the name t
abbrev pub name_at : List ℕ → List ℕ → ℕ → Taken → Bool
name_at s d j t = same (word_of s d 0 j) (part s t.at t.len)

-- the name t of a definition, behind n others whose rows stand in d
pub data Named (s d : List ℕ) (t : Taken) (n : ℕ) : Moved → Type 0 where
  no_name : (kind_of t ≡ word_kind → ⊥) → Named s d t n (Err (refusal kind.Unexpected t.at))
  long_name : kind_of t ≡ word_kind → word_most < t.len → Named s d t n (Err (refusal kind.WordTooLong t.at))
  name_too_many : kind_of t ≡ word_kind → t.len ≤ word_most → definitions_most ≤ n → Named s d t n (Err (refusal kind.OneTooMany t.at))
  name_twice :
      kind_of t ≡ word_kind → t.len ≤ word_most → n < definitions_most → (j : ℕ) → j < n → name_at s d j t ≡ true
      → Named s d t n (Err (refusal kind.NameTwice t.at))
  new_name :
      kind_of t ≡ word_kind → t.len ≤ word_most → n < definitions_most → ((j : ℕ) → j < n → name_at s d j t ≡ false)
      → Named s d t n (Ok t.next)

abbrev pub stored_definition : List ℕ → ℕ → Taken → ℕ → List ℕ
stored_definition d n t link = stored_row d (n * row) t.at t.len link

-- where an answer leads: on, within the text and the areas
pub data Sound (s a b d : List ℕ) (from : ℕ) : Moved → Type 0 where
  refused : {no : Refusal} → Sound s a b d from (Err no)
  past : {c : Cursor} → from < c.at → Ready s a b c → length d ≡ rows_room → Sound s a b d from (Ok c)

-- the first definition of a text, or a further one where there is a token
pub data Starts : Stack → List Token → Type 0 where
  at_first : {ts : List Token} → Starts start ts
  further : {t : Token} {ts : List Token} → Starts [] (t ∷ ts)

-- Areas before and after: nodes in a and then a', uses in b and then b', the definitions' rows in d and then d'.
module _ (s a b d a' b' d' : List ℕ) where
  -- the definition of the name w with the type x was read at t, behind n others
  pub record PastDefinition (t : Taken) (ts : List Token) (n : ℕ) (w : Token) (x : Ty) (c : Cursor) : Type 0 where
    pub few : n < definitions_most
    pub written : symbols ts ≡ word w ∷ sign "=" ∷ write_type x (sign "." ∷ symbols (tokens_behind s c.at))
    pub reached : Reached s (tokens_behind s c.at) [] (counted a_definition c.nodes (words_of s d' 0 (n + 1)) [])
    pub nodes : c.nodes ≡ behind x t.next.nodes
    pub uses : c.uses ≡ used x t.next.uses
    pub stored : Stored a' b' x t.next.nodes t.next.uses
    pub holds : Holds d' (n * row) (raw_row w x t.next.nodes t.next.uses [])
    pub kept : Kept a a' (t.next.nodes * room)
    pub kept_uses : Kept b b' t.next.uses
    pub kept_rows : Kept d d' (n * row)

  pub data DefinitionGot (t : Taken) (ts : List Token) (n : ℕ) : Moved → Type 0 where
    refused : {no : Refusal} → Refuses s (number no.kind) no.place → DefinitionGot t ts n (Err no)
    past : {c : Cursor} (w : Token) (x : Ty) → PastDefinition t ts n w x c → DefinitionGot t ts n (Ok c)

  pub record DefinitionRead (t : Taken) (n : ℕ) (r : Moved) : Type 0 where
    pub told :
        (ts : List Token) (J : Stack) → Ahead s t ts → Starts J ts → Reached s ts J (counted a_definition t.next.nodes (words_of s d 0 n) [])
        → DefinitionGot t ts n r

-- all definitions of a text were read, or it is refused with 2 to 7
pub data TextGot (s a b d : List ℕ) : Got → Type 0 where
  refused : {no : Refusal} → Refuses s (number no.kind) no.place → TextGot s a b d (Err no)
  past : {v : ℕ} {c : Cursor} (x : Text) → Parsed s a b d v c.nodes c.uses x → TextGot s a b d (got v c)

-- Document 01, "Refusal list": the refusals of a text, each a clause of its own, and which goes first.
-- Assumes nothing.
use Rattle.std.specs.Prelude.{Bool, true, false, ◌||◌, List, [], ◌∷◌, ◌++◌, ◌⊎◌, ◌≡◌, ℕ, suc, ◌<◌, ◌≤◌, eqb, leb, length, get_or}
use Rattle.std.proofs.Math.Option.{none}
use Rattle.rules.specs.Basics.{bytes, same, some_below}
use Rattle.rules.specs.Words.{word_most}
use Rattle.rules.specs.Tokens.{Token, Symbol, word, reserved_word, one_byte, symbol, tokens}
use Rattle.rules.specs.Notation.{Ty, ended, name, message, choice, Items, no_items, sort, session, Labels, last_label, label, Text, last_definition, definition, end_position, Writes}
use Rattle.rules.specs.Numbers.{text_most, definitions_most, text_nodes_most, labels_most, items_most, brackets_most}
use Rattle.table.specs.declared.answers.RefusalKind.{RefusalKind}
use Rattle.table.specs.declared.answers.RefusalKind.TheVariants as kind
use Rattle.rules.specs.Numbering.{to_name, to_nothing, definition_leads, follow}

-- the column "No."
abbrev pub text_too_long : ℕ
text_too_long = 1

abbrev pub unexpected : ℕ
unexpected = 2

abbrev pub word_too_long : ℕ
word_too_long = 3

abbrev pub bracket_too_many : ℕ
bracket_too_many = 4

abbrev pub one_too_many : ℕ
one_too_many = 5

abbrev pub label_twice : ℕ
label_twice = 6

abbrev pub name_twice : ℕ
name_twice = 7

abbrev pub never_defined : ℕ
never_defined = 8

abbrev pub leads_round : ℕ
leads_round = 9

abbrev pub not_well_formed : ℕ
not_well_formed = 10

abbrev pub area_too_short : ℕ
area_too_short = 11

abbrev pub dual_too_large : ℕ
dual_too_large = 13

abbrev pub number : RefusalKind → ℕ
number kind.TextTooLong = text_too_long
number kind.Unexpected = unexpected
number kind.WordTooLong = word_too_long
number kind.BracketTooMany = bracket_too_many
number kind.OneTooMany = one_too_many
number kind.LabelTwice = label_twice
number kind.NameTwice = name_twice
number kind.NeverDefined = never_defined
number kind.LeadsRound = leads_round
number kind.NotWellFormed = not_well_formed
number kind.AreaTooShort = area_too_short
number kind.DualTooLarge = dual_too_large

-- 2. "no text of the notation could have there (all other refusals left aside)": some text has these tokens first, at these places
pub record Could (ts : List Token) : Type 0 where
  pub text : List ℕ
  pub tree : Text
  pub writes : Writes text tree
  pub more : List Token
  pub begins : tokens text ≡ ts ++ more

-- t is a token of the text s, and `done` are the tokens before it
pub record Stands (s : List ℕ) (done : List Token) (t : Token) : Type 0 where
  pub rest : List Token
  pub split : tokens s ≡ done ++ (t ∷ rest)

-- 4 to 7. What is counted along a text. What begins at a token follows from the token before it: a definition behind `.` or at the
-- beginning, a label behind `{` or `|`, an item behind `(`, `[` or `,`.
pub data Begins : Type 0 where
  a_definition a_label an_item nothing_new : Begins

-- whether a symbol is one of these bytes
unfoldable pub one_of : List ℕ → Symbol → Bool
one_of bs (word t) = false
one_of bs (reserved_word i) = false
one_of bs (one_byte b) = some_below (length bs) (λ i. eqb b (get_or bs i 0))

abbrev pub is_end : Symbol → Bool
is_end (word t) = false
is_end (reserved_word i) = eqb i end_position
is_end (one_byte b) = false

-- "brackets `(`, `[`, `{`"; "A `;` opens nothing."
abbrev pub opens : Token → Bool
opens t = one_of (bytes "([{") (symbol t)

abbrev pub closes : Token → Bool
closes t = one_of (bytes ")]}") (symbol t)

-- "Each written `end`, message and choice is a node"
abbrev pub begins_node : Token → Bool
begins_node t = is_end (symbol t) || one_of (bytes "?!&+") (symbol t)

unfoldable pub begins_behind : Token → Begins
begins_behind t =
    elim (one_of (bytes ".") (symbol t)) [
      | true ↦ a_definition
      | false ↦
          elim (one_of (bytes "{|") (symbol t)) [
            | true ↦ a_label
            | false ↦ elim (one_of (bytes "([,") (symbol t)) [ true ↦ an_item | false ↦ nothing_new ]
          ]
    ]

-- what has been counted: what begins at the next token, the nodes, the definitions' names, and for each open bracket, the innermost
-- first, how each of its items or labels so far begins
pub record Seen : Type 0 where
  pub next : Begins
  pub nodes : ℕ
  pub names : List (List ℕ)
  pub brackets : List (List (List ℕ))

abbrev pub unseen : Seen
unseen = record { next = a_definition; nodes = 0; names = []; brackets = [] }

abbrev pub innermost : List (List (List ℕ)) → List (List ℕ)
innermost [] = []
innermost (es ∷ bs) = es

-- one more item or label in the innermost bracket
abbrev pub entered : List ℕ → List (List (List ℕ)) → List (List (List ℕ))
entered w [] = []
entered w (es ∷ bs) = (w ∷ es) ∷ bs

abbrev pub names_after : Begins → List ℕ → List (List ℕ) → List (List ℕ)
names_after a_definition w ns = w ∷ ns
names_after a_label w ns = ns
names_after an_item w ns = ns
names_after nothing_new w ns = ns

abbrev pub entries_after : Begins → List ℕ → List (List (List ℕ)) → List (List (List ℕ))
entries_after a_definition w bs = bs
entries_after a_label w bs = entered w bs
entries_after an_item w bs = entered w bs
entries_after nothing_new w bs = bs

abbrev pub bracket_closed : List (List (List ℕ)) → List (List (List ℕ))
bracket_closed [] = []
bracket_closed (es ∷ bs) = bs

unfoldable pub brackets_after : Token → List (List (List ℕ)) → List (List (List ℕ))
brackets_after t bs = elim (opens t) [ true ↦ [] ∷ bs | false ↦ elim (closes t) [ true ↦ bracket_closed bs | false ↦ bs ] ]

unfoldable pub nodes_after : Token → ℕ → ℕ
nodes_after t n = elim (begins_node t) [ true ↦ suc n | false ↦ n ]

unfoldable pub seen_after : Seen → Token → Seen
seen_after z t =
    record {
      next = begins_behind t;
      nodes = nodes_after t z.nodes;
      names = names_after z.next t.spelled z.names;
      brackets = brackets_after t (entries_after z.next t.spelled z.brackets);
    }

-- what has been counted behind these tokens
unfoldable pub seen_from : Seen → List Token → Seen
seen_from z [] = z
seen_from z (t ∷ ts) = seen_from (seen_after z t) ts

abbrev pub seen : List Token → Seen
seen done = seen_from unseen done

-- whether w is one of the words ws
unfoldable pub among : List (List ℕ) → List ℕ → Bool
among ws w = some_below (length ws) (λ i. same w (get_or ws i []))

-- Refusal n of the token t, after what is counted before it. (Behind a token that no text could have there the counts mean nothing; there
-- the refusal 2 of that token has the lesser place.)
pub data TokenFault (z : Seen) (t : Token) : ℕ → Type 0 where
  -- "word over 16 bytes"
  long_word : word_most < length t.spelled → TokenFault z t word_too_long
  -- "a 17th open bracket"
  open_bracket : opens t ≡ true → brackets_most ≤ length z.brackets → TokenFault z t bracket_too_many
  -- "one definition, node, label or item too many"
  definition_more : z.next ≡ a_definition → definitions_most ≤ length z.names → TokenFault z t one_too_many
  node_more : begins_node t ≡ true → text_nodes_most ≤ z.nodes → TokenFault z t one_too_many
  label_more : z.next ≡ a_label → labels_most ≤ length (innermost z.brackets) → TokenFault z t one_too_many
  item_more : z.next ≡ an_item → items_most ≤ length (innermost z.brackets) → TokenFault z t one_too_many
  -- "label twice in a choice"
  same_label : z.next ≡ a_label → among (innermost z.brackets) t.spelled ≡ true → TokenFault z t label_twice
  -- "name defined twice"
  same_name : z.next ≡ a_definition → among z.names t.spelled ≡ true → TokenFault z t name_twice

-- 8. the names used in a tree, in written order, and those behind
abbrev mutual
  pub uses : Ty → List Token → List Token
  uses ended k = k
  uses (name w) k = w ∷ k
  uses (message d xs x) k = uses_items xs (uses x k)
  uses (choice d ls) k = uses_labels ls k

  pub uses_items : Items → List Token → List Token
  uses_items no_items k = k
  uses_items (sort s xs) k = uses_items xs k
  uses_items (session x xs) k = uses x (uses_items xs k)

  pub uses_labels : Labels → List Token → List Token
  uses_labels (last_label w x) k = uses x k
  uses_labels (label w x ls) k = uses x (uses_labels ls k)

abbrev pub used_names : Text → List Token
used_names (last_definition w x) = uses x []
used_names (definition w x ds) = uses x (used_names ds)

-- 9. the names of the definitions
abbrev pub defined_names : Text → List Token
defined_names (last_definition w x) = w ∷ []
defined_names (definition w x ds) = w ∷ defined_names ds

-- t is one of the tokens ts
pub record OneOf (t : Token) (ts : List Token) : Type 0 where
  pub before : List Token
  pub after : List Token
  pub split : ts ≡ before ++ (t ∷ after)

-- Refusal n of the text s at place p: the columns "When" and "Place".
pub data Fault (s : List ℕ) : ℕ → ℕ → Type 0 where
  -- "text over 4,096 bytes"
  long_text : text_most < length s → Fault s text_too_long 0
  -- "first token that no text of the notation could have there"
  no_text_has : {done : List Token} {t : Token} → Stands s done t → Could done → (Could (done ++ (t ∷ [])) → ⊥) → Fault s unexpected t.at
  -- "or the end of the text where none may end"
  none_may_end : Could (tokens s) → ((x : Text) → Writes s x → ⊥) → Fault s unexpected (length s)
  -- 3 to 7, at a token's first byte
  at_token : {done : List Token} {t : Token} {n : ℕ} → Stands s done t → TokenFault (seen done) t n → Fault s n t.at
  -- "name used, never defined"
  undefined_name :
      {x : Text} {t : Token} → Writes s x → OneOf t (used_names x) → definition_leads x 0 t.spelled ≡ to_nothing
      → Fault s never_defined t.at
  -- "a definition whose names lead round and never to a node": never, however many names are followed. (Names that lead to an undefined
  -- one do not either; its use is refused with 8, which goes before.)
  round_name :
      {x : Text} {t : Token} → Writes s x → OneOf t (defined_names x) → ((n : ℕ) → follow x n (to_name t.spelled) ≡ none)
      → Fault s leads_round t.at

-- "For a text: 1 first; then 2 to 7, the least place, and at one place the lowest number; then 8; then 9." (8 is at "the first such use",
-- 9 at "the first such": the least place again.)
unfoldable pub group : ℕ → ℕ
group n = elim (leb n text_too_long) [ true ↦ text_too_long | false ↦ elim (leb n name_twice) [ true ↦ name_twice | false ↦ n ] ]

-- refusal n at place p goes before refusal m at place q
abbrev pub GoesFirst : ℕ → ℕ → ℕ → ℕ → Type 0
GoesFirst n p m q = (group n < group m) ⊎ ((group n ≡ group m) × ((p < q) ⊎ ((p ≡ q) × (n < m))))

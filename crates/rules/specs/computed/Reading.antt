-- A reading that computes: the tree by calls, the limits by a walk over the tokens, then the names.
-- Assumes nothing.
use Rattle.std.specs.Prelude.{Bool, true, false, ◌&&◌, ◌||◌, List, [], ◌∷◌, ℕ, zero, suc, ◌-◌, eqb, leb, ltb, length}
use Rattle.std.proofs.Math.Option.{Option, none, some}
use Prim.Native.Char.{code}
use Rattle.rules.specs.Words.{word_most}
use Rattle.rules.specs.Tokens.{Token, Symbol, word, reserved_word, one_byte, symbol, tokens}
use Rattle.rules.specs.Notation.{Way, into, out, Ty, ended, name, message, choice, Items, no_items, sort, session, Labels, last_label, label, Text, last_definition, definition, end_position, sort_position, opening, closing, sign}
use Rattle.rules.specs.Numbers.{text_most, definitions_most, text_nodes_most, labels_most, items_most, brackets_most}
use Rattle.rules.specs.Numbering.{Lead, to_node, to_name, to_nothing, definition_leads, follow, definition_count, table_of}
use Rattle.rules.specs.Refusals.{Begins, a_definition, a_label, an_item, nothing_new, Seen, unseen, seen_after, innermost, opens, begins_node, among, used_names, defined_names}
use Rattle.rules.specs.Replies.{made, refused}
use Rattle.table.specs.declared.Sort.{Sort}
use Rattle.table.specs.declared.Sort.TheVariants.{String, Float, Boolean, Void}
use Rattle.table.specs.declared.answers.RefusalKind.{RefusalKind}
use Rattle.table.specs.declared.answers.RefusalKind.TheVariants as kind
use Rattle.table.specs.declared.answers.Made.{Made}

-- something read, and the tokens behind it; or the tokens from the one on that could not stand there
pub data Got (A : Type 0) : Type 0 where
  got : A → List Token → Got A
  stuck : List Token → Got A

abbrev pub and_then : {A B : Type 0} → Got A → (A → List Token → Got B) → Got B
and_then (got a ts) f = f a ts
and_then (stuck ts) f = stuck ts

-- whether a symbol is a given byte's
abbrev pub is_sign : Symbol → Symbol → Bool
is_sign (one_byte b) (one_byte c) = eqb b c
is_sign (one_byte b) (reserved_word j) = false
is_sign (one_byte b) (word w) = false
is_sign (reserved_word i) s = false
is_sign (word v) s = false

-- this symbol, and then the rest
unfoldable pub expect : {A : Type 0} → Symbol → List Token → (List Token → Got A) → Got A
expect s [] f = stuck []
expect s (t ∷ ts) f = elim (is_sign (symbol t) s) [ true ↦ f ts | false ↦ stuck (t ∷ ts) ]

-- the sort that a reserved word is
abbrev pub sort_of : ℕ → Option Sort
sort_of i =
    elim (eqb i (sort_position String)) [
      | true ↦ some String
      | false ↦
          elim (eqb i (sort_position Float)) [
            | true ↦ some Float
            | false ↦
                elim (eqb i (sort_position Boolean)) [
                  | true ↦ some Boolean
                  | false ↦ elim (eqb i (sort_position Void)) [ true ↦ some Void | false ↦ none ]
                ]
          ]
    ]

-- the readers that call one another
pub record Readers : Type 0 where
  pub types : List Token → Got Ty
  pub item : Way → List Token → Got Items
  pub labels : List Token → Got Labels

module _ (r : Readers) where
  -- behind an item
  unfoldable pub rest_with : Way → List Token → Got Items
  rest_with d [] = stuck []
  rest_with d (t ∷ ts) =
      elim (is_sign (symbol t) (closing d)) [
        | true ↦ got no_items ts
        | false ↦ elim (is_sign (symbol t) (sign ",")) [ true ↦ r.item d ts | false ↦ stuck (t ∷ ts) ]
      ]

  abbrev pub session_with : Way → List Token → Got Items
  session_with d ts = and_then (r.types ts) (λ x ts₁. and_then (rest_with d ts₁) (λ xs ts₂. got (session x xs) ts₂))

  -- an item, and those behind it
  unfoldable pub item_with : Way → List Token → Got Items
  item_with d [] = stuck []
  item_with d (t ∷ ts) =
      elim (symbol t) [
        | word w ↦ session_with d (t ∷ ts)
        | one_byte b ↦ session_with d (t ∷ ts)
        | reserved_word i ↦
            elim (sort_of i) [
              | some s ↦ and_then (rest_with d ts) (λ xs ts₁. got (sort s xs) ts₁)
              | none ↦ session_with d (t ∷ ts)
            ]
      ]

  unfoldable pub items_with : Way → List Token → Got Items
  items_with d [] = stuck []
  items_with d (t ∷ ts) = elim (is_sign (symbol t) (closing d)) [ true ↦ got no_items ts | false ↦ item_with d (t ∷ ts) ]

  unfoldable pub message_with : Way → List Token → Got Ty
  message_with d ts =
      expect (opening d) ts (λ ts₁.
      and_then (items_with d ts₁) (λ xs ts₂.
      expect (sign ";") ts₂ (λ ts₃.
      and_then (r.types ts₃) (λ x ts₄.
      got (message d xs x) ts₄))))

  -- behind a label's type
  unfoldable pub more_with : Token → Ty → List Token → Got Labels
  more_with w x [] = stuck []
  more_with w x (t ∷ ts) =
      elim (is_sign (symbol t) (sign "}")) [
        | true ↦ got (last_label w x) ts
        | false ↦
            elim (is_sign (symbol t) (sign "|")) [
              | true ↦ and_then (r.labels ts) (λ ls ts₁. got (label w x ls) ts₁)
              | false ↦ stuck (t ∷ ts)
            ]
      ]

  unfoldable pub labels_with : List Token → Got Labels
  labels_with [] = stuck []
  labels_with (t ∷ ts) =
      elim (symbol t) [
        | reserved_word i ↦ stuck (t ∷ ts)
        | one_byte b ↦ stuck (t ∷ ts)
        | word w ↦ expect (sign ":") ts (λ ts₁. and_then (r.types ts₁) (λ x ts₂. more_with w x ts₂))
      ]

  unfoldable pub choice_with : Way → List Token → Got Ty
  choice_with d ts = expect (sign "{") ts (λ ts₁. and_then (labels_with ts₁) (λ ls ts₂. got (choice d ls) ts₂))

  unfoldable pub type_with : List Token → Got Ty
  type_with [] = stuck []
  type_with (t ∷ ts) =
      elim (symbol t) [
        | word w ↦ got (name w) ts
        | reserved_word i ↦ elim (eqb i end_position) [ true ↦ got ended ts | false ↦ stuck (t ∷ ts) ]
        | one_byte b ↦
            elim (eqb b (code "?")) [
              | true ↦ message_with into ts
              | false ↦
                  elim (eqb b (code "!")) [
                    | true ↦ message_with out ts
                    | false ↦
                        elim (eqb b (code "&")) [
                          | true ↦ choice_with into ts
                          | false ↦ elim (eqb b (code "+")) [ true ↦ choice_with out ts | false ↦ stuck (t ∷ ts) ]
                        ]
                  ]
            ]
      ]

-- the readers, at most n calls deep
unfoldable pub readers : ℕ → Readers
readers zero = record { types = stuck; item = λ d. stuck; labels = stuck }
readers (suc n) = record { types = type_with (readers n); item = item_with (readers n); labels = labels_with (readers n) }

-- behind a definition
abbrev pub text_with : (List Token → Got Text) → Token → Ty → List Token → Got Text
text_with f w x [] = got (last_definition w x) []
text_with f w x (t ∷ ts) = and_then (f (t ∷ ts)) (λ ds ts₁. got (definition w x ds) ts₁)

unfoldable pub text_from : ℕ → List Token → Got Text
text_from zero ts = stuck ts
text_from (suc n) [] = stuck []
text_from (suc n) (t ∷ ts) =
    elim (symbol t) [
      | reserved_word i ↦ stuck (t ∷ ts)
      | one_byte b ↦ stuck (t ∷ ts)
      | word w ↦
          expect (sign "=") ts (λ ts₁.
          and_then ((readers n).types ts₁) (λ x ts₂.
          expect (sign ".") ts₂ (λ ts₃.
          text_with (text_from n) w x ts₃)))
    ]

-- 3 to 7: the lowest number that a token is refused for
abbrev pub one_more : Seen → Token → Begins → Bool
one_more z t a_definition = leb definitions_most (length z.names)
one_more z t a_label = leb labels_most (length (innermost z.brackets))
one_more z t an_item = leb items_most (length (innermost z.brackets))
one_more z t nothing_new = false

abbrev pub if_so : Bool → RefusalKind → Option RefusalKind
if_so true n = some n
if_so false n = none

abbrev pub again : Seen → Token → Begins → Option RefusalKind
again z t a_definition = if_so (among z.names t.spelled) kind.NameTwice
again z t a_label = if_so (among (innermost z.brackets) t.spelled) kind.LabelTwice
again z t an_item = none
again z t nothing_new = none

-- the first of 3, 4 and 5 whose test passes, and else what comes behind
abbrev pub lowest : Bool → Bool → Bool → Option RefusalKind → Option RefusalKind
lowest true b c o = some kind.WordTooLong
lowest false true c o = some kind.BracketTooMany
lowest false false true o = some kind.OneTooMany
lowest false false false o = o

unfoldable pub token_fault : Seen → Token → Option RefusalKind
token_fault z t =
    lowest (ltb word_most (length t.spelled)) (opens t && leb brackets_most (length z.brackets))
    (begins_node t && leb text_nodes_most z.nodes || one_more z t z.next) (again z t z.next)

-- the refusal at the first of k tokens that has one
unfoldable pub walk : ℕ → Seen → List Token → Option Made
walk zero z ts = none
walk (suc k) z [] = none
walk (suc k) z (t ∷ ts) =
    elim (token_fault z t) [ some n ↦ some (refused n t.at) | none ↦ walk k (seen_after z t) ts ]

-- where tokens begin; the end of the text where there is none
abbrev pub place : ℕ → List Token → ℕ
place size [] = size
place size (t ∷ ts) = t.at

abbrev pub leads_nowhere : Lead → Bool
leads_nowhere (to_node k) = false
leads_nowhere (to_name w) = false
leads_nowhere to_nothing = true

-- 8, and 9
unfoldable pub undefined : Text → List Token → Option Made
undefined x [] = none
undefined x (t ∷ ts) =
    elim (leads_nowhere (definition_leads x zero t.spelled)) [
      | true ↦ some (refused kind.NeverDefined t.at)
      | false ↦ undefined x ts
    ]

unfoldable pub rounds : Text → List Token → Option Made
rounds x [] = none
rounds x (t ∷ ts) =
    elim (follow x (definition_count x) (to_name t.spelled)) [
      | none ↦ some (refused kind.LeadsRound t.at)
      | some k ↦ rounds x ts
    ]

unfoldable pub named : Text → Made
named x =
    elim (undefined x (used_names x)) [
      | some m ↦ m
      | none ↦ elim (rounds x (defined_names x)) [ some m ↦ m | none ↦ made (table_of x) ]
    ]

unfoldable pub judged : ℕ → List Token → Got Text → Made
judged size ts (stuck rest) =
    elim (walk (length ts - length rest) unseen ts) [ some m ↦ m | none ↦ refused kind.Unexpected (place size rest) ]
judged size ts (got x rest) = elim (walk (length ts) unseen ts) [ some m ↦ m | none ↦ named x ]

unfoldable pub reading : List ℕ → Made
reading s =
    elim (ltb text_most (length s)) [
      | true ↦ refused kind.TextTooLong 0
      | false ↦ judged (length s) (tokens s) (text_from (suc (length (tokens s))) (tokens s))
    ]

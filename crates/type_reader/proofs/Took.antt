-- What a token that was taken does where a reader has got to.
-- Assumes nothing.
use mathlib.Core.Bool.{Bool, true, false, ◌&&◌, ◌||◌}
use mathlib.Core.List.{List, [], ◌∷◌}
use mathlib.Core.Option.{none, some}
use mathlib.Core.Path.{◌≡◌, refl, ap, ◌∙◌}
use Prim.Native.Nat.{ℕ, ◌+◌, ◌<◌, ◌≤◌}
use native.Mathlib.Omega.{arith}
use borrow.Author.Tests.{lt-leb}
use lib.Dec.{leb}
use lib.ListN.{length}
use Rattle.rules.specs.Words.{word_most, reserved_words}
use Rattle.rules.specs.Tokens.{Token, Symbol, word, reserved_word, one_byte, symbol, symbols}
use Rattle.rules.specs.Numbers.{text_most, text_nodes_most, items_most, brackets_most}
use Rattle.rules.specs.Refusals.{number, Begins, a_definition, a_label, an_item, nothing_new, Seen, innermost, entries_after, names_after, seen_after, unexpected}
use Rattle.rules.specs.computed.Reading.{token_fault, lowest}
use Rattle.rules.proofs.Machine.{Expect, Stack, on, stuck, step}
use Rattle.rules.proofs.Reached.{Reached, Refuses, reached_on, reached_fault}
use Rattle.rules.proofs.OneToken.{counted, opens_symbol, begins_symbol, nodes_symbol, next_symbol, brackets_symbol, seen-symbol, fault_symbol, refused_here}
use Rattle.rules.proofs.TokensBehind.{tokens_behind}
use Rattle.cursor.specs.Takes.{Ahead, reserved_kind, word_kind, kind_of}
use Rattle.cursor.specs.declared.Taken.{Taken}
use Rattle.cursor.proofs.Symbols.{First, first_byte, first_reserved, first_word}
use Rattle.table.specs.declared.answers.RefusalKind.{RefusalKind}
use Rattle.type_reader.specs.Answers.{first_spelled, TypeRoom, alone, as_item}

-- the token t stands first in ts, and its symbol is y
pub record Took (s : List ℕ) (t : Taken) (ts : List Token) (y : Token → Symbol) : Type 0 where
  pub token : Token
  pub split : ts ≡ token ∷ tokens_behind s t.next.at
  pub means : symbol token ≡ y token
  pub stands : t.at ≡ token.at
  pub long : t.len ≡ length token.spelled

took : {s : List ℕ} {t : Taken} {ts : List Token} {y : Token → Symbol} → Ahead s t ts → First ts y → Took s t ts y
took {s} {t} {ts} {y} h f = go ts h f.token f.rest f.split f.means
  where
    go : (ts : List Token) → Ahead s t ts → (u : Token) (k : List Token) → ts ≡ u ∷ k → symbol u ≡ y u → Took s t ts y
    go [] h u k e m = let z : ◌≡◌ {A = ℕ} 0 1 = cc in absurd (omega arith)
    go (v ∷ l) h u k e m =
        let d : v ≡ u = cc in
        record { token = v; split = ap (λ r. v ∷ r) h.behind; means = rw d m; stands = h.stands; long = h.long }

module _ {s : List ℕ} {t : Taken} {ts : List Token} (h : Ahead s t ts) where
  pub took_byte : (b : ℕ) → kind_of t ≡ b → b < reserved_kind → Took s t ts (λ u. one_byte b)
  took_byte b e l = took h (first_byte ts (kind_of t) b h.is e l)

  pub took_reserved : (i : ℕ) → kind_of t ≡ reserved_kind + i → i < length reserved_words → Took s t ts (λ u. reserved_word i)
  took_reserved i e l = took h (first_reserved ts (kind_of t) i h.is e l)

  pub took_word : kind_of t ≡ word_kind → Took s t ts word
  took_word e = took h (first_word ts (kind_of t) h.is e)

  -- a token that cannot stand here, or the end
  pub not_here :
      {e : Expect} {K : Stack} {z : Seen} → length s ≤ text_most → Reached s ts (e ∷ K) z
      → ((u : Token) (k : List Token) → ts ≡ u ∷ k → step (e ∷ K) (symbol u) ≡ stuck) → Refuses s unexpected t.at
  not_here l r f = rw h.stands (refused_here ts l r f)

module _ {s : List ℕ} {t : Taken} {ts : List Token} {y : Token → Symbol} (k : Took s t ts y) where
  pub took_symbols : symbols ts ≡ y k.token ∷ symbols (tokens_behind s t.next.at)
  took_symbols = rw (k.split, k.means) refl

  pub took_spelled : first_spelled ts ≡ k.token.spelled
  took_spelled = rw k.split refl

  pub took_on :
      {J L : Stack} {z : Seen} → Reached s ts J z → step J (y k.token) ≡ on L → token_fault z k.token ≡ none
      → Reached s (tokens_behind s t.next.at) L (seen_after z k.token)
  took_on {J} {L} r e f = reached_on (rw k.split at r) (rw k.means e) f

  pub took_fault :
      {J L : Stack} {z : Seen} {n : RefusalKind} → length s ≤ text_most → Reached s ts J z → step J (y k.token) ≡ on L
      → token_fault z k.token ≡ some n → Refuses s (number n) t.at
  took_fault {L} l r e f = rw k.stands (reached_fault {J = L} l (rw k.split at r) (rw k.means e) f)

  -- what is then counted, by the symbol
  pub took_counted :
      {J L : Stack} (nx : Begins) (n : ℕ) (ns : List (List ℕ)) (bs : List (List (List ℕ))) → Reached s ts J (counted nx n ns bs)
      → step J (y k.token) ≡ on L → token_fault (counted nx n ns bs) k.token ≡ none
      → Reached s (tokens_behind s t.next.at) L
      (counted (next_symbol (y k.token)) (nodes_symbol (y k.token) n) (names_after nx k.token.spelled ns)
      (brackets_symbol (y k.token) (entries_after nx k.token.spelled bs)))
  took_counted nx n ns bs r e f = rw (← seen-symbol k.token (y k.token) k.means nx n ns bs) (took_on r e f)

-- the limits that a type's first token may pass: brackets and nodes
or_nothing : (b : Bool) → (b || false) ≡ b
or_nothing true = refl
or_nothing false = refl

pub fault_here :
    (u : Token) (y : Symbol) (nx : Begins) (n : ℕ) (ns : List (List ℕ)) (bs : List (List (List ℕ))) → symbol u ≡ y
    → length u.spelled ≤ word_most → TypeRoom nx bs
    → token_fault (counted nx n ns bs) u
    ≡ lowest false (opens_symbol y && leb brackets_most (length bs)) (begins_symbol y && leb text_nodes_most n) none
fault_here u y nothing_new n ns bs e l alone = fault_symbol u y e (counted nothing_new n ns bs) l ∙ rw (or_nothing (begins_symbol y && leb text_nodes_most n)) refl
fault_here u y an_item n ns bs e l (as_item h) =
    fault_symbol u y e (counted an_item n ns bs) l
    ∙ rw (lt-leb items_most (length (innermost bs)) h, or_nothing (begins_symbol y && leb text_nodes_most n)) refl
fault_here u y a_definition n ns bs e l h = elim h [ ]
fault_here u y a_label n ns bs e l h = elim h [ ]

-- What one token does where a reader has got to: it is refused, or the reader goes on with what is then counted. By what the token is.
-- Assumes nothing.
use mathlib.Core.Bool.{Bool, true, false, ◌&&◌, ◌||◌}
use mathlib.Core.List.{List, [], ◌∷◌}
use mathlib.Core.Option.{some}
use mathlib.Core.Path.{◌≡◌, refl}
use Prim.Native.Nat.{ℕ, suc, ◌<◌, ◌≤◌}
use borrow.Author.Tests.{lt-ltb, le-ltb}
use lib.Dec.{leb}
use lib.ListN.{length}
use Rattle.rules.specs.Basics.{bytes}
use Rattle.rules.specs.Words.{word_most}
use Rattle.rules.specs.Tokens.{Token, Symbol, symbol}
use Rattle.rules.specs.Numbers.{text_most, text_nodes_most, brackets_most}
use Rattle.rules.specs.Refusals.{Begins, a_definition, a_label, an_item, nothing_new, one_of, is_end, begins_behind, Seen, entries_after, names_after, bracket_closed, brackets_after, nodes_after, seen_after, unexpected}
use Rattle.rules.specs.computed.Reading.{token_fault, lowest, one_more, again, place}
use Rattle.rules.proofs.Machine.{Expect, Stack, step, stuck}
use Rattle.rules.proofs.Reached.{Reached, Refuses, reached_stuck, reached_end}
use Rattle.table.specs.declared.answers.RefusalKind.TheVariants as kind

-- a token that cannot stand here, or the end of the text where it may not end
pub refused_here :
    {s : List ℕ} (ts : List Token) {e : Expect} {K : Stack} {z : Seen} → length s ≤ text_most → Reached s ts (e ∷ K) z
    → ((t : Token) (k : List Token) → ts ≡ t ∷ k → step (e ∷ K) (symbol t) ≡ stuck) → Refuses s unexpected (place (length s) ts)
refused_here [] h r f = reached_end h r
refused_here (t ∷ k) h r f = reached_stuck h r (f t k refl)

-- what is counted, part by part
abbrev pub counted : Begins → ℕ → List (List ℕ) → List (List (List ℕ)) → Seen
counted nx k ns bs = record { next = nx; nodes = k; names = ns; brackets = bs }

-- the symbol tells all that is counted of a token but its spelling
abbrev pub opens_symbol : Symbol → Bool
opens_symbol y = one_of (bytes "([{") y

abbrev pub closes_symbol : Symbol → Bool
closes_symbol y = one_of (bytes ")]}") y

abbrev pub begins_symbol : Symbol → Bool
begins_symbol y = is_end y || one_of (bytes "?!&+") y

abbrev pub brackets_symbol : Symbol → List (List (List ℕ)) → List (List (List ℕ))
brackets_symbol y bs =
    elim (opens_symbol y) [ true ↦ [] ∷ bs | false ↦ elim (closes_symbol y) [ true ↦ bracket_closed bs | false ↦ bs ] ]

abbrev pub nodes_symbol : Symbol → ℕ → ℕ
nodes_symbol y n = elim (begins_symbol y) [ true ↦ suc n | false ↦ n ]

abbrev pub next_symbol : Symbol → Begins
next_symbol y =
    elim (one_of (bytes ".") y) [
      | true ↦ a_definition
      | false ↦
          elim (one_of (bytes "{|") y) [
            | true ↦ a_label
            | false ↦ elim (one_of (bytes "([,") y) [ true ↦ an_item | false ↦ nothing_new ]
          ]
    ]

module _ (t : Token) (y : Symbol) (e : symbol t ≡ y) where
  pub seen-symbol :
      (nx : Begins) (k : ℕ) (ns : List (List ℕ)) (bs : List (List (List ℕ)))
      → seen_after (counted nx k ns bs) t
      ≡ counted (next_symbol y) (nodes_symbol y k) (names_after nx t.spelled ns) (brackets_symbol y (entries_after nx t.spelled bs))
  unfolding seen_after begins_behind nodes_after brackets_after
  seen-symbol nx k ns bs = rw (← e) refl

  pub fault_symbol :
      (z : Seen) → length t.spelled ≤ word_most
      → token_fault z t
      ≡ lowest false (opens_symbol y && leb brackets_most (length z.brackets))
      (begins_symbol y && leb text_nodes_most z.nodes || one_more z t z.next) (again z t z.next)
  unfolding token_fault
  fault_symbol z l = rw (← e, token_fault, le-ltb word_most (length t.spelled) l) refl

pub fault_long : (z : Seen) (t : Token) → word_most < length t.spelled → token_fault z t ≡ some kind.WordTooLong
unfolding token_fault
fault_long z t l = rw (token_fault, lt-ltb word_most (length t.spelled) l) refl

-- what the symbol's tests say of what is counted
module _ (y : Symbol) where
  pub brackets_plain : (bs : List (List (List ℕ))) → opens_symbol y ≡ false → closes_symbol y ≡ false → brackets_symbol y bs ≡ bs
  brackets_plain bs o c = rw (brackets_symbol, o, c) refl

  pub brackets_opened : (bs : List (List (List ℕ))) → opens_symbol y ≡ true → brackets_symbol y bs ≡ [] ∷ bs
  brackets_opened bs o = rw (brackets_symbol, o) refl

  pub brackets_shut : (bs : List (List (List ℕ))) → opens_symbol y ≡ false → closes_symbol y ≡ true → brackets_symbol y bs ≡ bracket_closed bs
  brackets_shut bs o c = rw (brackets_symbol, o, c) refl

  pub nodes_same : (n : ℕ) → begins_symbol y ≡ false → nodes_symbol y n ≡ n
  nodes_same n g = rw (nodes_symbol, g) refl

  pub nodes_one_more : (n : ℕ) → begins_symbol y ≡ true → nodes_symbol y n ≡ suc n
  nodes_one_more n g = rw (nodes_symbol, g) refl

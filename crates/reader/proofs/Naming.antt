-- A definition's name: where it may stand, and what it is refused for.
-- Assumes nothing.
use mathlib.Core.Bool.{true, false}
use mathlib.Core.List.{List, [], ◌∷◌}
use mathlib.Core.Option.{none}
use mathlib.Core.Path.{◌≡◌, refl, sym, ap, ap₂, ◌∙◌}
use Prim.Native.Nat.{ℕ, ◌+◌, ◌*◌, ◌<◌, ◌≤◌}
use native.Mathlib.Nat.{zero-add}
use native.Mathlib.Omega.{arith}
use borrow.Author.Tests.{lt-leb, le-leb}
use lib.Dec.{leb}
use lib.ListN.{length, get_or}
use Rattle.rules.specs.Basics.{part, same}
use Rattle.rules.specs.Words.{word_most}
use Rattle.rules.specs.Tokens.{Token, Symbol, word, reserved_word, one_byte, symbol}
use Rattle.rules.specs.Numbers.{text_most, definitions_most}
use Rattle.rules.specs.Refusals.{a_definition, nothing_new, one_of, among, Seen, unexpected, number}
use Rattle.rules.specs.computed.Reading.{token_fault, lowest, if_so}
use Rattle.rules.proofs.Basics.{first_found}
use Rattle.rules.proofs.Machine.{Stack, on, stuck, step, in_definition, start}
use Rattle.rules.proofs.Reached.{Reached, Refuses, reached_stuck}
use Rattle.rules.proofs.OneToken.{counted, fault_symbol, fault_long}
use Rattle.rules.proofs.TokensBehind.{tokens_behind}
use Rattle.cursor.specs.Takes.{Ahead, word_kind, kind_of}
use Rattle.cursor.specs.declared.Cursor.{Cursor}
use Rattle.cursor.specs.declared.Taken.{Taken}
use Rattle.cursor.proofs.Symbols.{kind_of_word}
use Rattle.flat.specs.Flat.{row, word_of, words_of, word_found}
use Rattle.table.specs.declared.answers.Refusal.{Refusal}
use Rattle.table.specs.declared.answers.RefusalKind.TheVariants as kind
use Rattle.std.specs.Prelude.{Bool, true, false, Ok, Err, Option, is_some}
use lib.Dec.{ltb}
use borrow.Author.Tests.{ltb-true, ltb-false}
use Rattle.words.specs.Found.{found}
use Rattle.words.proofs.Found.{found_tested}
use Rattle.type_reader.proofs.Took.{took_word, not_here, took_counted, took_fault}
use Rattle.type_reader.proofs.Begins.{no-row}
use Rattle.type_reader.proofs.LabelSteps.{among_words, among-no_words, words_long}
use Rattle.type_reader.proofs.Labelled.{spelled_part}
use Rattle.reader.specs.Defining.{name_at, Named, no_name, long_name, name_too_many, name_twice, new_name, Starts, at_first, further}

-- what finding a name among all rows tells of each row
same_word : (s d : List ℕ) (j : ℕ) → part s (get_or d (j * row) 0) (get_or d (j * row + 1) 0) ≡ word_of s d 0 j
same_word s d j =
    ap₂ (λ p q. part s p q) (ap (λ i. get_or d i 0) (sym (zero-add (j * row)))) (ap (λ i. get_or d i 0) (ap (λ i. i + 1) (sym (zero-add (j * row)))))

module _ (s d : List ℕ) (n : ℕ) (w : List ℕ) {r : Option ℕ} {b : Bool} {v : List ℕ} (e : r ≡ found n (word_found s d n v)) (t : b ≡ is_some r) (f : v ≡ w) where
  abbrev place : ℕ
  place = word_found s d n w

  tested : b ≡ ltb place n
  tested = found_tested n place (rw f at e) t

  pub name_found : b ≡ true → (j : ℕ) × (j < n) × (same (word_of s d 0 j) w ≡ true)
  unfolding word_found
  name_found h =
      let g = first_found n (λ j. same (part s (get_or d (j * row) 0) (get_or d (j * row + 1) 0)) w) in
      let l : place < n = ltb-true _ _ (sym tested ∙ h) in
      (place, l, rw (← same_word s d place) (g.here l))

  pub names_other : b ≡ false → (j : ℕ) → j < n → same (word_of s d 0 j) w ≡ false
  unfolding word_found
  names_other h j k =
      let g = first_found n (λ j. same (part s (get_or d (j * row) 0) (get_or d (j * row + 1) 0)) w) in
      let l : n ≤ place = ltb-false _ _ (sym tested ∙ h) in
      rw (← same_word s d j) (g.before j (omega arith))

-- where a name leads, and that nothing else may stand there
name_leads : {J : Stack} {ts : List Token} → Starts J ts → (w : Token) → step J (word w) ≡ on (in_definition [])
unfolding step
name_leads at_first w = refl
name_leads further w = refl

start_stuck : (y : Symbol) → ((w : Token) → y ≡ word w → ⊥) → step start y ≡ stuck
unfolding step
start_stuck (word w) n = absurd (n w refl)
start_stuck (reserved_word i) n = no-row i
start_stuck (one_byte b) n = no-row b

none_stuck : (y : Symbol) → ((w : Token) → y ≡ word w → ⊥) → step [] y ≡ stuck
unfolding step
none_stuck (word w) n = absurd (n w refl)
none_stuck (reserved_word i) n = refl
none_stuck (one_byte b) n = refl

-- the limits of a name, none of 3 and 4
name_fault :
    (u : Token) (n : ℕ) (ns : List (List ℕ)) → symbol u ≡ word u → length u.spelled ≤ word_most
    → token_fault (counted a_definition n ns []) u
    ≡ lowest false false (leb definitions_most (length ns)) (if_so (among ns u.spelled) kind.NameTwice)
unfolding one_of
name_fault u n ns e j = fault_symbol u (word u) e (counted a_definition n ns []) j

-- a name that may stand behind n others
pub record NewName (s d : List ℕ) (t : Taken) (n : ℕ) : Type 0 where
  pub is_word : kind_of t ≡ word_kind
  pub short : t.len ≤ word_most
  pub few : n < definitions_most
  pub new : (j : ℕ) → j < n → name_at s d j t ≡ false

pub fresh_name : {s d : List ℕ} {t : Taken} {n : ℕ} {c : Cursor} → Named s d t n (Ok c) → NewName s d t n × (c ≡ t.next)
fresh_name (new_name e j m f) = (record { is_word = e; short = j; few = m; new = f }, refl)

not_a_name :
    {s : List ℕ} {t : Taken} {ts : List Token} {J : Stack} {z : Seen} → length s ≤ text_most → Ahead s t ts → Reached s ts J z
    → (kind_of t ≡ word_kind → ⊥) → Starts J ts → Refuses s unexpected t.at
not_a_name l h r e at_first = not_here h l r (λ u k g. start_stuck (symbol u) (λ w q. e (h.is ∙ rw (g, q) (kind_of_word w))))
not_a_name l h r e (further {t = u}) = rw h.stands (reached_stuck l r (none_stuck (symbol u) (λ w q. e (h.is ∙ rw q (kind_of_word w)))))

module _ {s : List ℕ} (l : length s ≤ text_most) (d : List ℕ) {t : Taken} (n : ℕ) {ts : List Token} {J : Stack} (h : Ahead s t ts) (f : Starts J ts)
    (r : Reached s ts J (counted a_definition t.next.nodes (words_of s d 0 n) [])) where
  pub name-refused : {no : Refusal} → Named s d t n (Err no) → Refuses s (number no.kind) no.place
  name-refused (no_name e) = not_a_name l h r e f
  name-refused (long_name e j) =
      let k = took_word h e in
      took_fault k {L = in_definition []} l r (name_leads f k.token) (fault_long (counted a_definition t.next.nodes (words_of s d 0 n) []) k.token (omega (arith, k.long)))
  name-refused (name_too_many e j m) =
      let k = took_word h e in
      let ns : List (List ℕ) = words_of s d 0 n in
      took_fault k {L = in_definition []} {n = kind.OneTooMany} l r (name_leads f k.token)
      (name_fault k.token t.next.nodes ns k.means (omega (arith, k.long)) ∙ rw (le-leb definitions_most (length ns) (omega (arith, words_long s d 0 n))) refl)
  name-refused (name_twice e j m i g q) =
      let k = took_word h e in
      let ns : List (List ℕ) = words_of s d 0 n in
      let y : among ns k.token.spelled ≡ true = rw (spelled_part r k) (among_words s d 0 (part s t.at t.len) n i g q) in
      took_fault k {L = in_definition []} {n = kind.NameTwice} l r (name_leads f k.token)
      (name_fault k.token t.next.nodes ns k.means (omega (arith, k.long)) ∙ rw (lt-leb definitions_most (length ns) (omega (arith, words_long s d 0 n)), y) refl)

  pub behind_name :
      NewName s d t n
      → Reached s (tokens_behind s t.next.at) (in_definition [])
      (counted nothing_new t.next.nodes (part s t.at t.len ∷ words_of s d 0 n) [])
  unfolding one_of
  behind_name g =
      let k = took_word h g.is_word in
      let ns : List (List ℕ) = words_of s d 0 n in
      let w = spelled_part r k in
      let y : among ns k.token.spelled ≡ false = rw w (among-no_words s d 0 (part s t.at t.len) n g.new) in
      let z : token_fault (counted a_definition t.next.nodes ns []) k.token ≡ none =
      name_fault k.token t.next.nodes ns k.means (omega (arith, k.long, g.short))
      ∙ rw (lt-leb definitions_most (length ns) (omega (arith, words_long s d 0 n, g.few)), y) refl in
      let o = took_counted k a_definition t.next.nodes ns [] r (name_leads f k.token) z in
      rw w at o

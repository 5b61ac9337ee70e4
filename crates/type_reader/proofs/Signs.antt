-- A byte that is expected, and an opening bracket: where they lead, and what is refused.
-- Assumes nothing.
use mathlib.Core.Bool.{Bool, true, false}
use mathlib.Core.List.{List, [], ◌∷◌}
use mathlib.Core.Logic.{inl, inr}
use mathlib.Core.Option.{none}
use mathlib.Core.Path.{◌≡◌, refl, ap, ◌∙◌}
use Prim.Native.Nat.{ℕ, ◌<◌, ◌≤◌}
use native.Mathlib.Omega.{arith}
use borrow.Author.Tests.{eqb-true, le-leb, lt-leb}
use lib.Dec.{eqb, leb}
use lib.ListN.{length}
use Rattle.rules.specs.Words.{word_most}
use Rattle.rules.specs.Tokens.{Token, Symbol, word, reserved_word, one_byte, symbol, symbols}
use Rattle.rules.specs.Numbers.{text_most, brackets_most}
use Rattle.rules.specs.Refusals.{number, nothing_new, Seen}
use Rattle.rules.specs.computed.Reading.{token_fault, lowest}
use Rattle.rules.proofs.Machine.{this, Stack, stuck, look, step}
use Rattle.rules.proofs.Reached.{Reached, Refuses}
use Rattle.rules.proofs.Taken.{this_step}
use Rattle.rules.proofs.OneToken.{counted, opens_symbol, closes_symbol, begins_symbol, next_symbol, nodes_same, brackets_plain, brackets_opened}
use Rattle.rules.proofs.TokensBehind.{tokens_behind}
use Rattle.cursor.specs.Takes.{Ahead, Takes, reserved_kind, word_kind, kind_of}
use Rattle.cursor.specs.declared.Cursor.{Cursor}
use Rattle.cursor.specs.declared.Taken.{Taken}
use Rattle.cursor.proofs.Symbols.{kind_of_byte}
use Rattle.type_reader.specs.Leaves.{Signed, signed, not_signed, Opened, opened, too_deep, not_opened}
use Rattle.type_reader.specs.Answers.{alone}
use Rattle.std.specs.Prelude.{Ok, Err}
use Rattle.table.specs.declared.answers.Refusal.{Refusal}
use Rattle.type_reader.proofs.Took.{Took, took_byte, not_here, took_symbols, took_counted, took_fault, fault_here}

-- a token other than a word is short
pub short_token :
    {s : List ℕ} {t : Taken} {ts : List Token} {y : Token → Symbol} → Ahead s t ts → (k : Took s t ts y) → (kind_of t ≡ word_kind → ⊥)
    → length k.token.spelled ≤ word_most
short_token {s} {t} {ts} {y} h k n =
    elim h.short [ inl e ↦ absurd (n e) | inr l ↦ omega (arith, k.long) ]

-- where this byte is expected, no other symbol may stand
this_stuck : (b : ℕ) (K : Stack) (y : Symbol) → (y ≡ one_byte b → ⊥) → step (this b ∷ K) y ≡ stuck
unfolding step look
this_stuck b K (word w) n = refl
this_stuck b K (reserved_word i) n = refl
this_stuck b K (one_byte a) n = go (eqb a b) refl
  where
    go : (q : Bool) → eqb a b ≡ q → step (this b ∷ K) (one_byte a) ≡ stuck
    go true q = absurd (n (ap one_byte (eqb-true a b q)))
    go false q = rw (look, q) refl

-- the token t is not the byte b
pub other_byte :
    {s : List ℕ} {t : Taken} {ts : List Token} {b : ℕ} {K : Stack} {z : Seen} → length s ≤ text_most → b < reserved_kind → Ahead s t ts
    → (kind_of t ≡ b → ⊥) → Reached s ts (this b ∷ K) z → Refuses s 2 t.at
other_byte {s} {t} {ts} {b} {K} {z} l m h n r =
    not_here h l r (λ u k e. this_stuck b K (symbol u) (λ d. n (h.is ∙ rw (e, d) (kind_of_byte b m))))

-- a byte that neither opens nor closes a bracket nor begins a node
pub record Plain (b : ℕ) : Type 0 where
  pub byte : b < reserved_kind
  pub no_opening : opens_symbol (one_byte b) ≡ false
  pub no_closing : closes_symbol (one_byte b) ≡ false
  pub no_node : begins_symbol (one_byte b) ≡ false

module _ {s : List ℕ} (l : length s ≤ text_most) {c : Cursor} {b : ℕ} {K : Stack} (n : ℕ) (ns : List (List ℕ)) (bs : List (List (List ℕ))) where
  pub sign-refused : {no : Refusal} → b < reserved_kind → Signed s c b (Err no) → Reached s (tokens_behind s c.at) (this b ∷ K) (counted nothing_new n ns bs) → Refuses s (number no.kind) no.place
  sign-refused q (not_signed t e) r = other_byte l q t.ahead e r

  sign_here :
      {t : Taken} → Plain b → Takes s c t → kind_of t ≡ b → Reached s (tokens_behind s c.at) (this b ∷ K) (counted nothing_new n ns bs)
      → Reached s (tokens_behind s t.next.at) K (counted (next_symbol (one_byte b)) n ns bs)
      × (symbols (tokens_behind s c.at) ≡ one_byte b ∷ symbols (tokens_behind s t.next.at))
  sign_here {t} p k e r =
      let d = took_byte k.ahead b e p.byte in
      let f : token_fault (counted nothing_new n ns bs) d.token ≡ none =
      fault_here d.token (one_byte b) nothing_new n ns bs d.means (short_token k.ahead d (λ q. omega (arith, p.byte))) alone
      ∙ rw (p.no_opening, p.no_node) refl in
      let g = took_counted d nothing_new n ns bs r (this_step b K) f in
      (rw (nodes_same (one_byte b) n p.no_node, brackets_plain (one_byte b) bs p.no_opening p.no_closing) at g, took_symbols d)

  pub sign-past :
      {c' : Cursor} → Plain b → Signed s c b (Ok c') → Reached s (tokens_behind s c.at) (this b ∷ K) (counted nothing_new n ns bs)
      → Reached s (tokens_behind s c'.at) K (counted (next_symbol (one_byte b)) n ns bs)
      × (symbols (tokens_behind s c.at) ≡ one_byte b ∷ symbols (tokens_behind s c'.at))
  sign-past p (signed t e) r = sign_here p t e r

-- an opening bracket: a seventeenth is refused
pub record Opening (b : ℕ) : Type 0 where
  pub byte : b < reserved_kind
  pub opening : opens_symbol (one_byte b) ≡ true
  pub no_node : begins_symbol (one_byte b) ≡ false

bracket_fault :
    {s : List ℕ} {c : Cursor} {t : Taken} {b : ℕ} (o : Opening b) (n : ℕ) (ns : List (List ℕ)) (bs : List (List (List ℕ))) (k : Takes s c t)
    (e : kind_of t ≡ b) (f : Bool) → leb brackets_most (length bs) ≡ f
    → token_fault (counted nothing_new n ns bs) (took_byte k.ahead b e o.byte).token ≡ lowest false f false none
bracket_fault {b} o n ns bs k e f i =
    let d = took_byte k.ahead b e o.byte in
    fault_here d.token (one_byte b) nothing_new n ns bs d.means (short_token k.ahead d (λ q. omega (arith, o.byte))) alone
    ∙ rw (o.opening, o.no_node, i) refl

module _ {s : List ℕ} (l : length s ≤ text_most) {c : Cursor} {b deep : ℕ} {K : Stack} (o : Opening b) (n : ℕ) (ns : List (List ℕ)) (bs : List (List (List ℕ))) (h : length bs ≡ deep) where
  pub bracket_refused :
      {no : Refusal} → Opened s c b deep (Err no) → Reached s (tokens_behind s c.at) (this b ∷ K) (counted nothing_new n ns bs) → Refuses s (number no.kind) no.place
  bracket_refused (not_opened t e) r = other_byte l o.byte t.ahead e r
  bracket_refused (too_deep t e j) r =
      took_fault (took_byte t.ahead b e o.byte) l r (this_step b K) (bracket_fault o n ns bs t e true (le-leb brackets_most (length bs) (omega arith)))

  bracket_here :
      {t : Taken} → Takes s c t → kind_of t ≡ b → deep < brackets_most → Reached s (tokens_behind s c.at) (this b ∷ K) (counted nothing_new n ns bs)
      → Reached s (tokens_behind s t.next.at) K (counted (next_symbol (one_byte b)) n ns ([] ∷ bs))
      × (symbols (tokens_behind s c.at) ≡ one_byte b ∷ symbols (tokens_behind s t.next.at))
  bracket_here {t} k e j r =
      let d = took_byte k.ahead b e o.byte in
      let g = took_counted d nothing_new n ns bs r (this_step b K) (bracket_fault o n ns bs k e false (lt-leb brackets_most (length bs) (omega arith))) in
      (rw (nodes_same (one_byte b) n o.no_node, brackets_opened (one_byte b) bs o.opening) at g, took_symbols d)

  pub bracket_past :
      {c' : Cursor} → Opened s c b deep (Ok c') → Reached s (tokens_behind s c.at) (this b ∷ K) (counted nothing_new n ns bs)
      → Reached s (tokens_behind s c'.at) K (counted (next_symbol (one_byte b)) n ns ([] ∷ bs))
      × (symbols (tokens_behind s c.at) ≡ one_byte b ∷ symbols (tokens_behind s c'.at))
  bracket_past (opened t e j) r = bracket_here t e j r

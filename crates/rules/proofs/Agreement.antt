-- The reading that computes is the declared reading: `reading s` is the reply to every text s, and the only one.
-- Assumes nothing.
use mathlib.Core.Bool.{Bool, true, false}
use mathlib.Core.List.{List, [], ◌∷◌, ◌++◌, nil≢cons, head-eq_of_cons-eq, tail-eq_of_cons-eq}
use mathlib.Core.Logic.{inl, inr, ◌↔◌}
use mathlib.Core.Option.{Option, none, some}
use mathlib.Core.Path.{◌≡◌, refl, sym, ap}
use Prim.Native.Nat.{ℕ, zero, suc, ◌+◌, ◌-◌, ◌<◌, ◌≤◌}
use native.Mathlib.Decide.{dec_lt}
use native.Mathlib.Omega.{arith}
use lib.Dec.{ltb}
use lib.ListN.{length}
use borrow.Author.Tests.{ltb-true, ltb-false}
use Rattle.rules.specs.Tokens.{Token, tokens}
use Rattle.rules.specs.Notation.{Text, Writes}
use Rattle.rules.specs.Numbers.{text_most}
use Rattle.rules.specs.Numbering.{Lead, to_node, to_name, to_nothing, definition_leads, definition_count, follow}
use Rattle.rules.specs.Refusals.{GoesFirst, group, Fault, long_text, no_text_has, none_may_end, at_token, undefined_name, round_name, OneOf, Seen, unseen, seen_after, used_names, defined_names, text_too_long, unexpected, name_twice}
use Rattle.rules.specs.Replies.{Reads, refuses, refused}
use Rattle.rules.specs.computed.Reading.{Got, token_fault, walk, place, leads_nowhere, undefined, rounds, named, judged, text_from, reading}
use Rattle.rules.proofs.Machine.{Stack, start}
use Rattle.rules.proofs.NamedReading.{reads_undefined, reads_round, reads_table}
use Rattle.rules.proofs.OneReading.{one_reading}
use Rattle.rules.proofs.Reached.{Clear, Reached, reached_start, reached_on, reached_stuck, reached_end, reached_fault, reached_text, refuses_reads}
use Rattle.rules.proofs.ReadersAgree.{Passes, here, past, passes_shorter, Stops, reads, stops, TextAt, text_outcome}
use Rattle.rules.proofs.Refusals.{group_middle, group_late, goes_first_irreflexive}
use Rattle.rules.proofs.Unexpected.{token_numbers}
use Rattle.table.specs.declared.answers.Made.{Made}
use Rattle.table.specs.declared.answers.RefusalKind.{RefusalKind}
use Rattle.table.specs.declared.answers.RefusalKind.TheVariants as kind

-- A stage of the reading: it has the reply to s, or it has none and P holds behind it.
data Stage (s : List ℕ) (P : Type 0) : Option Made → Type 0 where
  replied : {m : Made} → Reads s m → Stage s P (some m)
  passed : P → Stage s P none

-- and the stages behind it
stage_then :
    {s : List ℕ} {P : Type 0} {o : Option Made} {m : Made} → Stage s P o → (P → Reads s m)
    → Reads s (elim o as (λ o. Made) [ some n ↦ n | none ↦ m ])
stage_then (replied r) f = r
stage_then (passed p) f = f p

-- The walk over the tokens that the machine takes, to the tokens `rest`: the first that has a fault is refused.
abbrev Walked : List ℕ → List Token → Stack → Option Made → Type 0
Walked s rest K = Stage s ((z : Seen) × Reached s rest K z)

module _ {s : List ℕ} (short : length s ≤ text_most) where
  walked :
      {J : Stack} {rest : List Token} (k : ℕ) {K : Stack} {ts : List Token} {z : Seen} → Reached s ts K z → Passes K ts J rest → k + length rest ≡ length ts
      → Walked s rest J (walk k z ts)
  unfolding walk
  walked zero R here e = passed (_, R)
  walked zero R (past d p) e = absurd (omega (arith, passes_shorter p))
  walked (suc k) R here e = absurd (omega arith)
  walked {J = J} {rest = rest} (suc k) {ts = t ∷ ts} {z = z} R (past d p) e =
      go (token_fault z t) refl (λ f. walked k (reached_on R d f) p (omega arith))
    where
      go :
          (o : Option RefusalKind) → token_fault z t ≡ o → (token_fault z t ≡ none → Walked s rest J (walk k (seen_after z t) ts))
          → Walked s rest J (elim o as (λ o. Option Made) [ some n ↦ some (refused n t.at) | none ↦ walk k (seen_after z t) ts ])
      go (some n) f g = replied (refuses_reads (reached_fault short R d f))
      go none f g = g f

  -- where the machine stops behind them
  stopped :
      {K : Stack} {rest : List Token} {z : Seen} → Reached s rest K z → Stops K rest
      → Reads s (refused kind.Unexpected (place (length s) rest))
  stopped {K = []} {rest = []} R h = absurd h
  stopped {K = e ∷ K} {rest = []} R h = refuses_reads {k = kind.Unexpected} (reached_end short R)
  stopped {rest = t ∷ rest} R h = refuses_reads {k = kind.Unexpected} (reached_stuck short R h)

-- A search from the front: the first that is bad, or all are good.
data Search (Good Bad : Token → Type 0) (reply : Token → Made) (ts : List Token) : Option Made → Type 0 where
  found :
      (before after : List Token) {t : Token} → ts ≡ before ++ (t ∷ after) → ((u : Token) → OneOf u before → Good u) → Bad t
      → Search Good Bad reply ts (some (reply t))
  not_found : ((u : Token) → OneOf u ts → Good u) → Search Good Bad reply ts none

one_of_none : (u : Token) → OneOf u [] → ⊥
one_of_none u o = go o.before o.split
  where
    go : (before : List Token) → [] ≡ before ++ (u ∷ o.after) → ⊥
    go [] e = nil≢cons e
    go (d ∷ before) e = nil≢cons e

first_good :
    {Good : Token → Type 0} {t : Token} {ts : List Token} → Good t → ((u : Token) → OneOf u ts → Good u)
    → (u : Token) → OneOf u (t ∷ ts) → Good u
first_good {Good} {t} {ts} g f u o = go o.before o.split
  where
    go : (before : List Token) → t ∷ ts ≡ before ++ (u ∷ o.after) → Good u
    go [] e = rw (sym (head-eq_of_cons-eq e)) g
    go (d ∷ before) e = f u (record { before = before; after = o.after; split = tail-eq_of_cons-eq e })

search_none : {Good Bad : Token → Type 0} {reply : Token → Made} → Search Good Bad reply [] none
search_none = not_found (λ u o. absurd (one_of_none u o))

search_here :
    {Good Bad : Token → Type 0} {reply : Token → Made} {t : Token} {ts : List Token} → Bad t
    → Search Good Bad reply (t ∷ ts) (some (reply t))
search_here {ts} b = found [] ts refl (λ u o. absurd (one_of_none u o)) b

search_on :
    {Good Bad : Token → Type 0} {reply : Token → Made} {t : Token} {ts : List Token} {o : Option Made} → Good t → Search Good Bad reply ts o
    → Search Good Bad reply (t ∷ ts) o
search_on {t} g (found before after e f b) = found (t ∷ before) after (ap (λ us. t ∷ us) e) (first_good g f) b
search_on g (not_found f) = not_found (first_good g f)

-- The names of a tree: the first that is used and never defined, and the first definition that leads round.
module _ (x : Text) where
  abbrev Undefined : Token → Type 0
  Undefined u = definition_leads x 0 u.spelled ≡ to_nothing

  abbrev Leads : Token → Type 0
  Leads u = (k : ℕ) × (n : ℕ) × (follow x n (to_name u.spelled) ≡ some k)

  abbrev Round : Token → Type 0
  Round u = follow x (definition_count x) (to_name u.spelled) ≡ none

  abbrev FirstUndefined : List Token → Option Made → Type 0
  FirstUndefined = Search (λ u. Undefined u → ⊥) Undefined (λ u. refused kind.NeverDefined u.at)

  abbrev FirstRound : List Token → Option Made → Type 0
  FirstRound = Search Leads Round (λ u. refused kind.LeadsRound u.at)

  undefined_search : (ts : List Token) → FirstUndefined ts (undefined x ts)
  unfolding undefined
  undefined_search [] = search_none
  undefined_search (t ∷ ts) = go (definition_leads x 0 t.spelled) refl (undefined_search ts)
    where
      go :
          (l : Lead) → definition_leads x 0 t.spelled ≡ l → FirstUndefined ts (undefined x ts)
          → FirstUndefined (t ∷ ts)
          (elim (leads_nowhere l) as (λ b. Option Made) [ true ↦ some (refused kind.NeverDefined t.at) | false ↦ undefined x ts ])
      go (to_node k) e S = search_on (λ d. let z : ◌≡◌ {A = ℕ} 0 1 = cc in absurd (omega arith)) S
      go (to_name w) e S = search_on (λ d. let z : ◌≡◌ {A = ℕ} 0 1 = cc in absurd (omega arith)) S
      go to_nothing e S = search_here e

  rounds_search : (ts : List Token) → FirstRound ts (rounds x ts)
  unfolding rounds
  rounds_search [] = search_none
  rounds_search (t ∷ ts) = go (follow x (definition_count x) (to_name t.spelled)) refl (rounds_search ts)
    where
      go :
          (o : Option ℕ) → follow x (definition_count x) (to_name t.spelled) ≡ o → FirstRound ts (rounds x ts)
          → FirstRound (t ∷ ts) (elim o as (λ o. Option Made) [ none ↦ some (refused kind.LeadsRound t.at) | some k ↦ rounds x ts ])
      go none e S = search_here e
      go (some k) e S = search_on (k, definition_count x, e) S

-- The stages of the names.
module _ {s : List ℕ} {x : Text} (short : length s ≤ text_most) (w : Writes s x) (c : Clear unseen (tokens s)) where
  abbrev AllDefined : Type 0
  AllDefined = (u : Token) → OneOf u (used_names x) → Undefined x u → ⊥

  abbrev AllLead : Type 0
  AllLead = (u : Token) → OneOf u (defined_names x) → Leads x u

  all_defined : {o : Option Made} → FirstUndefined x (used_names x) o → Stage s AllDefined o
  all_defined (found before after {t} e f b) = replied (reads_undefined short w c before after t e f b)
  all_defined (not_found f) = passed f

  all_lead : {o : Option Made} → AllDefined → FirstRound x (defined_names x) o → Stage s AllLead o
  all_lead d (found before after {t} e f b) = replied (reads_round short w c d before after t e f b)
  all_lead d (not_found f) = passed f

  reads_named : Reads s (named x)
  unfolding named
  reads_named =
      stage_then (all_defined (undefined_search x (used_names x))) (λ d.
      stage_then (all_lead d (rounds_search x (defined_names x))) (reads_table short w c d))

-- All the stages.
module _ {s : List ℕ} (short : length s ≤ text_most) where
  reads_judged : {g : Got Text} → TextAt start (tokens s) g → Reads s (judged (length s) (tokens s) g)
  unfolding judged
  reads_judged (stops {rest} p h) =
      stage_then (walked short (length (tokens s) - length rest) (reached_start s) p (omega (arith, passes_shorter p))) (λ (z, R).
      stopped short R h)
  reads_judged (reads p l (e, q)) =
      stage_then (walked short (length (tokens s)) (reached_start s) (rw e at p) (omega arith)) (λ (z, R).
      reads_named short (record { written = sym q }) (reached_text R).1)

-- "1 first": no other refusal goes before it.
none_before_long : (m q : ℕ) → unexpected ≤ m → GoesFirst m q text_too_long 0 → ⊥
unfolding group
none_before_long m q l g = go (dec_lt name_twice m) g
  where
    go : Dec (name_twice < m) → GoesFirst m q text_too_long 0 → ⊥
    go (yes k) (inl h) = omega (arith, group_late m k)
    go (yes k) (inr (e, h)) = omega (arith, group_late m k)
    go (no k) (inl h) = omega (arith, group_middle m l (omega arith))
    go (no k) (inr (e, h)) = omega (arith, group_middle m l (omega arith))

pub reads_long : {s : List ℕ} → text_most < length s → Reads s (refused kind.TextTooLong 0)
reads_long {s} l = refuses {k = kind.TextTooLong} (long_text l) none_first
  where
    none_first : (m q : ℕ) → Fault s m q → GoesFirst m q text_too_long 0 → ⊥
    none_first m q (long_text k) g = goes_first_irreflexive m q g
    none_first m q (no_text_has S c f) g = none_before_long m q (omega arith) g
    none_first m q (none_may_end c f) g = none_before_long m q (omega arith) g
    none_first m q (at_token S f) g = none_before_long m q (omega (arith, (token_numbers f).0)) g
    none_first m q (undefined_name w u e) g = none_before_long m q (omega arith) g
    none_first m q (round_name w u e) g = none_before_long m q (omega arith) g

pub reads_reading : (s : List ℕ) → Reads s (reading s)
unfolding reading
reads_reading s = go (ltb text_most (length s)) refl
  where
    go :
        (b : Bool) → ltb text_most (length s) ≡ b
        → Reads s
        (elim b as (λ b. Made) [
          | true ↦ refused kind.TextTooLong 0
          | false ↦ judged (length s) (tokens s) (text_from (suc (length (tokens s))) (tokens s))
        ])
    go true e = reads_long (ltb-true _ _ e)
    go false e = reads_judged (ltb-false _ _ e) (text_outcome (tokens s))

-- So a reply exists, and it is one.
pub reading_exactly : (s : List ℕ) (m : Made) → Reads s m ↔ (m ≡ reading s)
reading_exactly s m = (λ r. one_reading r (reads_reading s), λ e. rw e (reads_reading s))

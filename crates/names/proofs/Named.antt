-- What the names of a text that has been read come to: it is refused at the first use that names no definition, then at the first definition
-- that leads to no node; else its names have been followed, and its table is made.
-- Assumes nothing.
use mathlib.Core.List.{List, ◌∷◌, ◌++◌, append_assoc}
use mathlib.Core.Option.{Option, none, some, none-ne-some}
use mathlib.Core.Path.{◌≡◌, refl, sym, ap, ◌∙◌}
use Prim.Native.Nat.{ℕ, zero, suc, ◌*◌, ◌<◌, ◌≤◌}
use native.Mathlib.Omega.{arith}
use borrow.Author.Tests.{leb-true, leb-false}
use lib.Dec.{leb}
use lib.ListN.{length, get_or, take, drop, replicate, length-append}
use lib.Seq.{split_at, length-take-le}
use Rattle.rules.specs.Numbers.{definitions_most}
use Rattle.rules.specs.Tokens.{Token}
use Rattle.rules.specs.Notation.{Text, last_definition, definition}
use Rattle.rules.specs.Numbering.{Lead, to_name, to_nothing, lead, definition_leads, definition_count, follow, or_zero, link, start_type, table_of}
use Rattle.rules.specs.Refusals.{OneOf, used_names, defined_names}
use Rattle.rules.specs.Replies.{Reads, made, refused}
use Rattle.rules.proofs.Basics.{FirstAt, first_found}
use Rattle.rules.proofs.Names.{follow_more}
use Rattle.rules.proofs.NamedReading.{reads_undefined, reads_round, reads_table}
use Rattle.std.specs.Prelude as std
use Rattle.std.specs.Prelude.{Some, None}
use Rattle.words.proofs.Found.{some_found, none_found}
use Rattle.flat.specs.Flat.{row, a_use, word_found, Parsed, Resolved}
use Rattle.names.specs.Following.{use_word, owner, leads, OwnersFound, EndsFound, Followable}
use Rattle.names.proofs.Uses.{uses_count}
use Rattle.names.proofs.Definitions.{Row, the_last, the_first, AnyRow, named_row}
use Rattle.names.proofs.Distinct.{own_leads}
use Rattle.names.proofs.Leading.{no_token, Agree, use_at, row_place, found_leads, found_row, found_nowhere, found_somewhere, leads_follow, followable}
use Rattle.table.specs.declared.answers.RefusalKind.TheVariants as kind

-- an area of zeros holds numbers of definitions
pub zeros_within : (m i : ℕ) → get_or (replicate m 0) i 0 < definitions_most
zeros_within zero i = omega arith
zeros_within (suc m) zero = omega arith
zeros_within (suc m) (suc i) = zeros_within m i

-- a token before another in a list
earlier :
    {ts : List Token} {v : Token} (before after : List Token) (t : Token) → ts ≡ before ++ (t ∷ after) → (o : OneOf v before)
    → (ts ≡ o.before ++ (v ∷ (o.after ++ (t ∷ after)))) × (length o.before < length before)
earlier {v} before after t e o = (
  e ∙ ap (λ (l : List Token). l ++ (t ∷ after)) o.split ∙ append_assoc o.before (v ∷ o.after) (t ∷ after),
  omega (arith, ap length o.split, length-append o.before (v ∷ o.after)),
)

names_count : (t : Text) → length (defined_names t) ≡ definition_count t
names_count (last_definition w x) = refl
names_count (definition w x ds) = ap suc (names_count ds)

-- the first definition, which gives the start
start_row : (t : Text) → (w : Token) × Row t 0 0 0 w (start_type t) 0 0
start_row (last_definition w x) = (w, the_last)
start_row (definition w x ds) = (w, the_first)

some_definition : (t : Text) → 0 < definition_count t
some_definition (last_definition w x) = omega arith
some_definition (definition w x ds) = omega arith

-- what a name gets to, the lead of its definition does
follow_on : (t : Text) (f : ℕ) (w : List ℕ) (k : ℕ) → follow t f (to_name w) ≡ some k → follow t f (definition_leads t 0 w) ≡ some k
unfolding follow
follow_on t zero w k e = absurd (none-ne-some k e)
follow_on t (suc f) w k e = follow_more t f (suc f) (definition_leads t 0 w) k (omega arith) e

-- where a number below 64 agrees with what is got to, it is the node's; 64 agrees with nothing
agree_some : (o : Option ℕ) (m : ℕ) → Agree o m → m < a_use → o ≡ some m
agree_some none m h l = absurd (omega arith)
agree_some (some k) m h l = ap some h.0

agree_none : (o : Option ℕ) (m : ℕ) → Agree o m → a_use ≤ m → o ≡ none
agree_none none m h l = refl
agree_none (some k) m h l = absurd (omega arith)

module _ {s a b d : List ℕ} {n nodes uses : ℕ} {x : Text} (P : Parsed s a b d n nodes uses x) {before owners : List ℕ} {r : std.Option ℕ} (O : OwnersFound s b uses d n before owners r) where
  abbrev u : ℕ
  u = O.reached

  owners_first : FirstAt uses (λ i. leb n (owner s d n b i)) u
  owners_first = rw O.written.answer (first_found uses (λ i. leb n (owner s d n b i)))

  counted : (l : Lead) (k : ℕ) → follow x n l ≡ some k → follow x (definition_count x) l ≡ some k
  counted l k e = rw (← P.definitions) e

  -- a use before u names a definition
  use_defined :
      (done rest : List Token) (w : Token) → used_names x ≡ done ++ (w ∷ rest) → length done < u → definition_leads x 0 w.spelled ≡ to_nothing → ⊥
  use_defined done rest w e l =
      let U = use_at P done rest w e in
      let k = leb-false n (owner s d n b (length done)) (owners_first.before (length done) l) in
      found_somewhere P w.spelled (rw U.word at k)

  undefined_at :
      (done rest : List Token) (w : Token) → used_names x ≡ done ++ (w ∷ rest) → length done ≡ u → u < uses → Reads s (refused kind.NeverDefined (get_or b u 0))
  undefined_at done rest w e k l =
      let U = rw k at (use_at P done rest w e) in
      let q = found_nowhere P (use_word s b u) (leb-true n (owner s d n b u) (owners_first.here l)) in
      rw U.place
      (reads_undefined P.short P.writes P.clear done rest w e
      (λ v o. let (f, m) = earlier done rest w e o in use_defined o.before (o.after ++ (w ∷ rest)) v f (omega arith)) (rw U.word at q))

  undefined : u < uses → Reads s (refused kind.NeverDefined (get_or b u 0))
  undefined l =
      let ts = used_names x in
      let m : u < length ts = omega (arith, P.use_count, uses_count x 0) in
      undefined_at (take u ts) (drop (suc u) ts) (get_or ts u no_token) (split_at ts u no_token m) (length-take-le u ts (omega arith)) l

  -- 8: use i names no definition
  pub named_undefined : (i : ℕ) → r ≡ Some i → Reads s (refused kind.NeverDefined (get_or b i 0))
  named_undefined i e = let (q, l) = some_found uses u i (sym O.answered ∙ e) in rw q (undefined l)

  -- each use names a definition
  module _ (none_left : r ≡ None) where
    last : uses ≤ u
    last = none_found uses u (sym O.answered ∙ none_left)

    all_owned : (i : ℕ) → i < uses → (get_or owners i 0 ≡ owner s d n b i) × (owner s d n b i < n)
    all_owned i l = (
      O.written.holds i (omega (arith, last)),
      leb-false n (owner s d n b i) (owners_first.before i (omega (arith, last))),
    )

    defined : (v : Token) → OneOf v (used_names x) → definition_leads x 0 v.spelled ≡ to_nothing → ⊥
    defined v o = use_defined o.before o.after v o.split (omega (arith, last, (use_at P o.before o.after v o.split).below))

    -- so the definitions may be followed
    pub named_followable : Followable d owners n
    named_followable = followable P owners all_owned

    module _ {blank ends : List ℕ} {r' : std.Option ℕ} (E : EndsFound d owners n blank ends r') where
      abbrev e : ℕ
      e = E.reached

      ends_first : FirstAt n (λ i. leb a_use (leads d owners n i)) e
      ends_first = rw E.written.answer (first_found n (λ i. leb a_use (leads d owners n i)))

      -- a definition before e leads to a node
      gets_to : (i : ℕ) (R : AnyRow x 0 0 i) → i < e → follow x n (to_name R.word.spelled) ≡ some (leads d owners n i)
      gets_to i R l =
          agree_some (follow x n (to_name R.word.spelled)) (leads d owners n i) (leads_follow P owners all_owned n i R)
          (leb-false a_use (leads d owners n i) (ends_first.before i l))

      name_gets_to :
          (done rest : List Token) (v : Token) → defined_names x ≡ done ++ (v ∷ rest) → length done < e
          → (k : ℕ) × (m : ℕ) × (follow x m (to_name v.spelled) ≡ some k)
      name_gets_to done rest v q l =
          let (y, j, m, R) = named_row x 0 0 done rest v q in
          let A : AnyRow x 0 0 (length done) = record { word = v; type = y; node = j; use_number = m; row_of = R } in
          (leads d owners n (length done), n, gets_to (length done) A l)

      round_at :
          (done rest : List Token) (v : Token) → defined_names x ≡ done ++ (v ∷ rest) → length done ≡ e → e < n
          → Reads s (refused kind.LeadsRound (get_or d (e * row) 0))
      round_at done rest v q k l =
          let (y, j, m, R) = named_row x 0 0 done rest v q in
          let S = rw k at R in
          let A : AnyRow x 0 0 e = record { word = v; type = y; node = j; use_number = m; row_of = S } in
          let f : follow x n (to_name v.spelled) ≡ none =
          agree_none (follow x n (to_name v.spelled)) (leads d owners n e) (leads_follow P owners all_owned n e A)
          (leb-true a_use (leads d owners n e) (ends_first.here l)) in
          rw (row_place P S)
          (reads_round P.short P.writes P.clear defined done rest v q
          (λ w o. let (g, h) = earlier done rest v q o in name_gets_to o.before (o.after ++ (v ∷ rest)) w g (omega arith)) (rw P.definitions at f))

      round : e < n → Reads s (refused kind.LeadsRound (get_or d (e * row) 0))
      round l =
          let ts = defined_names x in
          let m : e < length ts = omega (arith, P.definitions, names_count x) in
          round_at (take e ts) (drop (suc e) ts) (get_or ts e no_token) (split_at ts e no_token m) (length-take-le e ts (omega arith)) l

      -- 9: definition i leads to no node
      pub named_round : (i : ℕ) → r' ≡ Some i → Reads s (refused kind.LeadsRound (get_or d (i * row) 0))
      named_round i q = let (z, l) = some_found n e i (sym E.answered ∙ q) in rw z (round l)

      -- else the names have been followed
      module _ (none_round : r' ≡ None) where
        all : n ≤ e
        all = none_found n e (sym E.answered ∙ none_round)

        use_ends :
            (done rest : List Token) (w : Token) → used_names x ≡ done ++ (w ∷ rest)
            → get_or ends (get_or owners (length done) 0) 0 ≡ or_zero (follow x (definition_count x) (to_name w.spelled))
        use_ends done rest w q =
            let U = use_at P done rest w q in
            let (p, l) = all_owned (length done) U.below in
            let k : word_found s d n w.spelled < n = rw U.word at l in
            let R = found_row P w.spelled k in
            let i : ℕ = word_found s d n w.spelled in
            let f = rw (found_leads P w.spelled R.row_of).0 at (gets_to i R (omega (arith, all))) in
            ap (λ k. get_or ends k 0) (p ∙ ap (word_found s d n) U.word) ∙ E.written.holds i (omega (arith, all))
            ∙ sym (ap or_zero (counted (to_name w.spelled) (leads d owners n i) f))

        start_ends : get_or ends 0 0 ≡ link x (start_type x) 0
        unfolding link
        start_ends =
            let (w, R) = start_row x in
            let A : AnyRow x 0 0 0 = record { word = w; type = start_type x; node = 0; use_number = 0; row_of = R } in
            let l : 0 < n = omega (arith, P.definitions, some_definition x) in
            let f = follow_on x n w.spelled (leads d owners n 0) (gets_to 0 A (omega (arith, all))) in
            let g : follow x n (lead (start_type x) 0) ≡ some (leads d owners n 0) = rw (own_leads P.writes P.clear R) at f in
            E.written.holds 0 (omega (arith, all)) ∙ sym (ap or_zero (counted (lead (start_type x) 0) (leads d owners n 0) g))

        pub named_resolved : ((i : ℕ) → get_or before i 0 < definitions_most) → Resolved x owners ends
        named_resolved h = record { within = O.written.within definitions_most P.few_definitions h; each = use_ends; first = start_ends }

        pub named_table : Reads s (made (table_of x))
        named_table =
            reads_table P.short P.writes P.clear defined (λ v o.
            name_gets_to o.before o.after v o.split
            (omega (arith, all, P.definitions, names_count x, ap length o.split, length-append o.before (v ∷ o.after))))

-- Where the names of a text lead, told by its areas: what the owner of a use is, and what a definition leads to.
-- Assumes nothing.
use mathlib.Core.Bool.{Bool, true}
use mathlib.Core.List.{List, [], ◌∷◌, ◌++◌}
use mathlib.Core.Option.{Option, none, some}
use mathlib.Core.Path.{◌≡◌, refl, sym, ap, ◌∙◌}
use Prim.Native.Nat.{ℕ, zero, suc, ◌+◌, ◌-◌, ◌*◌, ◌<◌, ◌≤◌}
use native.Mathlib.Nat.{zero-add}
use native.Mathlib.Omega.{arith}
use lib.ListN.{length, get_or, take, drop, length-append}
use lib.Seq.{split_at, length-take-le}
use Rattle.rules.specs.Basics.{part, same}
use Rattle.rules.specs.Numbers.{text_most}
use Rattle.rules.specs.Tokens.{Token}
use Rattle.rules.specs.Notation.{Ty, name, Text}
use Rattle.rules.specs.Numbering.{behind, to_node, to_name, to_nothing, lead, definition_leads, follow}
use Rattle.rules.specs.Refusals.{used_names}
use Rattle.rules.proofs.Basics.{FirstAt, first_found, same_true}
use Rattle.rules.proofs.Links.{Each}
use Rattle.flat.specs.Flat.{row, raw, a_use, word_found, Parsed}
use Rattle.names.specs.Following.{use_word, owner, link_at, leads, Followable}
use Rattle.names.proofs.Spelling.{IsWord, used_words, defined_words}
use Rattle.names.proofs.Uses.{Numbered, numbered_at, numbered_of, uses_count, PlaceOf, text_places}
use Rattle.names.proofs.Definitions.{Row, AnyRow, row_at, row_below, row_numbers, row_nodes, row_use, row_each, AtOnce, its_node, a_name, leads_to, leads_somewhere, NotBefore, leads_as, leads_nowhere}
use Rattle.names.proofs.Distinct.{own_leads}
use Rattle.names.proofs.Loops.{leads_here, leads_on}

each_at : (P : Token → Type 0) (before after : List Token) (t : Token) → Each P (before ++ (t ∷ after)) → P t
each_at P [] after t h = h.0
each_at P (d ∷ before) after t h = each_at P before after t h.1

abbrev pub no_token : Token
no_token = record { at = 0; spelled = [] }

follow_node : (t : Text) (n k : ℕ) → follow t n (to_node k) ≡ some k
unfolding follow
follow_node t zero k = refl
follow_node t (suc n) k = refl

-- a number agrees with what is got to: it is the node's, or 64 where none is
abbrev pub Agree : Option ℕ → ℕ → Type 0
Agree none m = m ≡ a_use
Agree (some k) m = (k ≡ m) × (m < a_use)

module _ {s a b d : List ℕ} {n nodes uses : ℕ} {x : Text} (P : Parsed s a b d n nodes uses x) where
  -- use u is the name w
  pub record UseOf (u : ℕ) (w : Token) : Type 0 where
    pub below : u < uses
    pub place : get_or b u 0 ≡ w.at
    pub inside : get_or b u 0 < length s
    pub word : use_word s b u ≡ w.spelled

  pub use_at : (before after : List Token) (w : Token) → used_names x ≡ before ++ (w ∷ after) → UseOf (length before) w
  use_at before after w e =
      let p = numbered_at (PlaceOf a b) 0 before after w (rw e at (text_places a b x 0 0 P.stored)) in
      let q : get_or b (length before) 0 ≡ w.at = rw zero-add at p in
      let W = each_at (IsWord s) before after w (rw e at (used_words P.writes)) in
      record {
        below = omega (arith, P.use_count, uses_count x 0, ap length e, length-append before (w ∷ after));
        place = q;
        inside = rw q W.inside;
        word = rw q (sym W.whole);
      }

  -- the uses stand in the text
  pub use_inside : (u : ℕ) → u < uses → get_or b u 0 < length s
  use_inside u l =
      let ts = used_names x in
      let e = split_at ts u no_token (omega (arith, P.use_count, uses_count x 0)) in
      let k : length (take u ts) ≡ u = length-take-le u ts (omega (arith, P.use_count, uses_count x 0)) in
      rw k at (use_at (take u ts) (drop (suc u) ts) (get_or ts u no_token) e).inside

  numbered_uses : Numbered UseOf 0 (used_names x)
  numbered_uses = numbered_of UseOf 0 (used_names x) (λ before after w e. rw zero-add (use_at before after w e))

  -- what stands in a definition's row
  module _ {i : ℕ} {v : Token} {y : Ty} {j m : ℕ} (R : Row x 0 0 i v y j m) where
    pub row_place : get_or d (i * row) 0 ≡ v.at
    row_place = let z : 0 + i * row ≡ i * row = omega arith in rw z at (row_numbers d 0 R P.rows).0

    row_word : part s (get_or d (i * row) 0) (get_or d (i * row + 1) 0) ≡ v.spelled
    row_word =
        let z : 0 + i * row ≡ i * row = omega arith in
        let (p, q, r) = row_numbers d 0 R P.rows in
        let W = row_each (IsWord s) R (defined_words P.writes) in
        rw (rw z at p, rw z at q) (sym W.is_part)

    row_link : link_at d i ≡ raw y j m
    row_link = let z : 0 + i * row ≡ i * row = omega arith in rw z at (row_numbers d 0 R P.rows).2

    row_few : i < n
    row_few = rw P.definitions (row_below R)

    row_node : j < behind y j → j < a_use
    row_node l = omega (arith, row_nodes R, P.node_count, P.few_nodes)

  -- the definitions stand in the text
  pub definition_inside : (i : ℕ) → i < n → get_or d (i * row) 0 < length s
  definition_inside i l =
      let R = row_at x 0 0 i (omega (arith, P.definitions)) in
      rw (row_place R.row_of) (row_each (IsWord s) R.row_of (defined_words P.writes)).inside

  -- The definition that a word names is the first of that name.
  module _ (w : List ℕ) where
    is_row : ℕ → Bool
    is_row i = same (part s (get_or d (i * row) 0) (get_or d (i * row + 1) 0)) w

    found : FirstAt n is_row (word_found s d n w)
    unfolding word_found is_row
    found = first_found n is_row

    not_before : NotBefore w x 0 0 (word_found s d n w)
    unfolding is_row
    not_before i v y j m R l = rw (← row_word R) (found.before i l)

    pub found_leads :
        {v : Token} {y : Ty} {j m : ℕ} → Row x 0 0 (word_found s d n w) v y j m → (v.spelled ≡ w) × (definition_leads x 0 w ≡ lead y j)
    unfolding is_row
    found_leads {v} R =
        let e : same v.spelled w ≡ true = rw (← row_word R) (found.here (row_few R)) in
        (same_true v.spelled w e, leads_as w R not_before e)

    pub found_nowhere : n ≤ word_found s d n w → definition_leads x 0 w ≡ to_nothing
    found_nowhere l = leads_nowhere w x 0 0 (λ i v y j m R k. not_before i v y j m R (omega (arith, P.definitions)))

    -- it is one of the text's
    pub found_row : word_found s d n w < n → AnyRow x 0 0 (word_found s d n w)
    found_row l = row_at x 0 0 (word_found s d n w) (omega (arith, P.definitions))

    pub found_somewhere : word_found s d n w < n → definition_leads x 0 w ≡ to_nothing → ⊥
    found_somewhere l e =
        let R = found_row l in leads_somewhere R.type R.node (sym (found_leads R.row_of).1 ∙ e)

  -- Where each use names a definition, and `owners` holds which:
  module _ (owners : List ℕ) (all : (u : ℕ) → u < uses → (get_or owners u 0 ≡ owner s d n b u) × (owner s d n b u < n)) where
    -- what a definition that is a name goes on to
    module _ {i : ℕ} {v w : Token} {j m : ℕ} (R : Row x 0 0 i v (name w) j m) where
      its_use : UseOf m w
      its_use = row_use UseOf R numbered_uses

      its_owner : get_or owners (link_at d i - a_use) 0 ≡ word_found s d n w.spelled
      its_owner =
          let e : link_at d i - a_use ≡ m = omega (arith, row_link R) in
          rw e ((all m its_use.below).0 ∙ ap (word_found s d n) its_use.word)

      its_found : word_found s d n w.spelled < n
      its_found = rw its_use.word at (all m its_use.below).1

    -- A definition gets to the node that its name gets to: its own,
    node_agrees :
        (f i : ℕ) {v : Token} {y : Ty} {j m : ℕ} → Row x 0 0 i v y j m → raw y j m ≡ j → lead y j ≡ to_node j → j < behind y j
        → Agree (follow x f (lead y j)) (leads d owners (suc f) i)
    node_agrees f i {j} R e q l =
        let k : link_at d i ≡ j = row_link R ∙ e in
        let h : link_at d i < a_use = rw k (row_node R l) in
        rw (q, follow_node x f j, leads_here d owners (suc f) i (omega arith) h, k) (refl, row_node R l)

    -- or that of the definition that it names, through one name less.
    abbrev Agrees : ℕ → ℕ → Type 0
    Agrees f i = (R : AnyRow x 0 0 i) → Agree (follow x f (to_name R.word.spelled)) (leads d owners f i)

    name_agrees :
        (f i : ℕ) {v w : Token} {j m : ℕ} → Row x 0 0 i v (name w) j m → Agrees f (word_found s d n w.spelled)
        → Agree (follow x f (to_name w.spelled)) (leads d owners (suc f) i)
    name_agrees f i {w} R again =
        let S = found_row w.spelled (its_found R) in
        let z : suc f - 1 ≡ f = omega arith in
        let e = leads_on d owners (suc f) i (omega arith) (omega (arith, row_link R)) in
        rw (e, z, its_owner R) (rw (found_leads w.spelled S.row_of).0 at (again S))

    pub leads_follow : (f i : ℕ) → Agrees f i
    unfolding follow leads
    leads_follow zero i R = refl
    leads_follow (suc f) i R =
        rw (own_leads P.writes P.clear R.row_of) (go R (leads_to R.type R.node R.use_number) (λ k. leads_follow f k))
      where
        go :
            (R : AnyRow x 0 0 i) → AtOnce R.type R.node R.use_number → ((k : ℕ) → Agrees f k)
            → Agree (follow x f (lead R.type R.node)) (leads d owners (suc f) i)
        go R (its_node e q l) again = node_agrees f i R.row_of e q l
        go R (a_name w q) again = rw q (name_agrees f i (rw q at R.row_of) (again (word_found s d n w.spelled)))

    -- the links may be followed
    link_few : (i : ℕ) (R : AnyRow x 0 0 i) → AtOnce R.type R.node R.use_number → link_at d i < a_use + text_most
    link_few i R (its_node e q l) = omega (arith, row_link R.row_of, row_node R.row_of l)
    link_few i R (a_name w q) =
        let S = rw q at R.row_of in omega (arith, row_link S, (its_use S).below, P.few_uses)

    link_owned :
        (i : ℕ) (R : AnyRow x 0 0 i) → AtOnce R.type R.node R.use_number → a_use ≤ link_at d i
        → get_or owners (link_at d i - a_use) 0 < n
    link_owned i R (its_node e q l) h = absurd (omega (arith, row_link R.row_of, row_node R.row_of l))
    link_owned i R (a_name w q) h = let S = rw q at R.row_of in rw (its_owner S) (its_found S)

    pub followable : Followable d owners n
    followable =
        record {
          few = P.few_definitions;
          links = λ i l. let R = row_at x 0 0 i (omega (arith, P.definitions)) in link_few i R (leads_to R.type R.node R.use_number);
          owned = λ i l h. let R = row_at x 0 0 i (omega (arith, P.definitions)) in link_owned i R (leads_to R.type R.node R.use_number) h;
        }

-- A text whose tokens are all in order is read by its names: refused at the first name that is used and never defined, then at the first
-- definition that leads round, and else its table is made. And what is known of a text whose table is made.
-- Assumes nothing.
use mathlib.Core.List.{List, [], ◌∷◌, ◌++◌, append_assoc}
use mathlib.Core.Logic.{◌⊎◌, inl, inr}
use mathlib.Core.Option.{Option, none, some, none-ne-some}
use mathlib.Core.Path.{◌≡◌, refl, sym, ap, ◌∙◌}
use Prim.Native.Nat.{ℕ, ◌<◌, ◌≤◌}
use native.Mathlib.Omega.{arith}
use lib.ListN.{length}
use Rattle.rules.specs.Tokens.{Token, tokens}
use Rattle.rules.specs.Notation.{Text, Writes}
use Rattle.rules.specs.Numbers.{text_most}
use Rattle.rules.specs.Numbering.{Lead, to_name, to_nothing, definition_leads, definition_count, follow, table_of}
use Rattle.rules.specs.Refusals.{GoesFirst, group, text_too_long, never_defined, leads_round, unseen, seen_from, seen, used_names, defined_names, OneOf, Fault, long_text, no_text_has, none_may_end, at_token, undefined_name, round_name}
use Rattle.rules.specs.Replies.{Reads, accepts, refuses, made, refused}
use Rattle.rules.specs.computed.Reading.{token_fault}
use Rattle.rules.proofs.Names.{follow_enough}
use Rattle.rules.proofs.NamesInOrder.{first_use, first_defined}
use Rattle.rules.proofs.OneTree.{one_tree}
use Rattle.rules.proofs.Reached.{Clear, clear_at, seen-append}
use Rattle.rules.proofs.Refusals.{token_fault_declared, token_fault-lowest}
use Rattle.rules.proofs.Replies.{made_not_refused}
use Rattle.table.specs.declared.Table.{Table}
use Rattle.table.specs.declared.answers.Made.{Made}
use Rattle.rules.specs.Refusals.{number}
use Rattle.table.specs.declared.answers.RefusalKind.{RefusalKind}
use Rattle.table.specs.declared.answers.RefusalKind.TheVariants as kind

-- the refusals 8 and 9 of a text of the tree x
pub data OfNames (x : Text) : ℕ → ℕ → Type 0 where
  undefined : {t : Token} → OneOf t (used_names x) → definition_leads x 0 t.spelled ≡ to_nothing → OfNames x never_defined t.at
  round : {t : Token} → OneOf t (defined_names x) → ((n : ℕ) → follow x n (to_name t.spelled) ≡ none) → OfNames x leads_round t.at

-- where as many names as there are definitions are too few, any number is
never_leads : (x : Text) (l : Lead) → follow x (definition_count x) l ≡ none → (n : ℕ) → follow x n l ≡ none
never_leads x l e n = go (follow x n l) refl
  where
    go : (o : Option ℕ) → follow x n l ≡ o → o ≡ none
    go none f = refl
    go (some k) f = absurd (none-ne-some k (sym e ∙ follow_enough x n l k f))

module _ {s : List ℕ} {x : Text} (short : length s ≤ text_most) (w : Writes s x) (c : Clear unseen (tokens s)) where
  -- no other refusal applies
  of_names : {n p : ℕ} → Fault s n p → OfNames x n p
  of_names (long_text l) = absurd (omega arith)
  of_names (no_text_has {done} {t} S d f) =
      absurd (f (record { text = s; tree = x; writes = w; more = S.rest; begins = S.split ∙ sym (append_assoc done (t ∷ []) S.rest) }))
  of_names (none_may_end d f) = absurd (f x w)
  of_names (at_token {done} {t} {n} S f) =
      let e = clear_at unseen done S.rest t (rw S.split at c) in
      let (m, g, l) = token_fault-lowest (seen done) t n f in
      absurd (none-ne-some m (sym e ∙ g))
  of_names (undefined_name {t} v u e) = let q = one_tree v w in undefined (rw q at u) (rw q at e)
  of_names (round_name v u e) = let q = one_tree v w in round (rw q at u) (rw q at e)

  pub no_early : (n p : ℕ) → Fault s n p → (never_defined ≡ n) ⊎ (leads_round ≡ n)
  no_early n p f = go (of_names f)
    where
      go : {n p : ℕ} → OfNames x n p → (never_defined ≡ n) ⊎ (leads_round ≡ n)
      go (undefined u e) = inl refl
      go (round u e) = inr refl

  pub reads_undefined :
      (before after : List Token) (t : Token) → used_names x ≡ before ++ (t ∷ after)
      → ((u : Token) → OneOf u before → definition_leads x 0 u.spelled ≡ to_nothing → ⊥)
      → definition_leads x 0 t.spelled ≡ to_nothing → Reads s (refused kind.NeverDefined t.at)
  unfolding group
  reads_undefined before after t split none_before e =
      refuses {k = kind.NeverDefined} (undefined_name w (record { before = before; after = after; split = split }) e) (λ m q f g. none_first (of_names f) g)
    where
      none_first : {m q : ℕ} → OfNames x m q → GoesFirst m q never_defined t.at → ⊥
      none_first (undefined {t = u} o d) g =
          elim (first_use w before after t split u o) [
            | inl b ↦ none_before u b d
            | inr l ↦ elim g [ inl h ↦ omega arith | inr (h, inl k) ↦ omega arith | inr (h, inr (k, j)) ↦ omega arith ]
          ]
      none_first (round o d) (inl h) = omega arith
      none_first (round o d) (inr (h, k)) = omega arith

  -- all the names that the text uses are defined
  module _ (defined : (u : Token) → OneOf u (used_names x) → definition_leads x 0 u.spelled ≡ to_nothing → ⊥) where
    pub reads_round :
        (before after : List Token) (t : Token) → defined_names x ≡ before ++ (t ∷ after)
        → ((u : Token) → OneOf u before → (k : ℕ) × (n : ℕ) × (follow x n (to_name u.spelled) ≡ some k))
        → follow x (definition_count x) (to_name t.spelled) ≡ none → Reads s (refused kind.LeadsRound t.at)
    unfolding group
    reads_round before after t split lead_before e =
        refuses {k = kind.LeadsRound} (round_name w (record { before = before; after = after; split = split }) (never_leads x (to_name t.spelled) e))
        (λ m q f g. none_first (of_names f) g)
      where
        none_first : {m q : ℕ} → OfNames x m q → GoesFirst m q leads_round t.at → ⊥
        none_first (undefined {t = u} o d) g = defined u o d
        none_first (round {t = u} o d) g =
            elim (first_defined w before after t split u o) [
              | inl b ↦ let (k, n, f) = lead_before u b in none-ne-some k (sym (d n) ∙ f)
              | inr l ↦ elim g [ inl h ↦ omega arith | inr (h, inl k) ↦ omega arith | inr (h, inr (k, j)) ↦ omega arith ]
            ]

    pub reads_table :
        ((u : Token) → OneOf u (defined_names x) → (k : ℕ) × (n : ℕ) × (follow x n (to_name u.spelled) ≡ some k))
        → Reads s (made (table_of x))
    reads_table lead = accepts w (λ n p f. none_left (of_names f))
      where
        none_left : {n p : ℕ} → OfNames x n p → ⊥
        none_left (undefined {t = u} o d) = defined u o d
        none_left (round {t = u} o d) = let (k, n, f) = lead u o in none-ne-some k (sym (d n) ∙ f)

-- What is known of a text whose table is t.
pub record HasTable (s : List ℕ) (t : Table) : Type 0 where
  pub tree : Text
  pub writes : Writes s tree
  pub table : t ≡ table_of tree
  pub short : length s ≤ text_most
  pub clear : Clear unseen (tokens s)
  pub defined : (u : Token) → OneOf u (used_names tree) → definition_leads tree 0 u.spelled ≡ to_nothing → ⊥
  pub lead : (u : Token) → OneOf u (defined_names tree) → (k : ℕ) × (n : ℕ) × (follow tree n (to_name u.spelled) ≡ some k)

module _ {s : List ℕ} (none_applies : (n p : ℕ) → Fault s n p → ⊥) where
  clear_from : (done rest : List Token) → tokens s ≡ done ++ rest → Clear (seen done) rest
  unfolding seen_from
  clear_from done [] e = tt
  clear_from done (t ∷ rest) e = (
    go (token_fault (seen done) t) refl,
    rw (seen-append unseen done (t ∷ [])) at (clear_from (done ++ (t ∷ [])) rest (e ∙ sym (append_assoc done (t ∷ []) rest))),
  )
    where
      go : (o : Option RefusalKind) → token_fault (seen done) t ≡ o → o ≡ none
      go none f = refl
      go (some n) f =
          absurd
          (none_applies (number n) t.at (at_token {done = done} (record { rest = rest; split = e }) (token_fault_declared (seen done) t n f)))

  short_text : length s ≤ text_most
  short_text = let h : text_most < length s → ⊥ = λ l. none_applies text_too_long 0 (long_text l) in omega arith

  all_lead :
      {x : Text} → Writes s x → (u : Token) → OneOf u (defined_names x)
      → (k : ℕ) × (n : ℕ) × (follow x n (to_name u.spelled) ≡ some k)
  all_lead {x} w u o = go (follow x (definition_count x) (to_name u.spelled)) refl
    where
      go :
          (f : Option ℕ) → follow x (definition_count x) (to_name u.spelled) ≡ f
          → (k : ℕ) × (n : ℕ) × (follow x n (to_name u.spelled) ≡ some k)
      go (some k) e = (k, definition_count x, e)
      go none e = absurd (none_applies leads_round u.at (round_name w o (never_leads x (to_name u.spelled) e)))

pub has_table : {s : List ℕ} {t : Table} → Reads s (made t) → HasTable s t
unfolding seen_from
has_table {s} {t} r = go r refl
  where
    go : {m : Made} → Reads s m → m ≡ made t → HasTable s t
    go (refuses f g) e = absurd (made_not_refused (sym e))
    go (accepts {x} w f) e =
        record {
          tree = x;
          writes = w;
          table = sym (ap (λ (m : Made). m.table) e);
          short = short_text f;
          clear = clear_from f [] (tokens s) refl;
          defined = λ u o d. f never_defined u.at (undefined_name w o d);
          lead = all_lead f w;
        }

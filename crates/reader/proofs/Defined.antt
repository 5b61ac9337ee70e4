-- A definition: its name, `=`, its type, `.`. One law for each answer.
-- Assumes nothing.
use mathlib.Core.List.{List, [], ◌∷◌}
use mathlib.Core.Path.{◌≡◌, refl, ap, ap₂, ◌∙◌}
use Prim.Native.Char.{code}
use Prim.Native.Nat.{ℕ, ◌+◌, ◌*◌, ◌≤◌}
use native.Mathlib.Nat.{zero-add}
use native.Mathlib.Numerals.{add-one}
use native.Mathlib.Omega.{arith}
use lib.ListN.{length, get_or}
use Rattle.rules.specs.Basics.{part, first}
use Rattle.rules.specs.Tokens.{Token, one_byte, symbols}
use Rattle.rules.specs.Notation.{Ty}
use Rattle.rules.specs.Numbers.{text_most}
use Rattle.rules.specs.Numbering.{behind}
use Rattle.rules.specs.Refusals.{a_definition, nothing_new, one_of}
use Rattle.rules.proofs.Machine.{this, a_type, Stack}
use Rattle.rules.proofs.Reached.{Reached}
use Rattle.rules.proofs.OneToken.{counted, next_symbol}
use Rattle.rules.proofs.TokensBehind.{tokens_behind}
use Rattle.cursor.specs.Takes.{Ahead, Takes}
use Rattle.cursor.specs.declared.Cursor.{Cursor}
use Rattle.cursor.specs.declared.Taken.{Taken}
use Rattle.flat.specs.Flat.{row, raw, used, words_of}
use Rattle.flat.proofs.Rows.{row_apart, row_at}
use Rattle.type_reader.specs.Leaves.{Got, Moved, got, Signed, signed, not_signed}
use Rattle.type_reader.specs.Answers.{alone, TypeGot, TypeRead, PastType}
use Rattle.table.specs.declared.answers.Refusal.{Refusal}
use Rattle.std.specs.Prelude.{Ok, Err}
use Rattle.type_reader.proofs.Took.{took_word, took_symbols}
use Rattle.type_reader.proofs.Signs.{Plain, sign-refused, sign-past}
use Rattle.type_reader.proofs.Standing.{signed_counts}
use Rattle.type_reader.proofs.Messages.{refused_type, past_type, acts_self}
use Rattle.type_reader.proofs.LabelSteps.{words_same}
use Rattle.type_reader.proofs.Frames.{holds_more, holds_none}
use Rattle.reader.specs.Defining.{rows_room, Named, stored_definition, Starts, PastDefinition, DefinitionGot, refused, past, DefinitionRead}
use Rattle.reader.proofs.Naming.{NewName, fresh_name, name-refused, behind_name}

equals : Plain (code "=")
unfolding one_of first
equals = record { byte = omega arith; no_opening = refl; no_closing = refl; no_node = refl }

equals_next : next_symbol (one_byte (code "=")) ≡ nothing_new
unfolding one_of first
equals_next = refl

stop : Plain (code ".")
unfolding one_of first
stop = record { byte = omega arith; no_opening = refl; no_closing = refl; no_node = refl }

stop_next : next_symbol (one_byte (code ".")) ≡ a_definition
unfolding one_of first
stop_next = refl

equals_at :
    {s d : List ℕ} {t : Taken} {n : ℕ} {c₁ : Cursor} → Named s d t n (Ok c₁) → {r : Moved} → Signed s c₁ (code "=") r
    → Signed s t.next (code "=") r
equals_at g h = rw (fresh_name g).1 at h

module _ {s : List ℕ} (l : length s ≤ text_most) (a b d : List ℕ) {t : Taken} (n : ℕ) where
  pub definition_told₁ : {no : Refusal} → Named s d t n (Err no) → (a' b' d' : List ℕ) → DefinitionRead s a b d a' b' d' t n (Err no)
  definition_told₁ g a' b' d' = record { told = λ ts J h f r. refused (name-refused l d n h f r g) }

  module _ {c₁ : Cursor} (g₁ : Named s d t n (Ok c₁)) where
    name : NewName s d t n
    name = (fresh_name g₁).0

    abbrev names : List (List ℕ)
    names = part s t.at t.len ∷ words_of s d 0 n

    pub definition_told₂ : {no : Refusal} → Signed s c₁ (code "=") (Err no) → {a' b' d' : List ℕ} → DefinitionRead s a b d a' b' d' t n (Err no)
    definition_told₂ g₂ =
        record { told = λ ts J h f r. refused (sign-refused l t.next.nodes names [] (omega arith) (equals_at g₁ g₂) (behind_name l d n h f r name)) }

    module _ {c₂ : Cursor} (g₂ : Signed s c₁ (code "=") (Ok c₂)) {t₃ : Taken} (k₃ : Takes s c₂ t₃) where
      equals_past : Signed s t.next (code "=") (Ok c₂)
      equals_past = equals_at g₁ g₂

      behind_equals :
          {ts : List Token} {J : Stack} → Ahead s t ts → Starts J ts → Reached s ts J (counted a_definition t.next.nodes (words_of s d 0 n) [])
          → Reached s (tokens_behind s c₂.at) (a_type ∷ this (code ".") ∷ []) (counted nothing_new t₃.next.nodes names [])
          × (symbols (tokens_behind s t.next.at) ≡ one_byte (code "=") ∷ symbols (tokens_behind s c₂.at))
      behind_equals h f r =
          let o = sign-past l t.next.nodes names [] equals equals_past (behind_name l d n h f r name) in
          let z : t₃.next.nodes ≡ t.next.nodes = k₃.nodes ∙ (signed_counts equals_past).0 in
          (rw (z, ← equals_next) o.0, o.1)

      type_told :
          {ts : List Token} {J : Stack} {a₁ b₁ : List ℕ} {r₃ : Got} → TypeRead s a b a₁ b₁ t₃ 0 r₃ → Ahead s t ts → Starts J ts
          → Reached s ts J (counted a_definition t.next.nodes (words_of s d 0 n) [])
          → TypeGot s a b a₁ b₁ t₃ (tokens_behind s c₂.at) (this (code ".") ∷ []) nothing_new names [] r₃
      type_told g₃ h f r =
          g₃.told (tokens_behind s c₂.at) a_type (this (code ".") ∷ []) (this (code ".") ∷ []) nothing_new names [] k₃.ahead
          (acts_self (a_type ∷ this (code ".") ∷ []) (tokens_behind s c₂.at)) (behind_equals h f r).0 alone refl

      pub definition_told₃ :
          {a₁ b₁ : List ℕ} {no : Refusal} → TypeRead s a b a₁ b₁ t₃ 0 (Err no) → (d' : List ℕ) → DefinitionRead s a b d a₁ b₁ d' t n (Err no)
      definition_told₃ g₃ d' = record { told = λ ts J h f r. refused (refused_type (type_told g₃ h f r)) }

      module _ (a₁ b₁ : List ℕ) (link : ℕ) (c₃ : Cursor) (long : length d ≡ rows_room) (d' : List ℕ) (st : d' ≡ stored_definition d n t link) where
        -- the names so far, with this one
        names_next : words_of s d' 0 (n + 1) ≡ names
        names_next =
            let few = name.few in
            let w = row_at d (n * row) t.at t.len link (omega arith) in
            let z = zero-add (n * row) in
            rw (st, add-one n)
            (ap₂ (λ v ws. v ∷ ws)
            (ap₂ (λ p q. part s p q) (ap (λ i. get_or (stored_definition d n t link) i 0) z ∙ w.0) (ap (λ i. get_or (stored_definition d n t link) (i + 1) 0) z ∙ w.1))
            (words_same s d (stored_definition d n t link) 0 n (λ j e f. row_apart d (n * row) t.at t.len link j (λ o. omega arith) (λ o. omega arith) (λ o. omega arith))))

        done :
            {ts : List Token} {J : Stack} {c₄ : Cursor} (h : Ahead s t ts) (f : Starts J ts) (r : Reached s ts J (counted a_definition t.next.nodes (words_of s d 0 n) [])) (x : Ty)
            → PastType s a b a₁ b₁ t₃ (tokens_behind s c₂.at) (this (code ".") ∷ []) nothing_new names [] x link c₃
            → Signed s c₃ (code ".") (Ok c₄)
            → PastDefinition s a b d a₁ b₁ d' t ts n (took_word h name.is_word).token x c₄
        done {ts} {c₄ = c₄} h f r x p g₄ =
            let k = took_word h name.is_word in
            let o = sign-past l c₃.nodes names [] stop g₄ p.reached in
            let n₃ : t₃.next.nodes ≡ t.next.nodes = k₃.nodes ∙ (signed_counts equals_past).0 in
            let u₃ : t₃.next.uses ≡ t.next.uses = k₃.uses ∙ (signed_counts equals_past).1 in
            let few = name.few in
            let w = row_at d (n * row) t.at t.len link (omega arith) in
            record {
              few = few;
              written = cc (took_symbols k, (behind_equals h f r).1, p.written, o.1);
              reached = rw ((signed_counts g₄).0, names_next, ← stop_next) o.0;
              nodes = (signed_counts g₄).0 ∙ p.nodes ∙ ap (λ q. behind x q) n₃;
              uses = (signed_counts g₄).1 ∙ p.uses ∙ ap (λ q. used x q) u₃;
              stored = (rw (n₃, u₃) at p).stored;
              holds =
                  rw (← k.stands, ← k.long, st)
                  (holds_more (n * row) t.at _ w.0
                  (holds_more (n * row + 1) t.len _ w.1
                  (holds_more (n * row + 1 + 1) (raw x t.next.nodes t.next.uses) []
                  (ap (λ i. get_or (stored_definition d n t link) i 0) (omega arith) ∙ w.2 ∙ (rw (n₃, u₃) at p).link) (holds_none _ _))));
              kept = (rw n₃ at p).kept;
              kept_uses = (rw u₃ at p).kept_uses;
              kept_rows = record { each = λ i e. rw st (row_apart d (n * row) t.at t.len link i (λ q. omega arith) (λ q. omega arith) (λ q. omega arith)) };
            }

        ended :
            {ts : List Token} {J : Stack} {r₄ : Moved} (h : Ahead s t ts) (f : Starts J ts) (r : Reached s ts J (counted a_definition t.next.nodes (words_of s d 0 n) [])) (x : Ty)
            → PastType s a b a₁ b₁ t₃ (tokens_behind s c₂.at) (this (code ".") ∷ []) nothing_new names [] x link c₃
            → Signed s c₃ (code ".") r₄ → DefinitionGot s a b d a₁ b₁ d' t ts n r₄
        ended h f r x p (not_signed k e) = refused (sign-refused l c₃.nodes names [] (omega arith) (not_signed k e) p.reached)
        ended h f r x p (signed k e) = past (took_word h name.is_word).token x (done h f r x p (signed k e))

        pub definition_told₄ :
            {r₄ : Moved} → TypeRead s a b a₁ b₁ t₃ 0 (got link c₃) → Signed s c₃ (code ".") r₄ → DefinitionRead s a b d a₁ b₁ d' t n r₄
        definition_told₄ g₃ g₄ = record { told = λ ts J h f r. let p = past_type (type_told g₃ h f r) in ended h f r p.0 p.1 g₄ }

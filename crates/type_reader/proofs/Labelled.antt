-- A label of a choice and its type: one law for each answer of the function that reads them.
-- Assumes nothing.
use mathlib.Core.Bool.{true, false}
use mathlib.Core.List.{List, [], ◌∷◌, ◌++◌}
use mathlib.Core.Logic.{◌⊎◌, inl, inr}
use mathlib.Core.Option.{none}
use mathlib.Core.Path.{◌≡◌, refl, ap, ap₂, ◌∙◌}
use Prim.Native.Char.{code}
use Prim.Native.Nat.{ℕ, suc, ◌+◌, ◌*◌, ◌<◌, ◌≤◌}
use native.Mathlib.Numerals.{add-one}
use native.Mathlib.Omega.{arith}
use borrow.Author.Tests.{lt-leb, le-leb}
use lib.Dec.{leb}
use lib.ListN.{length, get_or}
use Rattle.rules.specs.Basics.{part}
use Rattle.rules.specs.Words.{word_most}
use Rattle.rules.specs.Tokens.{Token, word, one_byte, symbol, symbols, tokens}
use Rattle.rules.specs.Notation.{Ty}
use Rattle.rules.specs.Numbers.{text_most, text_nodes_most, labels_most}
use Rattle.rules.specs.Numbering.{behind}
use Rattle.rules.specs.Refusals.{number, a_label, nothing_new, one_of, among, Seen}
use Rattle.rules.specs.Refusals.{number}
use Rattle.rules.specs.computed.Reading.{token_fault, lowest, if_so}
use Rattle.rules.specs.Replies.{refusal}
use Rattle.rules.proofs.Links.{behind_more}
use Rattle.rules.proofs.Machine.{this, a_type, more_labels, Stack}
use Rattle.rules.proofs.Machine as expect
use Rattle.rules.proofs.Reached.{Reached, Refuses}
use Rattle.rules.proofs.TokenLists.{token_spelling}
use Rattle.rules.proofs.OneToken.{counted, fault_symbol, fault_long}
use Rattle.rules.proofs.TokensBehind.{tokens_behind}
use Rattle.cursor.specs.Takes.{Ahead, Takes, word_kind, kind_of}
use Rattle.cursor.specs.declared.Cursor.{Cursor}
use Rattle.cursor.specs.declared.Taken.{Taken}
use Rattle.cursor.proofs.Symbols.{kind_of_word}
use Rattle.flat.specs.Flat.{room, list_from, row, raw, raw_row, used, words_of, Stored, Kept, KeptBut}
use Rattle.flat.proofs.Rows.{row_apart, row_at}
use Rattle.type_reader.specs.Leaves.{Got, got, Signed, Labelled, no_label, long_label, label_too_many, label_twice, labelled, word_at, stored_label}
use Rattle.type_reader.specs.Answers.{alone, PastType, TypeGot, TypeRead, PastList, LabelRead}
use Rattle.type_reader.specs.Answers as answers
use Rattle.std.specs.Prelude.{Ok, Err}
use Rattle.table.specs.declared.answers.Refusal.{Refusal}
use Rattle.table.specs.declared.answers.RefusalKind.TheVariants as kinds
use Rattle.type_reader.proofs.Took.{Took, took_word, not_here, took_symbols, took_counted, took_fault}
use Rattle.type_reader.proofs.Signs.{sign-refused, sign-past}
use Rattle.type_reader.proofs.Standing.{colon, colon_next, signed_counts}
use Rattle.type_reader.proofs.Messages.{refused_type, past_type, acts_self}
use Rattle.type_reader.proofs.LabelSteps.{among_words, among-no_words, words_long, words_same, label_leads, label-stuck}
use Rattle.type_reader.proofs.Lists.{entry_written}
use Rattle.type_reader.proofs.Frames.{holds_more, holds_one}

-- a token's spelling is the part of the text that it takes
pub spelled_part :
    {s : List ℕ} {t : Taken} {ts : List Token} {K : Stack} {z : Seen} → Reached s ts K z → (k : Took s t ts word)
    → k.token.spelled ≡ part s t.at t.len
spelled_part {s} {t} r k =
    let e : tokens s ≡ r.done ++ (k.token ∷ tokens_behind s t.next.at) = r.split ∙ ap (λ l. r.done ++ l) k.split in
    rw (k.stands, k.long) (token_spelling s r.done (tokens_behind s t.next.at) k.token e).0

-- the limits of a label, none of 3 and 4
label_fault :
    (u : Token) (n : ℕ) (ns es : List (List ℕ)) (bs : List (List (List ℕ))) → symbol u ≡ word u → length u.spelled ≤ word_most
    → token_fault (counted a_label n ns (es ∷ bs)) u
    ≡ lowest false false (leb labels_most (length es)) (if_so (among es u.spelled) kinds.LabelTwice)
unfolding one_of
label_fault u n ns es bs e j = fault_symbol u (word u) e (counted a_label n ns (es ∷ bs)) j

-- a label's row is written
row_kept :
    (a : List ℕ) (node n : ℕ) (t : Taken) (link to m : ℕ) → node * room + list_from + n * row + 2 < to
    → KeptBut a (stored_label a node n t link) (node * room + list_from + n * row) to m
row_kept a node n t link to m l = record { each = go }
  where
    go : (i : ℕ) → i < m → (i < node * room + list_from + n * row) ⊎ (to ≤ i) → get_or (stored_label a node n t link) i 0 ≡ get_or a i 0
    go i p (inl q) = row_apart a (node * room + list_from + n * row) t.at t.len link i (λ e. omega arith) (λ e. omega arith) (λ e. omega arith)
    go i p (inr q) = row_apart a (node * room + list_from + n * row) t.at t.len link i (λ e. omega arith) (λ e. omega arith) (λ e. omega arith)

-- a refusal, wherever the label may stand
refused-label :
    {s a b a' b' : List ℕ} {t : Taken} {deep node n : ℕ} {no : Refusal}
    → ((ts : List Token) (K : Stack) (ns : List (List ℕ)) (bs : List (List (List ℕ))) → Ahead s t ts
    → Reached s ts (expect.a_label ∷ K) (counted a_label t.next.nodes ns (words_of s a (node * room + list_from) n ∷ bs))
    → suc (length bs) ≡ deep → Refuses s (number no.kind) no.place)
    → LabelRead s a b a' b' t deep node n (Err no)
refused-label f =
    record {
      few = λ e. let z : ◌≡◌ {A = ℕ} 0 1 = cc e in absurd (omega arith);
      told = λ ts K ns bs h r q. answers.refused (f ts K ns bs h r q);
    }

-- a label that may stand behind n others
pub record NewLabel (s a : List ℕ) (i : ℕ) (t : Taken) (n : ℕ) : Type 0 where
  pub is_word : kind_of t ≡ word_kind
  pub short : t.len ≤ word_most
  pub few : n < labels_most
  pub new : (j : ℕ) → j < n → word_at s a i j t ≡ false

pub fresh_label : {s a : List ℕ} {i : ℕ} {t : Taken} {n : ℕ} {c : Cursor} → Labelled s a i t n (Ok c) → NewLabel s a i t n × (c ≡ t.next)
fresh_label (labelled e j m f) = (record { is_word = e; short = j; few = m; new = f }, refl)

abbrev labels_here : List ℕ → List ℕ → ℕ → Taken → ℕ → List (List ℕ)
labels_here s a i t n = part s t.at t.len ∷ words_of s a i n

module _ {s : List ℕ} (l : length s ≤ text_most) where
  pub label-refused :
      (a b a' b' : List ℕ) {t : Taken} {deep node n : ℕ} {no : Refusal} → Labelled s a (node * room + list_from) t n (Err no)
      → LabelRead s a b a' b' t deep node n (Err no)
  label-refused a b a' b' {t} (no_label e) =
      refused-label (λ ts K ns bs h r q. not_here h l r (λ u k g. label-stuck K (symbol u) (λ w f. e (h.is ∙ rw (g, f) (kind_of_word w)))))
  label-refused a b a' b' {t} {node = node} {n = n} (long_label e j) =
      refused-label (λ ts K ns bs h r q.
      let k = took_word h e in
      took_fault k {L = this (code ":") ∷ a_type ∷ more_labels ∷ K} l r (label_leads K k.token)
      (fault_long (counted a_label t.next.nodes ns (words_of s a (node * room + list_from) n ∷ bs)) k.token (omega (arith, k.long))))
  label-refused a b a' b' {t} {node = node} {n = n} (label_too_many e j m) =
      refused-label {no = refusal kinds.OneTooMany t.at} (λ ts K ns bs h r q.
      let k = took_word h e in
      let es : List (List ℕ) = words_of s a (node * room + list_from) n in
      took_fault k {L = this (code ":") ∷ a_type ∷ more_labels ∷ K} {n = kinds.OneTooMany} l r (label_leads K k.token)
      (label_fault k.token t.next.nodes ns es bs k.means (omega (arith, k.long))
      ∙ rw (le-leb labels_most (length es) (omega (arith, words_long s a (node * room + list_from) n))) refl))
  label-refused a b a' b' {t} {node = node} {n = n} (label_twice e j m i g f) =
      refused-label {no = refusal kinds.LabelTwice t.at} (λ ts K ns bs h r q.
      let k = took_word h e in
      let es : List (List ℕ) = words_of s a (node * room + list_from) n in
      let y : among es k.token.spelled ≡ true = rw (spelled_part r k) (among_words s a (node * room + list_from) (part s t.at t.len) n i g f) in
      took_fault k {L = this (code ":") ∷ a_type ∷ more_labels ∷ K} {n = kinds.LabelTwice} l r (label_leads K k.token)
      (label_fault k.token t.next.nodes ns es bs k.means (omega (arith, k.long))
      ∙ rw (lt-leb labels_most (length es) (omega (arith, words_long s a (node * room + list_from) n)), y) refl))

  -- behind a new label
  behind_label :
      (a : List ℕ) {t : Taken} (node n : ℕ) (g : NewLabel s a (node * room + list_from) t n) (ts : List Token) (K : Stack) (ns : List (List ℕ))
      (bs : List (List (List ℕ))) → Ahead s t ts
      → Reached s ts (expect.a_label ∷ K) (counted a_label t.next.nodes ns (words_of s a (node * room + list_from) n ∷ bs))
      → Reached s (tokens_behind s t.next.at) (this (code ":") ∷ a_type ∷ more_labels ∷ K)
      (counted nothing_new t.next.nodes ns (labels_here s a (node * room + list_from) t n ∷ bs))
  unfolding one_of
  behind_label a {t} node n g ts K ns bs h r =
      let k = took_word h g.is_word in
      let i : ℕ = node * room + list_from in
      let es : List (List ℕ) = words_of s a i n in
      let w = spelled_part r k in
      let y : among es k.token.spelled ≡ false = rw w (among-no_words s a i (part s t.at t.len) n g.new) in
      let z : token_fault (counted a_label t.next.nodes ns (es ∷ bs)) k.token ≡ none =
      label_fault k.token t.next.nodes ns es bs k.means (omega (arith, k.long, g.short))
      ∙ rw (lt-leb labels_most (length es) (omega (arith, words_long s a i n, g.few)), y) refl in
      let o = took_counted k a_label t.next.nodes ns (es ∷ bs) r (label_leads K k.token) z in
      rw w at o

  module _ (a b : List ℕ) {t : Taken} (deep node n : ℕ) (g : NewLabel s a (node * room + list_from) t n) where
    pub label_colon_refused :
        {a' b' : List ℕ} {no : Refusal} → Signed s t.next (code ":") (Err no) → LabelRead s a b a' b' t deep node n (Err no)
    label_colon_refused k =
        refused-label (λ ts K ns bs h r q.
        sign-refused l t.next.nodes ns (labels_here s a (node * room + list_from) t n ∷ bs) (omega arith) k (behind_label a node n g ts K ns bs h r))

    module _ {c₂ : Cursor} {t₃ : Taken} (k : Signed s t.next (code ":") (Ok c₂)) (k₃ : Takes s c₂ t₃) where
      behind_colon :
          (ts : List Token) (K : Stack) (ns : List (List ℕ)) (bs : List (List (List ℕ))) → Ahead s t ts
          → Reached s ts (expect.a_label ∷ K) (counted a_label t.next.nodes ns (words_of s a (node * room + list_from) n ∷ bs))
          → Reached s (tokens_behind s c₂.at) (a_type ∷ more_labels ∷ K) (counted nothing_new t₃.next.nodes ns (labels_here s a (node * room + list_from) t n ∷ bs))
          × (symbols (tokens_behind s t.next.at) ≡ one_byte (code ":") ∷ symbols (tokens_behind s c₂.at))
      behind_colon ts K ns bs h r =
          let o = sign-past l t.next.nodes ns (labels_here s a (node * room + list_from) t n ∷ bs) colon k (behind_label a node n g ts K ns bs h r) in
          let z : t₃.next.nodes ≡ t.next.nodes = k₃.nodes ∙ (signed_counts k).0 in
          (rw (z, ← colon_next) o.0, o.1)

      label_type_told :
          {a₁ b₁ : List ℕ} {o : Got} (ts : List Token) (K : Stack) (ns : List (List ℕ)) (bs : List (List (List ℕ))) → TypeRead s a b a₁ b₁ t₃ deep o
          → Ahead s t ts → Reached s ts (expect.a_label ∷ K) (counted a_label t.next.nodes ns (words_of s a (node * room + list_from) n ∷ bs))
          → suc (length bs) ≡ deep
          → TypeGot s a b a₁ b₁ t₃ (tokens_behind s c₂.at) (more_labels ∷ K) nothing_new ns (labels_here s a (node * room + list_from) t n ∷ bs) o
      label_type_told ts K ns bs f h r q =
          f.told (tokens_behind s c₂.at) a_type (more_labels ∷ K) (more_labels ∷ K) nothing_new ns
          (labels_here s a (node * room + list_from) t n ∷ bs) k₃.ahead (acts_self (a_type ∷ more_labels ∷ K) (tokens_behind s c₂.at))
          (behind_colon ts K ns bs h r).0 alone q

      pub label_type_refused :
          {a₁ b₁ : List ℕ} {no : Refusal} → TypeRead s a b a₁ b₁ t₃ deep (Err no) → LabelRead s a b a₁ b₁ t deep node n (Err no)
      label_type_refused f = refused-label (λ ts K ns bs h r q. refused_type (label_type_told ts K ns bs f h r q))

      -- the label's row is written
      module _ {a₁ b₁ : List ℕ} {link : ℕ} {c₃ : Cursor} (i : node < t.next.nodes) (few : c₃.nodes ≤ text_nodes_most) (long : length a₁ ≡ text_most)
          (a₂ : List ℕ) (st : a₂ ≡ stored_label a₁ node n t link) where
        row-past :
            {K L : Stack} {ns : List (List ℕ)} {bs bs₁ : List (List (List ℕ))} (u : Token) (x : Ty) → t.at ≡ u.at → t.len ≡ length u.spelled
            → PastType s a b a₁ b₁ t₃ (tokens_behind s c₂.at) L nothing_new ns bs₁ x link c₃
            → Reached s (tokens_behind s c₃.at) K (counted nothing_new c₃.nodes ns bs)
            → PastList s a b a₂ b₁ K ns bs t.next.nodes t.next.uses (behind x t.next.nodes) (used x t.next.uses)
            (node * room + list_from + n * row) (node * room + room) (raw_row u x t.next.nodes t.next.uses [])
            (Stored a₂ b₁ x t.next.nodes t.next.uses) c₃
        row-past u x e f p r =
            let k₀ : ℕ = t.next.nodes in
            let u₀ : ℕ = t.next.uses in
            let from : ℕ = node * room + list_from + n * row in
            let n₃ : t₃.next.nodes ≡ k₀ = k₃.nodes ∙ (signed_counts k).0 in
            let u₃ : t₃.next.uses ≡ u₀ = k₃.uses ∙ (signed_counts k).1 in
            let more = behind_more x k₀ in
            let few₂ : behind x k₀ ≤ text_nodes_most = rw (p.nodes ∙ ap (λ w. behind x w) n₃) at few in
            let lk : link ≡ raw x k₀ u₀ = (rw (n₃, u₃) at p).link in
            let fw = g.few in
            let w = row_at a₁ from t.at t.len link (omega arith) in
            entry_written x (raw_row u x k₀ u₀ []) n₃ u₃ (omega arith) p r
            (rw st (row_kept a₁ node n t link (node * room + room) (behind x k₀ * room) (omega arith)))
            (rw st
            (holds_more from u.at _ (w.0 ∙ e)
            (holds_more (from + 1) (length u.spelled) _ (w.1 ∙ f)
            (holds_one (from + 1 + 1) (raw x k₀ u₀) (ap (λ q. get_or (stored_label a₁ node n t link) q 0) (omega arith) ∙ w.2 ∙ lk)))))

        -- the labels so far, with this one
        words_next :
            {ns : List (List ℕ)} {bs₁ : List (List (List ℕ))} {L : Stack} (x : Ty)
            → PastType s a b a₁ b₁ t₃ (tokens_behind s c₂.at) L nothing_new ns bs₁ x link c₃
            → words_of s a₂ (node * room + list_from) (n + 1) ≡ labels_here s a (node * room + list_from) t n
        words_next x p =
            let from : ℕ = node * room + list_from + n * row in
            let n₃ : t₃.next.nodes ≡ t.next.nodes = k₃.nodes ∙ (signed_counts k).0 in
            let kept : Kept a a₁ (t.next.nodes * room) = (rw n₃ at p).kept in
            let more = behind_more x t.next.nodes in
            let few₂ : behind x t.next.nodes ≤ text_nodes_most = rw (p.nodes ∙ ap (λ w. behind x w) n₃) at few in
            let fw = g.few in
            let w = row_at a₁ (node * room + list_from + n * row) t.at t.len link (omega arith) in
            rw (st, add-one n)
            (ap₂ (λ v ws. v ∷ ws) (ap₂ (λ q o. part s q o) w.0 w.1)
            (words_same s a (stored_label a₁ node n t link) (node * room + list_from) n (λ j e f.
            row_apart a₁ (node * room + list_from + n * row) t.at t.len link j (λ o. omega arith) (λ o. omega arith) (λ o. omega arith) ∙ kept.each j (omega arith))))

        pub label_done : TypeRead s a b a₁ b₁ t₃ deep (got link c₃) → LabelRead s a b a₂ b₁ t deep node n (Ok c₃)
        label_done f =
            record {
              few = λ e. g.few;
              told = λ ts K ns bs h r q.
                  let p = past_type (label_type_told ts K ns bs f h r q) in
                  let u = took_word h g.is_word in
                  answers.past {c = c₃} u.token p.0 (cc (took_symbols u, (behind_colon ts K ns bs h r).1, p.1.written))
                  (row-past u.token p.0 u.stands u.long p.1 (rw (words_next p.0 p.1) p.1.reached));
            }

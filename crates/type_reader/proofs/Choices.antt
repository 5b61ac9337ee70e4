-- A choice: its sign, and its labels in braces. One law for each answer.
-- Assumes nothing.
use mathlib.Core.List.{List, [], ◌∷◌}
use mathlib.Core.Logic.{inl, inr}
use mathlib.Core.Path.{◌≡◌, refl, sym, subst, ◌∙◌}
use Prim.Native.Char.{code}
use Prim.Native.Nat.{ℕ, suc, ◌+◌, ◌*◌, ◌<◌, ◌≤◌}
use native.Mathlib.Nat.{zero-add}
use native.Mathlib.Numerals.{add-one}
use native.Mathlib.Omega.{arith}
use lib.ListN.{length}
use Rattle.rules.specs.Tokens.{Token, one_byte, symbols}
use Rattle.rules.specs.Notation.{Way, choice, Labels, write_labels}
use Rattle.rules.specs.Numbers.{text_most, text_nodes_most, labels_most}
use Rattle.rules.specs.Numbering.{behind_labels}
use Rattle.rules.specs.Refusals.{number, a_label}
use Rattle.rules.proofs.Links.{behind_labels_more}
use Rattle.rules.proofs.Machine as expect
use Rattle.rules.proofs.Machine.{Stack}
use Rattle.rules.proofs.Reached.{Reached, Refuses}
use Rattle.rules.proofs.OneToken.{counted}
use Rattle.rules.proofs.TokensBehind.{tokens_behind}
use Rattle.cursor.specs.Takes.{kind_of}
use Rattle.cursor.specs.declared.Cursor.{Cursor}
use Rattle.cursor.specs.declared.Taken.{Taken}
use Rattle.flat.specs.Flat.{room, list_from, choice_number, raw_labels, labels_long, Holds, Stored, StoredLabels}
use Rattle.type_reader.specs.Leaves.{Got, got, behind_node, Opened, NodeOpened, stored_head}
use Rattle.type_reader.specs.Answers.{PastType, TypeRead, PastLabels, LabelsGot, LabelsRead, choice_byte}
use Rattle.type_reader.specs.Answers as answers
use Rattle.std.specs.Prelude.{Ok, Err}
use Rattle.table.specs.declared.answers.Refusal.{Refusal}
use Rattle.type_reader.proofs.Took.{took_symbols}
use Rattle.type_reader.proofs.Nodes.{Shape, inside_deep, sign_took, node_unopened, behind_bracket}
use Rattle.type_reader.proofs.Messages.{holds_from}
use Rattle.type_reader.proofs.Standing.{Standing, inside, type_read, choice_begins, choice_step, choice_signs, choice_bytes, open_labels, labels_next, opened_counts}
use Rattle.type_reader.proofs.Frames.{Same, same_within, holds_same, holds_two, labels_length, labels_same, head_other, head_kept, head_holds}

-- a choice is kept, if its labels and its head are
choice_kept :
    (a₁ b₁ : List ℕ) (d : Way) (ls : Labels) (k u : ℕ) → k < text_nodes_most → length a₁ ≡ text_most
    → Holds a₁ (k * room + list_from) (raw_labels ls (suc k) u) → labels_long ls ≤ labels_most → StoredLabels a₁ b₁ ls (suc k) u
    → Stored (stored_head a₁ k (choice_number d) (labels_long ls) 0) b₁ (choice d ls) k u
choice_kept a₁ b₁ d ls k u q m list few inner =
    let a₂ : List ℕ = stored_head a₁ k (choice_number d) (labels_long ls) 0 in
    let j = behind_labels_more ls (suc k) in
    let i = labels_length ls (suc k) u in
    let o : Same a₁ a₂ (k * room + list_from) (behind_labels ls (suc k) * room) =
    record { each = λ n f g. head_other a₁ k (choice_number d) (labels_long ls) 0 n (inr f) } in (
      holds_two (head_holds a₁ k (choice_number d) (labels_long ls) 0 (omega arith)),
      holds_same (k * room + list_from) (raw_labels ls (suc k) u) list o (omega arith) (omega arith),
      few,
      labels_same a₁ b₁ a₂ b₁ ls (suc k) u inner (same_within (suc k * room) (behind_labels ls (suc k) * room) o (omega arith) (omega arith))
          (record { each = λ n f g. refl }),
    )

choice_written :
    (a₁ b₁ : List ℕ) (d : Way) (ls : Labels) (k u : ℕ) → k < text_nodes_most → length a₁ ≡ text_most
    → Holds a₁ (k * room + list_from) (raw_labels ls (suc k) u) → labels_long ls ≤ labels_most → StoredLabels a₁ b₁ ls (suc k) u
    → (a₂ : List ℕ) (node n : ℕ) → a₂ ≡ stored_head a₁ node (choice_number d) n 0 → node ≡ k → n ≡ labels_long ls
    → Stored a₂ b₁ (choice d ls) k u
choice_written a₁ b₁ d ls k u q m list few inner a₂ node n st nd e =
    subst (λ (v : List ℕ). Stored v b₁ (choice d ls) k u) (sym (rw (nd, e) at st)) (choice_kept a₁ b₁ d ls k u q m list few inner)

-- an answer, taken apart
pub refused_labels :
    {s a b a' b' : List ℕ} {ts : List Token} {K : Stack} {ns : List (List ℕ)} {bs : List (List (List ℕ))} {k u node n : ℕ} {no : Refusal}
    → LabelsGot s a b a' b' ts K ns bs k u node n (Err no) → Refuses s (number no.kind) no.place
refused_labels (answers.refused r) = r

pub record LabelsRight (s a b a' b' : List ℕ) (ts : List Token) (K : Stack) (ns : List (List ℕ)) (bs : List (List (List ℕ))) (k u node n v : ℕ) (c : Cursor) : Type 0 where
  pub labels : Labels
  pub wrote : symbols ts ≡ write_labels labels (symbols (tokens_behind s c.at))
  pub count : v ≡ n + labels_long labels
  pub few : v ≤ labels_most
  pub right : PastLabels s a b a' b' K ns bs k u node n labels c

pub labels_right :
    {s a b a' b' : List ℕ} {ts : List Token} {K : Stack} {ns : List (List ℕ)} {bs : List (List (List ℕ))} {k u node n v : ℕ} {c : Cursor}
    → LabelsGot s a b a' b' ts K ns bs k u node n (got v c) → LabelsRight s a b a' b' ts K ns bs k u node n v c
labels_right (answers.past ls w q f r) = record { labels = ls; wrote = w; count = q; few = f; right = r }

choice_shape : (d : Way) → Shape (choice_byte d) (code "{") (λ K. expect.a_label ∷ K)
choice_shape d = record { byte = choice_bytes d; node = choice_begins d; bracket = open_labels; leads = choice_step d }

module _ {s : List ℕ} (l : length s ≤ text_most) (d : Way) {t : Taken} (e : kind_of t ≡ choice_byte d) {deep : ℕ} where
  pub choice_unopened : {a b a' b' : List ℕ} {no : Refusal} → NodeOpened s t (code "{") deep (Err no) → TypeRead s a b a' b' t deep (Err no)
  choice_unopened h = node_unopened l (choice_shape d) e h

  module _ (q : t.next.nodes < text_nodes_most) where
    module _ {c₂ : Cursor} (o : Opened s (behind_node t.next) (code "{") deep (Ok c₂)) where
      -- behind the brace
      behind_brace :
          (z : Standing s t deep)
          → Reached s (tokens_behind s c₂.at) (expect.a_label ∷ z.K) (counted a_label c₂.nodes z.ns ([] ∷ inside z))
          × (symbols (tokens_behind s t.next.at) ≡ one_byte (code "{") ∷ symbols (tokens_behind s c₂.at))
      behind_brace z =
          let r = behind_bracket l (choice_shape d) e q o z in
          ((rw labels_next at r).0, r.1)

      labels_told :
          {a b a₁ b₁ : List ℕ} {node : ℕ} {r : Got} (z : Standing s t deep) → LabelsRead s a b a₁ b₁ c₂ (deep + 1) node r
          → LabelsGot s a b a₁ b₁ (tokens_behind s c₂.at) z.K z.ns (inside z) c₂.nodes c₂.uses node 0 r
      labels_told z f =
          f.told z.K z.ns (inside z) (behind_brace z).0 (omega (arith, inside_deep z))

      pub choice_labels_refused :
          {a b a₁ b₁ : List ℕ} {node : ℕ} {no : Refusal} → LabelsRead s a b a₁ b₁ c₂ (deep + 1) node (Err no) → TypeRead s a b a₁ b₁ t deep (Err no)
      choice_labels_refused f = type_read (λ z. answers.refused (refused_labels (labels_told z f)))

      done_choice :
          {a b a₁ b₁ : List ℕ} {node n : ℕ} {c₃ : Cursor} → length a₁ ≡ text_most → node ≡ t.next.nodes → (z : Standing s t deep)
          → (i : LabelsRight s a b a₁ b₁ (tokens_behind s c₂.at) z.K z.ns (inside z) c₂.nodes c₂.uses node 0 n c₃)
          → (a₂ : List ℕ) → a₂ ≡ stored_head a₁ node (choice_number d) n 0
          → PastType s a b a₂ b₁ t z.ts z.K z.nx z.ns z.bs (choice d i.labels) node c₃
      done_choice {a} {b} {a₁} {b₁} {node} {n} m nd z i a₂ st =
          let k₀ : ℕ = t.next.nodes in
          let u₀ : ℕ = t.next.uses in
          let ls : Labels = i.labels in
          let n₂ : c₂.nodes ≡ suc k₀ = (opened_counts o).0 ∙ add-one k₀ in
          let r = (rw (n₂, (opened_counts o).1) at i).right in
          record {
            written = cc (took_symbols (sign_took l (choice_shape d) e z), (behind_brace z).1, i.wrote, choice_signs d);
            reached = r.reached;
            link = nd;
            nodes = r.nodes;
            uses = r.uses;
            stored = choice_written a₁ b₁ d ls k₀ u₀ q m (holds_from (k₀ * room + list_from) r.holds (omega arith))
                (omega (arith, i.few, i.count)) r.stored a₂ node n st nd (i.count ∙ zero-add (labels_long ls));
            kept =
                record {
                  each = λ j f. rw st ((head_kept a₁ node (choice_number d) n 0).each j (omega arith)) ∙ r.kept.each j (omega arith) (inl (omega arith));
                };
            kept_uses = r.kept_uses;
          }

      pub choice_done :
          {a b a₁ b₁ a₂ : List ℕ} {node n : ℕ} {c₃ : Cursor} → length a₁ ≡ text_most → node ≡ t.next.nodes
          → LabelsRead s a b a₁ b₁ c₂ (deep + 1) node (got n c₃) → a₂ ≡ stored_head a₁ node (choice_number d) n 0
          → TypeRead s a b a₂ b₁ t deep (got node c₃)
      choice_done {a₂} m nd f st =
          type_read (λ z. let i = labels_right (labels_told z f) in answers.past (choice d i.labels) (done_choice m nd z i a₂ st))

-- The loop over the labels of a choice: what is answered for the labels still to be read is what is answered for all of them.
-- Assumes nothing.
use mathlib.Core.List.{List, [], ◌∷◌}
use mathlib.Core.Path.{◌≡◌, refl, ◌∙◌}
use Prim.Native.Char.{code}
use Prim.Native.Nat.{ℕ, suc, ◌+◌, ◌*◌, ◌<◌, ◌≤◌}
use native.Mathlib.Omega.{arith}
use lib.ListN.{length}
use Rattle.rules.specs.Tokens.{Token, word, one_byte, symbol, symbols}
use Rattle.rules.specs.Notation.{Ty, last_label, label, sign, write_type}
use Rattle.rules.specs.Numbers.{labels_most}
use Rattle.rules.specs.Numbering.{behind}
use Rattle.rules.specs.Refusals.{number, a_label}
use Rattle.rules.specs.Replies.{refusal}
use Rattle.rules.proofs.Links.{behind_more}
use Rattle.rules.proofs.Machine.{Stack}
use Rattle.rules.proofs.Machine as expect
use Rattle.rules.proofs.Reached.{Reached, Refuses}
use Rattle.rules.proofs.OneToken.{counted}
use Rattle.rules.proofs.TokensBehind.{tokens_behind}
use Rattle.cursor.specs.Takes.{Takes, kind_of}
use Rattle.cursor.specs.declared.Cursor.{Cursor}
use Rattle.cursor.specs.declared.Taken.{Taken}
use Rattle.cursor.proofs.Symbols.{kind_of_byte}
use Rattle.flat.specs.Flat.{room, list_from, raw_row, raw_labels, used, words_of}
use Rattle.type_reader.specs.Leaves.{Got, Moved, got}
use Rattle.type_reader.specs.Answers.{Ready, alone, PastLabel, LabelGot, LabelsGot, LabelRead, LabelsRead}
use Rattle.type_reader.specs.Answers as answers
use Rattle.std.specs.Prelude.{Ok, Err}
use Rattle.table.specs.declared.answers.Refusal.{Refusal}
use Rattle.table.specs.declared.answers.RefusalKind.TheVariants as kinds
use Rattle.type_reader.proofs.Took.{not_here}
use Rattle.type_reader.proofs.ItemSteps.{close_labels}
use Rattle.type_reader.proofs.LabelSteps.{more_closes, more_bar, more_stuck, bar, bar_next}
use Rattle.type_reader.proofs.Lists.{list_closes, mark_taken, entry_then}
use Rattle.type_reader.proofs.Frames.{stored_same, used_more}

-- a label that was read, and what stands behind it
module _ {s a b a₁ b₁ : List ℕ} {K : Stack} {ns : List (List ℕ)} {bs : List (List (List ℕ))} {k u node n : ℕ} (i : node < k) (few : n < labels_most)
    (ts : List Token) (w : Token) (x : Ty) {c : Cursor} (written : symbols ts ≡ word w ∷ sign ":" ∷ write_type x (symbols (tokens_behind s c.at)))
    (p : PastLabel s a b a₁ b₁ K ns bs k u node n w x c) where
  -- `|` and further labels
  label_more :
      {a₂ b₂ : List ℕ} {r : Got} (us : List Token) → symbols (tokens_behind s c.at) ≡ one_byte (code "|") ∷ symbols us
      → LabelsGot s a₁ b₁ a₂ b₂ us K ns bs c.nodes c.uses node (n + 1) r → LabelsGot s a b a₂ b₂ ts K ns bs k u node n r
  label_more us e (answers.refused z) = answers.refused z
  label_more {a₂} {b₂} us e (answers.past {v} {c = c'} ls z count most y) =
      answers.past {v = v} {c = c'} (label w x ls) (cc (written, e, z)) (omega arith) most
      (entry_then (raw_row w x k u []) (raw_labels ls (behind x k) (used x u)) (behind_more x k) (used_more x u) (omega arith) (omega arith) (omega arith) p
      (λ q f h o. (stored_same a₁ b₁ a₂ b₂ x k u q f h, o)) (rw (p.nodes, p.uses) at y))

  -- `}`
  label-last :
      {t : Taken} → Takes s c t → kind_of t ≡ code "}" → LabelsGot s a b a₁ b₁ ts K ns bs k u node n (got (n + 1) t.next)
  label-last {t} j e =
      let g = list_closes j e ns (words_of s a₁ (node * room + list_from) (n + 1)) bs alone p.reached (more_closes K) close_labels in
      answers.past {v = n + 1} {c = t.next} (last_label w x) (cc (written, g.1)) refl (omega arith)
      (record {
        reached = g.0;
        nodes = j.nodes ∙ p.nodes;
        uses = j.uses ∙ p.uses;
        holds = p.holds;
        stored = p.stored;
        kept = p.kept;
        kept_uses = p.kept_uses;
      })

-- an answer, taken apart
refused-label :
    {s a b a' b' : List ℕ} {ts : List Token} {K : Stack} {ns : List (List ℕ)} {bs : List (List (List ℕ))} {k u node n : ℕ} {no : Refusal}
    → LabelGot s a b a' b' ts K ns bs k u node n (Err no) → Refuses s (number no.kind) no.place
refused-label (answers.refused r) = r

record LabelRight (s a b a' b' : List ℕ) (ts : List Token) (K : Stack) (ns : List (List ℕ)) (bs : List (List (List ℕ))) (k u node n : ℕ) (c : Cursor) : Type 0 where
  token : Token
  type : Ty
  written : symbols ts ≡ word token ∷ sign ":" ∷ write_type type (symbols (tokens_behind s c.at))
  right : PastLabel s a b a' b' K ns bs k u node n token type c

label_right :
    {s a b a' b' : List ℕ} {ts : List Token} {K : Stack} {ns : List (List ℕ)} {bs : List (List (List ℕ))} {k u node n : ℕ} {c : Cursor}
    → LabelGot s a b a' b' ts K ns bs k u node n (Ok c) → LabelRight s a b a' b' ts K ns bs k u node n c
label_right (answers.past w x e p) = record { token = w; type = x; written = e; right = p }

-- all that a reader of labels is told of where it begins
pub record Beginning (s : List ℕ) (c : Cursor) (deep : ℕ) : Type 0 where
  pub K : Stack
  pub ns : List (List ℕ)
  pub bs : List (List (List ℕ))
  pub reached : Reached s (tokens_behind s c.at) (expect.a_label ∷ K) (counted a_label c.nodes ns ([] ∷ bs))
  pub depth : suc (length bs) ≡ deep

labels_read :
    {s a b a' b' : List ℕ} {c : Cursor} {deep node : ℕ} {r : Got}
    → ((z : Beginning s c deep) → LabelsGot s a b a' b' (tokens_behind s c.at) z.K z.ns z.bs c.nodes c.uses node 0 r)
    → LabelsRead s a b a' b' c deep node r
labels_read f = record { told = λ K ns bs r q. f (record { K = K; ns = ns; bs = bs; reached = r; depth = q }) }

-- Of the labels from the cursor c₀ on n were read, and a further one is due at the cursor c: whatever those from there on come to, all together
-- come to the same. The areas were a₀ and b₀, and are a and b.
pub record Turning (s a₀ b₀ a b : List ℕ) (deep node : ℕ) (c₀ c : Cursor) (n : ℕ) : Type 0 where
  pub ready : Ready s a b c
  pub onward : c₀.at ≤ c.at
  pub more : c₀.nodes ≤ c.nodes
  pub few : n ≤ labels_most
  pub reached :
      (z : Beginning s c₀ deep)
      → Reached s (tokens_behind s c.at) (expect.a_label ∷ z.K) (counted a_label c.nodes z.ns (words_of s a (node * room + list_from) n ∷ z.bs))
  pub whole :
      (z : Beginning s c₀ deep) (a' b' : List ℕ) (r : Got)
      → LabelsGot s a b a' b' (tokens_behind s c.at) z.K z.ns z.bs c.nodes c.uses node n r
      → LabelsGot s a₀ b₀ a' b' (tokens_behind s c₀.at) z.K z.ns z.bs c₀.nodes c₀.uses node 0 r

pub turn_first : {s a b : List ℕ} {deep node : ℕ} {c : Cursor} → Ready s a b c → Turning s a b a b deep node c c 0
turn_first r =
    record { ready = r; onward = omega arith; more = omega arith; few = omega arith; reached = λ z. z.reached; whole = λ z a' b' o g. g }

-- one turn: the label t is read
module _ {s a₀ b₀ a b a₁ b₁ : List ℕ} {deep node : ℕ} {c₀ c : Cursor} {n : ℕ} (g : Turning s a₀ b₀ a b deep node c₀ c n) {t : Taken} (k : Takes s c t) where
  label_told :
      {r : Moved} → LabelRead s a b a₁ b₁ t deep node n r → (z : Beginning s c₀ deep)
      → LabelGot s a b a₁ b₁ (tokens_behind s c.at) z.K z.ns z.bs c.nodes c.uses node n r
  label_told f z =
      let h = f.told (tokens_behind s c.at) z.K z.ns z.bs k.ahead (rw k.nodes (g.reached z)) z.depth in
      rw (k.nodes, k.uses) at h

  pub turn_refused : {no : Refusal} → LabelRead s a b a₁ b₁ t deep node n (Err no) → LabelsRead s a₀ b₀ a₁ b₁ c₀ deep node (Err no)
  turn_refused {no} f = labels_read (λ z. g.whole z a₁ b₁ (Err no) (answers.refused {no = no} (refused-label (label_told f z))))

  module _ {c₁ : Cursor} (f : LabelRead s a b a₁ b₁ t deep node n (Ok c₁)) (i : node < c₀.nodes) {t₁ : Taken} (k₁ : Takes s c₁ t₁) where
    here :
        (z : Beginning s c₀ deep) → LabelRight s a b a₁ b₁ (tokens_behind s c.at) z.K z.ns z.bs c.nodes c.uses node n c₁
    here z = label_right (label_told f z)

    inside : node < c.nodes
    inside = omega (arith, g.more)

    pub turn_closed : kind_of t₁ ≡ code "}" → LabelsRead s a₀ b₀ a₁ b₁ c₀ deep node (got (n + 1) t₁.next)
    turn_closed q =
        labels_read (λ z.
        let h = here z in
        g.whole z a₁ b₁ (got (n + 1) t₁.next) (label-last inside (f.few refl) (tokens_behind s c.at) h.token h.type h.written h.right k₁ q))

    pub turn_other : (kind_of t₁ ≡ code "}" → ⊥) → (kind_of t₁ ≡ code "|" → ⊥) → LabelsRead s a₀ b₀ a₁ b₁ c₀ deep node (Err (refusal kinds.Unexpected t₁.at))
    turn_other p q =
        labels_read (λ z.
        g.whole z a₁ b₁ (Err (refusal kinds.Unexpected t₁.at))
        (answers.refused
        (not_here k₁.ahead g.ready.short (here z).right.reached (λ u j o.
        more_stuck z.K (symbol u) (λ y. p (k₁.ahead.is ∙ rw (o, y) (kind_of_byte (code "}") (omega arith))))
        (λ y. q (k₁.ahead.is ∙ rw (o, y) (kind_of_byte (code "|") (omega arith))))))))

    module _ (q : kind_of t₁ ≡ code "|") where
      behind_bar :
          (z : Beginning s c₀ deep)
          → Reached s (tokens_behind s t₁.next.at) (expect.a_label ∷ z.K) (counted a_label t₁.next.nodes z.ns (words_of s a₁ (node * room + list_from) (n + 1) ∷ z.bs))
          × (symbols (tokens_behind s c₁.at) ≡ one_byte (code "|") ∷ symbols (tokens_behind s t₁.next.at))
      behind_bar z =
          let o = mark_taken k₁ q z.ns (words_of s a₁ (node * room + list_from) (n + 1) ∷ z.bs) bar (here z).right.reached (more_bar z.K) in
          ((rw bar_next at o).0, o.1)

      pub turn_next : Ready s a₁ b₁ t₁.next → c.at ≤ t₁.next.at → c.nodes ≤ t₁.next.nodes → Turning s a₀ b₀ a₁ b₁ deep node c₀ t₁.next (n + 1)
      turn_next l m o =
          record {
            ready = l;
            onward = omega (arith, g.onward);
            more = omega (arith, g.more);
            few = omega (arith, f.few refl);
            reached = λ z. (behind_bar z).0;
            whole = λ z a' b' y x.
                let h = here z in
                g.whole z a' b' y
                (label_more inside (f.few refl) (tokens_behind s c.at) h.token h.type h.written h.right (tokens_behind s t₁.next.at) (behind_bar z).1 (rw (k₁.nodes, k₁.uses) at x));
          }

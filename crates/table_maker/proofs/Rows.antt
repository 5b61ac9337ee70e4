-- The numbers of every node of a text that has been read are such that a node can be made from them.
-- Assumes nothing.
use mathlib.Core.Bool.{not}
use mathlib.Core.List.{List, [], ◌∷◌}
use mathlib.Core.Logic.{inl, inr}
use mathlib.Core.Path.{◌≡◌}
use mathlib.Mathlib.Data.Bool.Basic.{and_elim_left}
use Prim.Native.Nat.{ℕ, zero, suc, ◌+◌, ◌*◌, ◌<◌, ◌≤◌}
use native.Mathlib.Nat.{add-zero, eq-or-lt_of_le}
use native.Mathlib.Omega.{arith}
use lib.ListN.{length, get_or}
use Rattle.rules.specs.Words.{may_name, is_word, reserved, word_most}
use Rattle.rules.specs.Tokens.{Token}
use Rattle.rules.specs.Notation.{Way, into, out, Ty, ended, name, message, choice, Items, no_items, sort, session, Labels, last_label, label, Text, last_definition, definition}
use Rattle.rules.specs.Numbers.{text_most, text_nodes_most}
use Rattle.rules.specs.Numbering.{behind, behind_items, behind_labels, behind_text}
use Rattle.rules.proofs.Words.{word_facts}
use Rattle.rules.proofs.Fitting.{Named, Fits, FitItems, FitLabels, FitText, text_fit}
use Rattle.rules.proofs.Links.{behind_more, behind_items_more, behind_labels_more, behind_text_more}
use Rattle.flat.specs.Flat.{room, list_from, row, a_session, used, used_items, used_labels, used_text, raw, raw_items, raw_row, raw_labels, sort_number, items_long, labels_long, message_number, choice_number, Holds, Stored, StoredItems, StoredLabels, StoredText, Parsed, Resolved}
use Rattle.table.specs.declared.Sort.{Sort}
use Rattle.table.specs.declared.Sort.TheVariants.{String, Float, Boolean, Void}
use Rattle.table_maker.specs.Making.{kind_number, links_end, LabelOk, RowOk, TableOk}
use Rattle.table_maker.proofs.Held.{held, held_behind}

-- the numbers of the kinds
pub message_some : (d : Way) → 0 < message_number d
message_some into = omega arith
message_some out = omega arith

pub message_below : (d : Way) → message_number d < 3
message_below into = omega arith
message_below out = omega arith

pub choice_above : (d : Way) → 3 ≤ choice_number d
choice_above into = omega arith
choice_above out = omega arith

-- numbers of uses only grow along a text
mutual
  used_more : (x : Ty) (u : ℕ) → u ≤ used x u
  used_more ended u = omega arith
  used_more (name w) u = omega arith
  used_more (message d xs x) u = omega (arith, used_items_more xs u, used_more x (used_items xs u))
  used_more (choice d ls) u = used_labels_more ls u

  used_items_more : (xs : Items) (u : ℕ) → u ≤ used_items xs u
  used_items_more no_items u = omega arith
  used_items_more (sort s xs) u = used_items_more xs u
  used_items_more (session x xs) u = omega (arith, used_more x u, used_items_more xs (used x u))

  used_labels_more : (ls : Labels) (u : ℕ) → u ≤ used_labels ls u
  used_labels_more (last_label w x) u = used_more x u
  used_labels_more (label w x ls) u = omega (arith, used_more x u, used_labels_more ls (used x u))

used_text_more : (t : Text) (u : ℕ) → u ≤ used_text t u
used_text_more (last_definition w x) u = used_more x u
used_text_more (definition w x ds) u = omega (arith, used_more x u, used_text_more ds (used x u))

-- nodes and uses that there is room for, and so a link below what links are below
record Room (k u : ℕ) : Type 0 where
  nodes : k ≤ text_nodes_most
  uses : u ≤ text_most

raw_below : (x : Ty) (k u : ℕ) → Room (behind x k) (used x u) → raw x k u < links_end
raw_below ended k u r = omega (arith, r.nodes)
raw_below (name w) k u r = omega (arith, r.uses)
raw_below (message d xs x) k u r = omega (arith, r.nodes, behind_items_more xs (suc k), behind_more x (behind_items xs (suc k)))
raw_below (choice d ls) k u r = omega (arith, r.nodes, behind_labels_more ls (suc k))

before_items : (xs : Items) (k u : ℕ) → Room (behind_items xs k) (used_items xs u) → Room k u
before_items xs k u r = record { nodes = omega (arith, r.nodes, behind_items_more xs k); uses = omega (arith, r.uses, used_items_more xs u) }

before_labels : (ls : Labels) (k u : ℕ) → Room (behind_labels ls k) (used_labels ls u) → Room k u
before_labels ls k u r = record { nodes = omega (arith, r.nodes, behind_labels_more ls k); uses = omega (arith, r.uses, used_labels_more ls u) }

before_type : (x : Ty) (k u : ℕ) → Room (behind x k) (used x u) → Room k u
before_type x k u r = record { nodes = omega (arith, r.nodes, behind_more x k); uses = omega (arith, r.uses, used_more x u) }

before_text : (t : Text) (k u : ℕ) → Room (behind_text t k) (used_text t u) → Room k u
before_text t k u r = record { nodes = omega (arith, r.nodes, behind_text_more t k); uses = omega (arith, r.uses, used_text_more t u) }

module _ (s a b : List ℕ) where
  -- the items of a message
  sort_below : (v : Sort) → sort_number v < a_session
  sort_below String = omega arith
  sort_below Float = omega arith
  sort_below Boolean = omega arith
  sort_below Void = omega arith

  item_below :
      (xs : Items) (at k u : ℕ) → Room (behind_items xs k) (used_items xs u) → Holds a at (raw_items xs k u)
      → (i : ℕ) → i < items_long xs → get_or a (at + i) 0 < a_session + links_end
  item_below no_items at k u r h i l = absurd (omega arith)
  item_below (sort v xs) at k u r h zero l = rw (add-zero at) (omega (arith, held h, sort_below v))
  item_below (session x xs) at k u r h zero l =
      rw (add-zero at) (omega (arith, held h, raw_below x k u (before_items xs (behind x k) (used x u) r)))
  item_below (sort v xs) at k u r h (suc i) l =
      let e : at + suc i ≡ suc at + i = omega arith in rw e (item_below xs (suc at) k u r (held_behind h) i (omega arith))
  item_below (session x xs) at k u r h (suc i) l =
      let e : at + suc i ≡ suc at + i = omega arith in
      rw e (item_below xs (suc at) (behind x k) (used x u) r (held_behind h) i (omega arith))

  -- the labels of a choice
  word_short : (w : Token) → Named s w → length w.spelled ≤ word_most
  unfolding may_name
  word_short w m = (word_facts (and_elim_left (is_word w.spelled) (not (reserved w.spelled)) m.may)).few_bytes

  label_here :
      (w : Token) (x : Ty) (at k u : ℕ) (ns : List ℕ) → Named s w → Room (behind x k) (used x u) → Holds a at (raw_row w x k u ns) → LabelOk a at
  label_here w x at k u ns m r h =
      record {
        short = omega (arith, h.each 1 (omega arith), word_short w m);
        leads = omega (arith, h.each 2 (omega arith), raw_below x k u r);
      }

  label_ok :
      (ls : Labels) (es : List (List ℕ)) (at k u : ℕ) → FitLabels s ls es → Room (behind_labels ls k) (used_labels ls u)
      → Holds a at (raw_labels ls k u) → (i : ℕ) → i < labels_long ls → LabelOk a (at + i * row)
  label_ok (last_label w x) es at k u f r h zero l = rw (add-zero at) (label_here w x at k u [] f.0.named r h)
  label_ok (last_label w x) es at k u f r h (suc i) l = absurd (omega arith)
  label_ok (label w x ls) es at k u f r h zero l =
      rw (add-zero at)
      (label_here w x at k u (raw_labels ls (behind x k) (used x u)) f.0.named (before_labels ls (behind x k) (used x u) r) h)
  label_ok (label w x ls) es at k u f r h (suc i) l =
      let e : at + suc i * row ≡ suc (suc (suc at)) + i * row = omega arith in
      let rest = held_behind (held_behind (held_behind h)) in
      rw e (label_ok ls (w.spelled ∷ es) (suc (suc (suc at))) (behind x k) (used x u) f.2 r rest i (omega arith))

  -- the three kinds of nodes
  end_ok : (k : ℕ) → kind_number a k ≡ 0 → RowOk a k
  end_ok k e = record { message = λ l m. absurd (omega arith); choice = λ l. absurd (omega arith) }

  message_ok :
      (d : Way) (xs : Items) (x : Ty) (k u : ℕ) → Room (behind (message d xs x) k) (used (message d xs x) u)
      → Stored a b (message d xs x) k u → RowOk a k
  message_ok d xs x k u r S =
      let h = S.0 in
      record {
        message =
            λ l m.
            record {
              items =
                  record {
                    few = omega (arith, h.each 1 (omega arith), S.2);
                    each =
                        λ i n.
                        item_below xs (k * room + list_from) (suc k) u
                        (before_type x (behind_items xs (suc k)) (used_items xs u) r) S.1 i (omega (arith, h.each 1 (omega arith)));
                  };
              goes_on = omega (arith, h.each 2 (omega arith), raw_below x (behind_items xs (suc k)) (used_items xs u) r);
            };
        choice = λ l. absurd (omega (arith, held h, message_below d));
      }

  choice_ok :
      (d : Way) (ls : Labels) (k u : ℕ) → FitLabels s ls [] → Room (behind_labels ls (suc k)) (used_labels ls u)
      → Stored a b (choice d ls) k u → RowOk a k
  choice_ok d ls k u f r S =
      let h = S.0 in
      record {
        message = λ l m. absurd (omega (arith, held h, choice_above d));
        choice =
            λ l.
            record {
              few = omega (arith, h.each 1 (omega arith), S.2);
              each = λ i n. label_ok ls [] (k * room + list_from) (suc k) u f r S.1 i (omega (arith, h.each 1 (omega arith)));
            };
      }

  -- every node from number k on, below e
  data RowsOk : ℕ → ℕ → Type 0 where
    none : {k : ℕ} → RowsOk k k
    one : {k e : ℕ} → RowOk a k → RowsOk (suc k) e → RowsOk k e

  then : {k m e : ℕ} → RowsOk k m → RowsOk m e → RowsOk k e
  then none g = g
  then (one r f) g = one r (then f g)

  row_at : (k e : ℕ) → RowsOk k e → (i : ℕ) → k ≤ i → i < e → RowOk a i
  row_at k e none i l n = absurd (omega arith)
  row_at k e (one r f) i l n = elim (eq-or-lt_of_le l) [ inl p ↦ rw (← p) r | inr p ↦ row_at (suc k) e f i p n ]

  mutual
    type_rows : (x : Ty) (k u : ℕ) → Fits s x → Room (behind x k) (used x u) → Stored a b x k u → RowsOk k (behind x k)
    type_rows ended k u f r S = one (end_ok k (held S)) none
    type_rows (name w) k u f r S = none
    type_rows (message d xs x) k u f r S =
        let j = behind_items xs (suc k) in
        let v = used_items xs u in
        one (message_ok d xs x k u r S)
        (then (items_rows xs 0 (suc k) u f.0 (before_type x j v r) S.3) (type_rows x j v f.1 r S.4))
    type_rows (choice d ls) k u f r S =
        one (choice_ok d ls k u f r S) (labels_rows ls [] (suc k) u f r S.3)

    items_rows :
        (xs : Items) (m k u : ℕ) → FitItems s xs m → Room (behind_items xs k) (used_items xs u) → StoredItems a b xs k u
        → RowsOk k (behind_items xs k)
    items_rows no_items m k u f r S = none
    items_rows (sort v xs) m k u f r S = items_rows xs (suc m) k u f.1 r S
    items_rows (session x xs) m k u f r S =
        let j = behind x k in
        let v = used x u in
        then (type_rows x k u f.1 (before_items xs j v r) S.0) (items_rows xs (suc m) j v f.2 r S.1)

    labels_rows :
        (ls : Labels) (es : List (List ℕ)) (k u : ℕ) → FitLabels s ls es → Room (behind_labels ls k) (used_labels ls u)
        → StoredLabels a b ls k u → RowsOk k (behind_labels ls k)
    labels_rows (last_label w x) es k u f r S = type_rows x k u f.1 r S
    labels_rows (label w x ls) es k u f r S =
        let j = behind x k in
        let v = used x u in
        then (type_rows x k u f.1 (before_labels ls j v r) S.0)
        (labels_rows ls (w.spelled ∷ es) j v f.2 r S.1)

  text_rows : (t : Text) (k u : ℕ) → FitText s t → Room (behind_text t k) (used_text t u) → StoredText a b t k u → RowsOk k (behind_text t k)
  text_rows (last_definition w x) k u f r S = type_rows x k u f r S
  text_rows (definition w x ds) k u f r S =
      let j = behind x k in
      let v = used x u in
      then (type_rows x k u f.0 (before_text ds j v r) S.0) (text_rows ds j v f.1 r S.1)

-- a text that has been read
module _ {s a b d : List ℕ} {n nodes uses : ℕ} {x : Text} (P : Parsed s a b d n nodes uses x) where
  room_for : Room (behind_text x 0) (used_text x 0)
  room_for = record { nodes = omega (arith, P.node_count, P.few_nodes); uses = omega (arith, P.use_count, P.few_uses) }

  pub rows_ok : (k : ℕ) → k < nodes → RowOk a k
  rows_ok k l =
      let rows = text_rows s a b x 0 0 (text_fit P.writes P.clear) room_for P.stored in
      row_at s a b 0 (behind_text x 0) rows k (omega arith) (omega (arith, P.node_count))

  pub table_ok : {owners ends : List ℕ} → Resolved x owners ends → TableOk a owners nodes
  table_ok R = record { few = P.few_nodes; each = rows_ok; owned = R.within }

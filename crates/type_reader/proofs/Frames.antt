-- What stands in an area stays there, where nothing is written over it.
-- Assumes nothing.
use mathlib.Core.List.{List, [], ◌∷◌}
use mathlib.Core.Logic.{◌⊎◌, inl, inr}
use mathlib.Core.Path.{◌≡◌, refl, ap, ◌∙◌}
use Prim.Native.Nat.{ℕ, zero, suc, ◌+◌, ◌*◌, ◌<◌, ◌≤◌}
use native.Mathlib.Omega.{arith}
use lib.ListN.{length, get_or, set, length-set}
use lib.Seq.{get_or-set_same, get_or-set_other}
use Rattle.rules.specs.Notation.{Ty, ended, name, message, choice, Items, no_items, sort, session, Labels, last_label, label}
use Rattle.rules.specs.Numbering.{behind, behind_items, behind_labels}
use Rattle.rules.proofs.Links.{behind_more, behind_items_more, behind_labels_more}
use Rattle.flat.specs.Flat.{room, list_from, row, used, used_items, used_labels, raw_items, raw_labels, items_long, labels_long, Holds, Stored, StoredItems, StoredLabels, Kept}
use Rattle.type_reader.specs.Leaves.{stored_head}

-- two areas have the same from `from` to `to`
pub record Same (a b : List ℕ) (from to : ℕ) : Type 0 where
  pub each : (i : ℕ) → from ≤ i → i < to → get_or b i 0 ≡ get_or a i 0

pub same_within : {a b : List ℕ} {from to : ℕ} (f t : ℕ) → Same a b from to → from ≤ f → t ≤ to → Same a b f t
same_within f t h l m = record { each = λ i p q. h.each i (omega arith) (omega arith) }

pub holds_same : {a b : List ℕ} (i : ℕ) (xs : List ℕ) {from to : ℕ} → Holds a i xs → Same a b from to → from ≤ i → i + length xs ≤ to → Holds b i xs
holds_same i xs h k l m = record { each = λ j p. k.each (i + j) (omega arith) (omega arith) ∙ h.each j p }

pub holds_none : (a : List ℕ) (i : ℕ) → Holds a i []
holds_none a i = record { each = λ j l. absurd (omega arith) }

pub holds_more : {a : List ℕ} (i v : ℕ) (xs : List ℕ) → get_or a i 0 ≡ v → Holds a (i + 1) xs → Holds a i (v ∷ xs)
holds_more {a} i v xs e h = record { each = go }
  where
    go : (j : ℕ) → j < length (v ∷ xs) → get_or a (i + j) 0 ≡ get_or (v ∷ xs) j 0
    go zero l = ap (λ n. get_or a n 0) (omega arith) ∙ e
    go (suc j) l = let z : i + suc j ≡ i + 1 + j = omega arith in rw z (h.each j (omega arith))

pub holds_one : {a : List ℕ} (i v : ℕ) → get_or a i 0 ≡ v → Holds a i (v ∷ [])
holds_one {a} i v e = holds_more i v [] e (holds_none a (i + 1))

pub holds_front : {a : List ℕ} {i v : ℕ} {xs : List ℕ} → Holds a i (v ∷ xs) → Holds a i (v ∷ [])
holds_front {a} {i} {v} h = holds_one i v (ap (λ n. get_or a n 0) (omega arith) ∙ h.each 0 (omega arith))

pub holds_two : {a : List ℕ} {i v w : ℕ} {xs : List ℕ} → Holds a i (v ∷ w ∷ xs) → Holds a i (v ∷ w ∷ [])
holds_two {a} {i} {v} {w} h =
    holds_more i v (w ∷ []) (ap (λ n. get_or a n 0) (omega arith) ∙ h.each 0 (omega arith)) (holds_one (i + 1) w (h.each 1 (omega arith)))

-- a node's kind, count and continuation, written
module _ (a : List ℕ) (k kind n link : ℕ) where
  pub head_length : length (stored_head a k kind n link) ≡ length a
  head_length =
      length-set (set (set a (k * room) kind) (k * room + 1) n) (k * room + 2) link ∙ length-set (set a (k * room) kind) (k * room + 1) n
      ∙ length-set a (k * room) kind

  head_apart :
      (i : ℕ) → (i ≡ k * room + 2 → ⊥) → (i ≡ k * room + 1 → ⊥) → (i ≡ k * room → ⊥) → get_or (stored_head a k kind n link) i 0 ≡ get_or a i 0
  head_apart i p q r =
      get_or-set_other (set (set a (k * room) kind) (k * room + 1) n) (k * room + 2) i link 0 p
      ∙ get_or-set_other (set a (k * room) kind) (k * room + 1) i n 0 q ∙ get_or-set_other a (k * room) i kind 0 r

  pub head_other : (i : ℕ) → (i < k * room) ⊎ (k * room + list_from ≤ i) → get_or (stored_head a k kind n link) i 0 ≡ get_or a i 0
  head_other i (inl l) = head_apart i (λ e. omega arith) (λ e. omega arith) (λ e. omega arith)
  head_other i (inr l) = head_apart i (λ e. omega arith) (λ e. omega arith) (λ e. omega arith)

  pub head_kept : Kept a (stored_head a k kind n link) (k * room)
  head_kept = record { each = λ i l. head_other i (inl l) }

  pub head_holds : k * room + list_from ≤ length a → Holds (stored_head a k kind n link) (k * room) (kind ∷ n ∷ link ∷ [])
  head_holds h =
      let p = length-set a (k * room) kind in
      let q = length-set (set a (k * room) kind) (k * room + 1) n in
      holds_more (k * room) kind (n ∷ link ∷ [])
      (get_or-set_other (set (set a (k * room) kind) (k * room + 1) n) (k * room + 2) (k * room) link 0 (λ e. omega arith)
      ∙ get_or-set_other (set a (k * room) kind) (k * room + 1) (k * room) n 0 (λ e. omega arith)
      ∙ get_or-set_same a (k * room) kind 0 (omega arith))
      (holds_more (k * room + 1) n (link ∷ [])
      (get_or-set_other (set (set a (k * room) kind) (k * room + 1) n) (k * room + 2) (k * room + 1) link 0 (λ e. omega arith)
      ∙ get_or-set_same (set a (k * room) kind) (k * room + 1) n 0 (omega arith))
      (holds_one (k * room + 1 + 1) link (ap (λ i. get_or (stored_head a k kind n link) i 0) (omega arith)
      ∙ get_or-set_same (set (set a (k * room) kind) (k * room + 1) n) (k * room + 2) link 0 (omega arith))))

-- the numbers of items and of labels
pub items_length : (xs : Items) (k u : ℕ) → length (raw_items xs k u) ≡ items_long xs
items_length no_items k u = refl
items_length (sort s xs) k u = omega (arith, items_length xs k u)
items_length (session x xs) k u = omega (arith, items_length xs (behind x k) (used x u))

pub labels_length : (ls : Labels) (k u : ℕ) → length (raw_labels ls k u) ≡ labels_long ls * row
labels_length (last_label w x) k u = refl
labels_length (label w x ls) k u = omega (arith, labels_length ls (behind x k) (used x u))

mutual
  pub used_more : (x : Ty) (u : ℕ) → u ≤ used x u
  used_more ended u = omega arith
  used_more (name w) u = omega arith
  used_more (message d xs x) u = omega (arith, used_items_more xs u, used_more x (used_items xs u))
  used_more (choice d ls) u = used_labels_more ls u

  pub used_items_more : (xs : Items) (u : ℕ) → u ≤ used_items xs u
  used_items_more no_items u = omega arith
  used_items_more (sort s xs) u = used_items_more xs u
  used_items_more (session x xs) u = omega (arith, used_more x u, used_items_more xs (used x u))

  pub used_labels_more : (ls : Labels) (u : ℕ) → u ≤ used_labels ls u
  used_labels_more (last_label w x) u = used_more x u
  used_labels_more (label w x ls) u = omega (arith, used_more x u, used_labels_more ls (used x u))

-- a tree that is kept stays kept, if its rooms and its uses do
module _ (a b a' b' : List ℕ) where
  mutual
    pub stored_same :
        (x : Ty) (k u : ℕ) → Stored a b x k u → Same a a' (k * room) (behind x k * room) → Same b b' u (used x u) → Stored a' b' x k u
    stored_same ended k u h p q = holds_same (k * room) _ h p (omega arith) (omega arith)
    stored_same (name w) k u h p q = holds_same u _ h q (omega arith) (omega arith)
    stored_same (message d xs x) k u (head, list, few, inner, behind_it) p q =
        let m = behind_items_more xs (suc k) in
        let n = behind_more x (behind_items xs (suc k)) in
        let i = used_items_more xs u in
        let j = used_more x (used_items xs u) in
        let l = items_length xs (suc k) u in (
          holds_same (k * room) _ head p (omega arith) (omega arith),
          holds_same (k * room + list_from) (raw_items xs (suc k) u) list p (omega arith) (omega arith),
          few,
          items_same xs (suc k) u inner (same_within (suc k * room) (behind_items xs (suc k) * room) p (omega arith) (omega arith))
              (same_within u (used_items xs u) q (omega arith) (omega arith)),
          stored_same x (behind_items xs (suc k)) (used_items xs u) behind_it
              (same_within (behind_items xs (suc k) * room) (behind x (behind_items xs (suc k)) * room) p (omega arith) (omega arith))
              (same_within (used_items xs u) (used x (used_items xs u)) q (omega arith) (omega arith)),
        )
    stored_same (choice d ls) k u (head, list, few, inner) p q =
        let m = behind_labels_more ls (suc k) in
        let l = labels_length ls (suc k) u in (
          holds_same (k * room) _ head p (omega arith) (omega arith),
          holds_same (k * room + list_from) (raw_labels ls (suc k) u) list p (omega arith) (omega arith),
          few,
          labels_same ls (suc k) u inner (same_within (suc k * room) (behind_labels ls (suc k) * room) p (omega arith) (omega arith)) q,
        )

    pub items_same :
        (xs : Items) (k u : ℕ) → StoredItems a b xs k u → Same a a' (k * room) (behind_items xs k * room) → Same b b' u (used_items xs u)
        → StoredItems a' b' xs k u
    items_same no_items k u h p q = h
    items_same (sort s xs) k u h p q = items_same xs k u h p q
    items_same (session x xs) k u (h, g) p q =
        let m = behind_more x k in
        let n = behind_items_more xs (behind x k) in
        let i = used_more x u in
        let j = used_items_more xs (used x u) in (
          stored_same x k u h (same_within (k * room) (behind x k * room) p (omega arith) (omega arith))
              (same_within u (used x u) q (omega arith) (omega arith)),
          items_same xs (behind x k) (used x u) g
              (same_within (behind x k * room) (behind_items xs (behind x k) * room) p (omega arith) (omega arith))
              (same_within (used x u) (used_items xs (used x u)) q (omega arith) (omega arith)),
        )

    pub labels_same :
        (ls : Labels) (k u : ℕ) → StoredLabels a b ls k u → Same a a' (k * room) (behind_labels ls k * room) → Same b b' u (used_labels ls u)
        → StoredLabels a' b' ls k u
    labels_same (last_label w x) k u h p q = stored_same x k u h p q
    labels_same (label w x ls) k u (h, g) p q =
        let m = behind_more x k in
        let n = behind_labels_more ls (behind x k) in
        let i = used_more x u in
        let j = used_labels_more ls (used x u) in (
          stored_same x k u h (same_within (k * room) (behind x k * room) p (omega arith) (omega arith))
              (same_within u (used x u) q (omega arith) (omega arith)),
          labels_same ls (behind x k) (used x u) g
              (same_within (behind x k * room) (behind_labels ls (behind x k) * room) p (omega arith) (omega arith))
              (same_within (used x u) (used_labels ls (used x u)) q (omega arith) (omega arith)),
        )

-- The uses of names in a text, by their numbers: the numbers stand in the order of the names used, and the area of the uses holds each one's
-- place.
-- Assumes nothing.
use mathlib.Core.List.{List, [], ◌∷◌, ◌++◌}
use mathlib.Core.Path.{◌≡◌, refl, ap, ◌∙◌}
use Prim.Native.Nat.{ℕ, suc, ◌+◌}
use native.Mathlib.Nat.{add-zero}
use native.Mathlib.Omega.{arith}
use lib.ListN.{length, get_or}
use Rattle.rules.specs.Tokens.{Token}
use Rattle.rules.specs.Notation.{Ty, ended, name, message, choice, Items, no_items, sort, session, Labels, last_label, label, Text, last_definition, definition}
use Rattle.rules.specs.Numbering.{behind, behind_items}
use Rattle.rules.specs.Refusals.{uses, uses_items, uses_labels, used_names}
use Rattle.flat.specs.Flat.{used, used_items, used_labels, used_text, Stored, StoredItems, StoredLabels, StoredText}

-- that each of a list's tokens, numbered from u on, is as Q says
abbrev pub Numbered : (ℕ → Token → Type 0) → ℕ → List Token → Type 0
Numbered Q u [] = Unit {0}
Numbered Q u (t ∷ ts) = Q u t × Numbered Q (u + 1) ts

pub numbered_at :
    (Q : ℕ → Token → Type 0) (u : ℕ) (before after : List Token) (t : Token) → Numbered Q u (before ++ (t ∷ after)) → Q (u + length before) t
numbered_at Q u [] after t h = rw add-zero h.0
numbered_at Q u (d ∷ before) after t h =
    let e : u + 1 + length before ≡ u + suc (length before) = omega arith in
    rw e at (numbered_at Q (u + 1) before after t h.1)

pub numbered_of :
    (Q : ℕ → Token → Type 0) (u : ℕ) (ts : List Token)
    → ((before after : List Token) (t : Token) → ts ≡ before ++ (t ∷ after) → Q (u + length before) t) → Numbered Q u ts
numbered_of Q u [] f = tt
numbered_of Q u (t ∷ ts) f = (
  rw add-zero at (f [] ts t refl),
  numbered_of Q (u + 1) ts (λ before after v e.
      let q : u + suc (length before) ≡ u + 1 + length before = omega arith in
      rw q at (f (t ∷ before) after v (ap (λ (l : List Token). t ∷ l) e))),
)

-- behind a tree the numbers go on
module _ (Q : ℕ → Token → Type 0) where
  mutual
    pub past_type : (x : Ty) (u : ℕ) (ts : List Token) → Numbered Q u (uses x ts) → Numbered Q (used x u) ts
    past_type ended u ts h = h
    past_type (name w) u ts h = h.1
    past_type (message d xs x) u ts h = past_type x (used_items xs u) ts (past_items xs u (uses x ts) h)
    past_type (choice d ls) u ts h = past_labels ls u ts h

    past_items : (xs : Items) (u : ℕ) (ts : List Token) → Numbered Q u (uses_items xs ts) → Numbered Q (used_items xs u) ts
    past_items no_items u ts h = h
    past_items (sort s xs) u ts h = past_items xs u ts h
    past_items (session x xs) u ts h = past_items xs (used x u) ts (past_type x u (uses_items xs ts) h)

    past_labels : (ls : Labels) (u : ℕ) (ts : List Token) → Numbered Q u (uses_labels ls ts) → Numbered Q (used_labels ls u) ts
    past_labels (last_label w x) u ts h = past_type x u ts h
    past_labels (label w x ls) u ts h = past_labels ls (used x u) ts (past_type x u (uses_labels ls ts) h)

-- and there are as many numbers as names
mutual
  type_count : (x : Ty) (u : ℕ) (ts : List Token) → u + length (uses x ts) ≡ used x u + length ts
  type_count ended u ts = refl
  type_count (name w) u ts = omega arith
  type_count (message d xs x) u ts = items_count xs u (uses x ts) ∙ type_count x (used_items xs u) ts
  type_count (choice d ls) u ts = labels_count ls u ts

  items_count : (xs : Items) (u : ℕ) (ts : List Token) → u + length (uses_items xs ts) ≡ used_items xs u + length ts
  items_count no_items u ts = refl
  items_count (sort s xs) u ts = items_count xs u ts
  items_count (session x xs) u ts = type_count x u (uses_items xs ts) ∙ items_count xs (used x u) ts

  labels_count : (ls : Labels) (u : ℕ) (ts : List Token) → u + length (uses_labels ls ts) ≡ used_labels ls u + length ts
  labels_count (last_label w x) u ts = type_count x u ts
  labels_count (label w x ls) u ts = type_count x u (uses_labels ls ts) ∙ labels_count ls (used x u) ts

pub uses_count : (x : Text) (u : ℕ) → u + length (used_names x) ≡ used_text x u
uses_count (last_definition w x) u = type_count x u [] ∙ omega arith
uses_count (definition w x ds) u = type_count x u (used_names ds) ∙ uses_count ds (used x u)

-- what is stored of a tree are the places of its uses
module _ (a b : List ℕ) where
  abbrev pub PlaceOf : ℕ → Token → Type 0
  PlaceOf u t = get_or b u 0 ≡ t.at

  mutual
    type_places : (x : Ty) (k u : ℕ) (ts : List Token) → Stored a b x k u → Numbered PlaceOf (used x u) ts → Numbered PlaceOf u (uses x ts)
    type_places ended k u ts S h = h
    type_places (name w) k u ts S h = (rw add-zero at (S.each 0 (omega arith)), h)
    type_places (message d xs x) k u ts S h =
        items_places xs (suc k) u (uses x ts) S.3 (type_places x (behind_items xs (suc k)) (used_items xs u) ts S.4 h)
    type_places (choice d ls) k u ts S h = labels_places ls (suc k) u ts S.3 h

    items_places :
        (xs : Items) (k u : ℕ) (ts : List Token) → StoredItems a b xs k u → Numbered PlaceOf (used_items xs u) ts
        → Numbered PlaceOf u (uses_items xs ts)
    items_places no_items k u ts S h = h
    items_places (sort s xs) k u ts S h = items_places xs k u ts S h
    items_places (session x xs) k u ts S h =
        type_places x k u (uses_items xs ts) S.0 (items_places xs (behind x k) (used x u) ts S.1 h)

    labels_places :
        (ls : Labels) (k u : ℕ) (ts : List Token) → StoredLabels a b ls k u → Numbered PlaceOf (used_labels ls u) ts
        → Numbered PlaceOf u (uses_labels ls ts)
    labels_places (last_label w x) k u ts S h = type_places x k u ts S h
    labels_places (label w x ls) k u ts S h =
        type_places x k u (uses_labels ls ts) S.0 (labels_places ls (behind x k) (used x u) ts S.1 h)

  pub text_places : (x : Text) (k u : ℕ) → StoredText a b x k u → Numbered PlaceOf u (used_names x)
  text_places (last_definition w x) k u S = type_places x k u [] S tt
  text_places (definition w x ds) k u S = type_places x k u (used_names ds) S.0 (text_places ds (behind x k) (used x u) S.1)

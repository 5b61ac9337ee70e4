-- Bytes put one behind the other are put together; put at the front they are what the area begins with.
-- Assumes nothing.
use mathlib.Core.List.{List, [], ◌∷◌, ◌++◌, append_assoc, append-nil}
use mathlib.Core.Path.{◌≡◌, refl, sym, ap, ap₂, ◌∙◌}
use Prim.Native.Nat.{ℕ, suc, ◌+◌, ◌-◌, ◌/◌, ◌%◌, ◌<◌, ◌≤◌}
use native.Mathlib.Omega.{arith}
use lib.ListN.{length, take, drop, take-append-drop, set, get_or, length-append}
use lib.Seq.{drop-drop, sets, length-sets, sets-eq, take-suc}
use Rattle.rules.specs.Basics.{bytes}
use Rattle.rules.specs.Line.{digits, field, fields, line}
use Rattle.rules.proofs.Digits.{digits_more}
use Rattle.lines.specs.Adding.{Adds}

sets_then : (u v xs : List ℕ) (at : ℕ) → sets (sets xs at u) (at + length u) v ≡ sets xs at (u ++ v)
sets_then [] v xs at = let e : at + 0 ≡ at = omega arith in ap (λ (k : ℕ). sets xs k v) e
sets_then (b ∷ u) v xs at =
    let e : at + suc (length u) ≡ suc at + length u = omega arith in
    ap (λ (k : ℕ). sets (sets (set xs at b) (suc at) u) k v) e ∙ sets_then u v (set xs at b) (suc at)

pub adds_none : (xs : List ℕ) (at : ℕ) → Adds xs at [] xs at
adds_none xs at = record { placed = refl; behind = omega arith }

pub adds_byte : (xs : List ℕ) (at b : ℕ) → Adds xs at (b ∷ []) (set xs at b) (at + 1)
adds_byte xs at b = record { placed = refl; behind = refl }

module _ {xs ys : List ℕ} {at r : ℕ} {u : List ℕ} (A : Adds xs at u ys r) where
  pub adds_length : length ys ≡ length xs
  adds_length = ap length A.placed ∙ length-sets xs at u

  pub adds_then : {v zs : List ℕ} {s : ℕ} → Adds ys r v zs s → Adds xs at (u ++ v) zs s
  adds_then {v} B =
      record {
        placed = B.placed ∙ ap₂ (λ (l : List ℕ) (k : ℕ). sets l k v) A.placed A.behind ∙ sets_then u v xs at;
        behind = omega (arith, A.behind, B.behind, length-append u v);
      }

  -- the same bytes, spelled otherwise
  pub adds_as : {v : List ℕ} → u ≡ v → Adds xs at v ys r
  adds_as e = rw e at A

-- a word copied into its place
pub adds_part :
    (xs w : List ℕ) (at : ℕ) {ys : List ℕ} → ys ≡ w → at + length w ≤ length xs
    → Adds xs at w (take at xs ++ (ys ++ drop (at + length w - at) (drop at xs))) (at + length w)
adds_part xs w at e room =
    let n : at + length w - at ≡ length w = omega arith in
    record { placed = rw (e, n, drop-drop (length w) at xs) (sym (sets-eq w xs at room ∙ append_assoc (take at xs) w (drop (at + length w) xs))); behind = refl }

pub digits_longer : (k : ℕ) → 10 ≤ k → length (digits (suc k) k) ≡ length (digits (suc (k / 10)) (k / 10)) + 1
digits_longer k l = ap length (digits_more k l) ∙ length-append (digits (suc (k / 10)) (k / 10)) ((48 + k % 10) ∷ [])

pub no-fields : (xs : List ℕ) (at : ℕ) → Adds xs at (fields []) xs at
unfolding fields
no-fields xs at = adds_none xs at

pub fields-append : (js ks : List ℕ) → fields (js ++ ks) ≡ fields js ++ fields ks
unfolding fields
fields-append [] ks = refl
fields-append (j ∷ js) ks = ap (λ (l : List ℕ). field j ++ l) (fields-append js ks) ∙ sym (append_assoc (field j) (fields js) (fields ks))

one_field : (k : ℕ) → fields (k ∷ []) ≡ field k
unfolding fields
one_field k = append-nil (field k)

-- one step more of a path, its first n numbers being the steps
module _ {xs ys : List ℕ} {at r : ℕ} (path : List ℕ) {i : ℕ} (A : Adds xs at (fields (take i path)) ys r) {k : ℕ} (this : k ≡ get_or path i 0) where
  pub adds_step : i < length path → {zs : List ℕ} {s : ℕ} → Adds ys r (field k) zs s → Adds xs at (fields (take (i + 1) path)) zs s
  adds_step l B =
      let e : i + 1 ≡ suc i = omega arith in
      rw (e, take-suc path i 0 l, fields-append (take i path) (get_or path i 0 ∷ []), one_field (get_or path i 0), ← this) (adds_then A B)

  pub room_step : i < length path → at + length (fields path) ≤ length xs → r + length (field k) ≤ length ys
  room_step l room =
      let rest = drop (suc i) path in
      let e : path ≡ (take i path ++ (get_or path i 0 ∷ [])) ++ rest =
      sym (take-append-drop (suc i) path) ∙ ap (λ (m : List ℕ). m ++ rest) (take-suc path i 0 l) in
      let parts : length (fields path) ≡ length (fields (take i path)) + length (field k) + length (fields rest) =
      ap (λ (m : List ℕ). length (fields m)) e
      ∙ (rw (fields-append (take i path ++ (get_or path i 0 ∷ [])) rest, fields-append (take i path) (get_or path i 0 ∷ []), one_field (get_or path i 0), ← this)
      (length-append (fields (take i path) ++ field k) (fields rest)
      ∙ ap (λ (j : ℕ). j + length (fields rest)) (length-append (fields (take i path)) (field k)))) in
      omega (arith, room, parts, A.behind, adds_length A)

-- a word, its fields and the line feed
pub adds_line :
    {xs ys zs us : List ℕ} {at r s t : ℕ} {w : List ℕ} (ks : List ℕ) → Adds xs at w ys r → Adds ys r (fields ks) zs s
    → Adds zs s (bytes "\n") us t → Adds xs at (line w ks) us t
adds_line ks A B C = adds_then (adds_then A B) C

-- at the front: the area begins with them, and what is beyond stays
module _ {xs ys : List ℕ} {r : ℕ} {w : List ℕ} (A : Adds xs 0 w ys r) where
  pub at_front : length w ≤ length xs → ys ≡ w ++ drop (length w) xs
  at_front l = A.placed ∙ sets-eq w xs 0 (omega arith) ∙ (let e : 0 + length w ≡ length w = omega arith in rw e refl)

  pub front_length : r ≡ length w
  front_length = omega (arith, A.behind)

-- the room for what comes next
module _ {xs ys : List ℕ} {at r : ℕ} {u : List ℕ} (A : Adds xs at u ys r) where
  pub room_byte : at + length u < length xs → r < length ys
  room_byte l = omega (arith, l, A.behind, adds_length A)

  pub room_next : (w : List ℕ) → at + length u + length w ≤ length xs → r + length w ≤ length ys
  room_next w l = omega (arith, l, A.behind, adds_length A)

pub field_longer : (k : ℕ) → length (field k) ≡ 1 + length (digits (suc k) k)
unfolding field
field_longer k = omega arith

pub field_is : (k : ℕ) → 32 ∷ [] ++ digits (suc k) k ≡ field k
unfolding field
field_is k = refl

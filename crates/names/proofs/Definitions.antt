-- The definitions of a text, by their numbers: what stands in the row of each, and which a name leads to.
-- Assumes nothing.
use mathlib.Core.Bool.{true, false}
use mathlib.Core.List.{List, [], ◌∷◌, ◌++◌, nil≢cons, head-eq_of_cons-eq, tail-eq_of_cons-eq}
use mathlib.Core.Path.{◌≡◌, refl}
use Prim.Native.Nat.{ℕ, zero, suc, ◌+◌, ◌*◌, ◌<◌, ◌≤◌}
use native.Mathlib.Nat.{add-zero}
use native.Mathlib.Omega.{arith}
use lib.ListN.{length, get_or}
use Rattle.rules.specs.Basics.{same}
use Rattle.rules.specs.Tokens.{Token}
use Rattle.rules.specs.Notation.{Ty, ended, name, message, choice, Text, last_definition, definition}
use Rattle.rules.specs.Numbering.{behind, behind_items, behind_text, to_node, to_nothing, lead, definition_leads, definition_count}
use Rattle.rules.specs.Refusals.{used_names, defined_names}
use Rattle.rules.proofs.Links.{Each, behind_more, behind_items_more, behind_labels_more, behind_text_more}
use Rattle.flat.specs.Flat.{row, used, raw, raw_text, Holds}
use Rattle.names.proofs.Uses.{Numbered, past_type}

-- definition i of a text whose first node is number k and whose first use is number u: its name, its type, and the numbers of its own first
-- node and first use
pub data Row : Text → ℕ → ℕ → ℕ → Token → Ty → ℕ → ℕ → Type 0 where
  the_last : {w : Token} {x : Ty} {k u : ℕ} → Row (last_definition w x) k u zero w x k u
  the_first : {w : Token} {x : Ty} {ds : Text} {k u : ℕ} → Row (definition w x ds) k u zero w x k u
  later :
      {w v : Token} {x y : Ty} {ds : Text} {k u i j m : ℕ} → Row ds (behind x k) (used x u) i v y j m
      → Row (definition w x ds) k u (suc i) v y j m

-- a row with what it has
pub record AnyRow (t : Text) (k u i : ℕ) : Type 0 where
  pub word : Token
  pub type : Ty
  pub node : ℕ
  pub use_number : ℕ
  pub row_of : Row t k u i word type node use_number

pub row_at : (t : Text) (k u i : ℕ) → i < definition_count t → AnyRow t k u i
row_at (last_definition w x) k u zero l = record { word = w; type = x; node = k; use_number = u; row_of = the_last }
row_at (last_definition w x) k u (suc i) l = absurd (omega arith)
row_at (definition w x ds) k u zero l = record { word = w; type = x; node = k; use_number = u; row_of = the_first }
row_at (definition w x ds) k u (suc i) l =
    let R = row_at ds (behind x k) (used x u) i (omega arith) in
    record { word = R.word; type = R.type; node = R.node; use_number = R.use_number; row_of = later R.row_of }

pub row_below : {t : Text} {k u i : ℕ} {v : Token} {y : Ty} {j m : ℕ} → Row t k u i v y j m → i < definition_count t
row_below the_last = omega arith
row_below the_first = omega arith
row_below (later R) = let l = row_below R in omega arith

-- the three numbers of a row
holds_behind : (d : List ℕ) (p a b c : ℕ) (ns : List ℕ) → Holds d p (a ∷ b ∷ c ∷ ns) → Holds d (p + row) ns
holds_behind d p a b c ns h =
    record { each = λ j l. let e : p + suc (suc (suc j)) ≡ p + row + j = omega arith in rw e at (h.each (suc (suc (suc j))) (omega arith)) }

abbrev pub InRow : List ℕ → ℕ → Token → ℕ → Type 0
InRow d p v n = (get_or d p 0 ≡ v.at) × (get_or d (p + 1) 0 ≡ length v.spelled) × (get_or d (p + 2) 0 ≡ n)

first_row : (d : List ℕ) (p : ℕ) (v : Token) (n : ℕ) (ns : List ℕ) → Holds d p (v.at ∷ length v.spelled ∷ n ∷ ns) → InRow d (p + 0 * row) v n
first_row d p v n ns h =
    let e : p + 0 * row ≡ p = omega arith in
    rw e (rw add-zero at (h.each 0 (omega arith)), h.each 1 (omega arith), h.each 2 (omega arith))

pub row_numbers :
    {t : Text} {k u i : ℕ} {v : Token} {y : Ty} {j m : ℕ} (d : List ℕ) (p : ℕ) → Row t k u i v y j m → Holds d p (raw_text t k u)
    → InRow d (p + i * row) v (raw y j m)
row_numbers {v} {y} {j} {m} d p the_last h = first_row d p v (raw y j m) [] h
row_numbers {v} {y} {j} {m} d p (the_first {ds}) h = first_row d p v (raw y j m) (raw_text ds (behind y j) (used y m)) h
row_numbers d p (later {w} {x} {ds} {k} {u} {i} R) h =
    let e : p + row + i * row ≡ p + suc i * row = omega arith in
    let H = holds_behind d p w.at (length w.spelled) (raw x k u) (raw_text ds (behind x k) (used x u)) h in
    rw e at (row_numbers d (p + row) R H)

-- its nodes are among the text's, and a name that it is stands for its use
pub row_nodes : {t : Text} {k u i : ℕ} {v : Token} {y : Ty} {j m : ℕ} → Row t k u i v y j m → behind y j ≤ behind_text t k
row_nodes the_last = omega arith
row_nodes (the_first {x} {ds} {k}) = behind_text_more ds (behind x k)
row_nodes (later R) = row_nodes R

pub row_use :
    {t : Text} {k u i : ℕ} {v w : Token} {j m : ℕ} (Q : ℕ → Token → Type 0) → Row t k u i v (name w) j m → Numbered Q u (used_names t) → Q m w
row_use Q the_last h = h.0
row_use Q the_first h = h.0
row_use Q (later {x} {ds} {u} R) h = row_use Q R (past_type Q x u (used_names ds) h)

-- its name is among the names defined, and where a name stands among those, its row does among the rows
pub row_each :
    {t : Text} {k u i : ℕ} {v : Token} {y : Ty} {j m : ℕ} (P : Token → Type 0) → Row t k u i v y j m → Each P (defined_names t) → P v
row_each P the_last h = h.0
row_each P the_first h = h.0
row_each P (later R) h = row_each P R h.1

pub named_row :
    (t : Text) (k u : ℕ) (before after : List Token) (v : Token) → defined_names t ≡ before ++ (v ∷ after)
    → (y : Ty) × (j : ℕ) × (m : ℕ) × Row t k u (length before) v y j m
named_row (last_definition w x) k u [] after v e = rw (← head-eq_of_cons-eq e) (x, k, u, the_last)
named_row (last_definition w x) k u (b ∷ []) after v e = absurd (nil≢cons (tail-eq_of_cons-eq e))
named_row (last_definition w x) k u (b ∷ c ∷ before) after v e = absurd (nil≢cons (tail-eq_of_cons-eq e))
named_row (definition w x ds) k u [] after v e = rw (← head-eq_of_cons-eq e) (x, k, u, the_first)
named_row (definition w x ds) k u (b ∷ before) after v e =
    let (y, j, m, R) = named_row ds (behind x k) (used x u) before after v (tail-eq_of_cons-eq e) in (y, j, m, later R)

-- a type leads at once to its own node, or to a use of a name
pub data AtOnce (x : Ty) (k u : ℕ) : Type 0 where
  its_node : raw x k u ≡ k → lead x k ≡ to_node k → k < behind x k → AtOnce x k u
  a_name : (w : Token) → x ≡ name w → AtOnce x k u

pub leads_to : (x : Ty) (k u : ℕ) → AtOnce x k u
leads_to ended k u = its_node refl refl (omega arith)
leads_to (name w) k u = a_name w refl
leads_to (message d xs x) k u = its_node refl refl (omega (arith, behind_items_more xs (suc k), behind_more x (behind_items xs (suc k))))
leads_to (choice d ls) k u = its_node refl refl (omega (arith, behind_labels_more ls (suc k)))

pub leads_somewhere : (x : Ty) (k : ℕ) → lead x k ≡ to_nothing → ⊥
leads_somewhere ended k e = let z : ◌≡◌ {A = ℕ} 0 1 = cc in omega arith
leads_somewhere (name w) k e = let z : ◌≡◌ {A = ℕ} 0 1 = cc in omega arith
leads_somewhere (message d xs x) k e = let z : ◌≡◌ {A = ℕ} 0 1 = cc in omega arith
leads_somewhere (choice d ls) k e = let z : ◌≡◌ {A = ℕ} 0 1 = cc in omega arith

-- A name leads where the first definition of that name does, and to nothing where none has it.
module _ (w : List ℕ) where
  -- that none of the first n definitions has the name
  abbrev pub NotBefore : Text → ℕ → ℕ → ℕ → Type 0
  NotBefore t k u n = (i : ℕ) (v : Token) (y : Ty) (j m : ℕ) → Row t k u i v y j m → i < n → same v.spelled w ≡ false

  pub leads_as :
      {t : Text} {k u i : ℕ} {v : Token} {y : Ty} {j m : ℕ} → Row t k u i v y j m → NotBefore t k u i → same v.spelled w ≡ true
      → definition_leads t k w ≡ lead y j
  unfolding definition_leads
  leads_as the_last f e = rw (definition_leads, e) refl
  leads_as the_first f e = rw (definition_leads, e) refl
  leads_as (later {w = a} {x} {k} {u} R) f e =
      rw (definition_leads, f 0 a x k u the_first (omega arith)) (leads_as R (λ i v y j m S l. f (suc i) v y j m (later S) (omega arith)) e)

  pub leads_nowhere : (t : Text) (k u : ℕ) → NotBefore t k u (definition_count t) → definition_leads t k w ≡ to_nothing
  unfolding definition_leads
  leads_nowhere (last_definition v x) k u f = rw (definition_leads, f 0 v x k u the_last (omega arith)) refl
  leads_nowhere (definition v x ds) k u f =
      rw (definition_leads, f 0 v x k u the_first (omega arith))
      (leads_nowhere ds (behind x k) (used x u) (λ i a y j m S l. f (suc i) a y j m (later S) (omega arith)))

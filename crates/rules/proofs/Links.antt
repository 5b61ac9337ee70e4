-- The links of a text's table: where every name that the text uses is defined, and every definition leads to a node, a link is the number of
-- a node.
-- Assumes nothing.
use mathlib.Core.Bool.{Bool, true, false}
use mathlib.Core.List.{List, [], ◌∷◌}
use mathlib.Core.Option.{some, none-ne-some}
use mathlib.Core.Path.{◌≡◌, refl}
use Prim.Native.Nat.{ℕ, zero, suc, ◌<◌, ◌≤◌}
use native.Mathlib.Omega.{arith}
use Rattle.rules.specs.Basics.{same}
use Rattle.rules.specs.Tokens.{Token}
use Rattle.rules.specs.Notation.{Ty, ended, name, message, choice, Items, no_items, sort, session, Labels, last_label, label, Text, last_definition, definition}
use Rattle.rules.specs.Numbering.{behind, behind_items, behind_labels, behind_text, Lead, to_node, to_name, to_nothing, lead, definition_leads, definition_count, follow, link}
use Rattle.rules.specs.Refusals.{uses, uses_items, uses_labels, used_names, defined_names, OneOf}
use Rattle.rules.proofs.Basics.{same_true}
use Rattle.rules.proofs.Names.{follow_enough}
use Rattle.rules.proofs.NamesInOrder.{one_first, one_later}

-- numbers only grow along a text
mutual
  pub behind_more : (x : Ty) (k : ℕ) → k ≤ behind x k
  behind_more ended k = omega arith
  behind_more (name w) k = omega arith
  behind_more (message d xs x) k = omega (arith, behind_items_more xs (suc k), behind_more x (behind_items xs (suc k)))
  behind_more (choice d ls) k = omega (arith, behind_labels_more ls (suc k))

  pub behind_items_more : (xs : Items) (k : ℕ) → k ≤ behind_items xs k
  behind_items_more no_items k = omega arith
  behind_items_more (sort s xs) k = behind_items_more xs k
  behind_items_more (session x xs) k = omega (arith, behind_more x k, behind_items_more xs (behind x k))

  pub behind_labels_more : (ls : Labels) (k : ℕ) → k ≤ behind_labels ls k
  behind_labels_more (last_label w x) k = behind_more x k
  behind_labels_more (label w x ls) k = omega (arith, behind_more x k, behind_labels_more ls (behind x k))

pub behind_text_more : (t : Text) (k : ℕ) → k ≤ behind_text t k
behind_text_more (last_definition w x) k = behind_more x k
behind_text_more (definition w x ds) k = omega (arith, behind_more x k, behind_text_more ds (behind x k))

-- a lead to a node leads to one of the first n
abbrev Below : ℕ → Lead → Type 0
Below n (to_node k) = k < n
Below n (to_name w) = Unit {0}
Below n to_nothing = Unit {0}

below_more : (n m : ℕ) (l : Lead) → n ≤ m → Below n l → Below m l
below_more n m (to_node k) h b = omega arith
below_more n m (to_name w) h b = tt
below_more n m to_nothing h b = tt

lead_below : (x : Ty) (k : ℕ) → Below (behind x k) (lead x k)
lead_below ended k = omega arith
lead_below (name w) k = tt
lead_below (message d xs x) k = omega (arith, behind_items_more xs (suc k), behind_more x (behind_items xs (suc k)))
lead_below (choice d ls) k = omega (arith, behind_labels_more ls (suc k))

leads_below : (t : Text) (k : ℕ) (w : List ℕ) → Below (behind_text t k) (definition_leads t k w)
unfolding definition_leads
leads_below (last_definition v x) k w = go (same v.spelled w)
  where
    go : (b : Bool) → Below (behind x k) (elim b [ true ↦ lead x k | false ↦ to_nothing ])
    go true = lead_below x k
    go false = tt
leads_below (definition v x ds) k w = go (same v.spelled w) (leads_below ds (behind x k) w)
  where
    go :
        (b : Bool) → Below (behind_text ds (behind x k)) (definition_leads ds (behind x k) w)
        → Below (behind_text ds (behind x k)) (elim b [ true ↦ lead x k | false ↦ definition_leads ds (behind x k) w ])
    go true h = below_more (behind x k) (behind_text ds (behind x k)) (lead x k) (behind_text_more ds (behind x k)) (lead_below x k)
    go false h = h

follow_below : (t : Text) (n : ℕ) (l : Lead) (k : ℕ) → Below (behind_text t 0) l → follow t n l ≡ some k → k < behind_text t 0
unfolding follow
follow_below t zero (to_node j) k b e = let q : j ≡ k = cc in rw q at b
follow_below t zero (to_name w) k b e = absurd (none-ne-some k e)
follow_below t zero to_nothing k b e = absurd (none-ne-some k e)
follow_below t (suc n) (to_node j) k b e = let q : j ≡ k = cc in rw q at b
follow_below t (suc n) (to_name w) k b e = follow_below t n (definition_leads t zero w) k (leads_below t 0 w) e
follow_below t (suc n) to_nothing k b e = absurd (none-ne-some k e)

-- a name that does not lead to nothing is one of those defined
defined_name :
    (t : Text) (k : ℕ) (w : List ℕ) → (definition_leads t k w ≡ to_nothing → ⊥) → (u : Token) × OneOf u (defined_names t) × (u.spelled ≡ w)
unfolding definition_leads
defined_name (last_definition v x) k w h = go (same v.spelled w) refl h
  where
    go :
        (b : Bool) → same v.spelled w ≡ b → (elim b as (λ b. Lead) [ true ↦ lead x k | false ↦ to_nothing ] ≡ to_nothing → ⊥)
        → (u : Token) × OneOf u (v ∷ []) × (u.spelled ≡ w)
    go true e h = (v, one_first v [], same_true v.spelled w e)
    go false e h = absurd (h refl)
defined_name (definition v x ds) k w h = go (same v.spelled w) refl h (defined_name ds (behind x k) w)
  where
    go :
        (b : Bool) → same v.spelled w ≡ b
        → (elim b as (λ b. Lead) [ true ↦ lead x k | false ↦ definition_leads ds (behind x k) w ] ≡ to_nothing → ⊥)
        → ((definition_leads ds (behind x k) w ≡ to_nothing → ⊥) → (u : Token) × OneOf u (defined_names ds) × (u.spelled ≡ w))
        → (u : Token) × OneOf u (v ∷ defined_names ds) × (u.spelled ≡ w)
    go true e h again = (v, one_first v (defined_names ds), same_true v.spelled w e)
    go false e h again = let (u, o, q) = again h in (u, one_later v o, q)

-- that each of a list's elements is as P says
abbrev pub Each : {A : Type 0} → (A → Type 0) → List A → Type 0
Each P [] = Unit {0}
Each P (a ∷ l) = P a × Each P l

each_of : (P : Token → Type 0) (ts : List Token) → ((u : Token) → OneOf u ts → P u) → Each P ts
each_of P [] f = tt
each_of P (t ∷ ts) f = (f t (one_first t ts), each_of P ts (λ u o. f u (one_later t o)))

-- what is said of the names used in a tree and behind it, behind the tree
module _ (P : Token → Type 0) where
  mutual
    pub past_uses : (x : Ty) (ts : List Token) → Each P (uses x ts) → Each P ts
    past_uses ended ts h = h
    past_uses (name w) ts h = h.1
    past_uses (message d xs x) ts h = past_uses x ts (past-uses_items xs (uses x ts) h)
    past_uses (choice d ls) ts h = past-uses_labels ls ts h

    pub past-uses_items : (xs : Items) (ts : List Token) → Each P (uses_items xs ts) → Each P ts
    past-uses_items no_items ts h = h
    past-uses_items (sort s xs) ts h = past-uses_items xs ts h
    past-uses_items (session x xs) ts h = past-uses_items xs ts (past_uses x (uses_items xs ts) h)

    past-uses_labels : (ls : Labels) (ts : List Token) → Each P (uses_labels ls ts) → Each P ts
    past-uses_labels (last_label w x) ts h = past_uses x ts h
    past-uses_labels (label w x ls) ts h = past-uses_labels ls ts (past_uses x (uses_labels ls ts) h)

follow_node : (t : Text) (n k : ℕ) → follow t n (to_node k) ≡ some k
unfolding follow
follow_node t zero k = refl
follow_node t (suc n) k = refl

module _ (t : Text) where
  -- that a name gets to a node of the text
  abbrev pub GetsTo : Token → Type 0
  GetsTo u = (k : ℕ) × (follow t (definition_count t) (to_name u.spelled) ≡ some k) × (k < behind_text t 0)

  pub link_below : (x : Ty) (k : ℕ) (ts : List Token) → behind x k ≤ behind_text t 0 → Each GetsTo (uses x ts) → link t x k < behind_text t 0
  unfolding link
  link_below ended k ts l h = rw (follow_node t (definition_count t) k) (omega arith)
  link_below (name w) k ts l h = let (j, e, m) = h.0 in rw e m
  link_below (message d xs x) k ts l h = rw (follow_node t (definition_count t) k) (omega (arith, lead_below (message d xs x) k))
  link_below (choice d ls) k ts l h = rw (follow_node t (definition_count t) k) (omega (arith, lead_below (choice d ls) k))

  pub uses_get_to :
      ((u : Token) → OneOf u (used_names t) → definition_leads t 0 u.spelled ≡ to_nothing → ⊥)
      → ((u : Token) → OneOf u (defined_names t) → (k : ℕ) × (n : ℕ) × (follow t n (to_name u.spelled) ≡ some k))
      → Each GetsTo (used_names t)
  uses_get_to defined leads = each_of GetsTo (used_names t) gets_to
    where
      gets_to : (u : Token) → OneOf u (used_names t) → GetsTo u
      gets_to u o =
          let (v, d, q) = defined_name t 0 u.spelled (defined u o) in
          let (k, n, e) = leads v d in
          let f = follow_enough t n (to_name u.spelled) k (rw q at e) in
          (k, f, follow_below t (definition_count t) (to_name u.spelled) k tt f)

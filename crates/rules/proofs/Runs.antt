-- Laws of runs: one end for a run, one step more at its end, and where the runs of two well formed tables stay. By the list of steps.
-- Assumes nothing.
use mathlib.Core.List.{List, [], ◌∷◌, ◌++◌, append-nil, append_assoc}
use mathlib.Core.Path.{◌≡◌, refl, sym, subst, ◌∙◌}
use Prim.Native.Nat.{ℕ}
use native.Mathlib.Omega.{arith}
use Rattle.rules.proofs.Formed.{WellFormed}
use Rattle.rules.proofs.Steps.{Within, step_one, step_within}
use Rattle.rules.specs.Pairs.{Pair, Step, starts}
use Rattle.rules.specs.Runs.{Leads, Run}
use Rattle.table.specs.declared.Table.{Table}

module _ (new : Table) (new_names : List ℕ) (old : Table) (old_names : List ℕ) where
  pub leads_one :
      (t : List ℕ) (p q r : Pair) → Leads new new_names old old_names p t q → Leads new new_names old old_names p t r → q ≡ r
  leads_one [] p q r u v = sym u ∙ v
  leads_one (s ∷ t) p q r u v = leads_one t u.0 q r u.2 (rw (step_one v.1 u.1) at v.2)

module _ {new : Table} {new_names : List ℕ} {old : Table} {old_names : List ℕ} where
  pub leads_snoc :
      (r : List ℕ) (p : Pair) {q : Pair} {s : ℕ} {m : Pair} → Leads new new_names old old_names p r q
      → Step new new_names old old_names q s m → Leads new new_names old old_names p (r ++ (s ∷ [])) m
  leads_snoc [] p {m = m} L S = (m, rw L S, refl)
  leads_snoc (a ∷ r) p L S = (L.0, L.1, leads_snoc r L.0 L.2 S)

  module _ (new_formed : WellFormed new new_names) (old_formed : WellFormed old old_names) where
    pub starts_within : Within new old (starts new old)
    starts_within = record { turn_below = omega arith; new_below = new_formed.begins; old_below = old_formed.begins }

    pub leads_within : (r : List ℕ) (p q : Pair) → Within new old p → Leads new new_names old old_names p r q → Within new old q
    leads_within [] p q w L = subst (Within new old) L w
    leads_within (s ∷ r) p q w L = leads_within r L.0 q (step_within new_formed old_formed w L.1) L.2

-- what holds of the empty run and goes on with each step holds of every run
module _ (new : Table) (new_names : List ℕ) (old : Table) (old_names : List ℕ) (P : List ℕ → Pair → Type 0) where
  leads_grows :
      ((a : List ℕ) (p : Pair) (s : ℕ) (q : Pair) → P a p → Step new new_names old old_names p s q → P (a ++ (s ∷ [])) q)
      → (r a : List ℕ) (p q : Pair) → P a p → Leads new new_names old old_names p r q → P (a ++ r) q
  leads_grows f [] a p q h L = subst (λ (x : List ℕ). P x q) (sym (append-nil a)) (subst (P a) L h)
  leads_grows f (s ∷ r) a p q h L =
      subst (λ (x : List ℕ). P x q) (append_assoc a (s ∷ []) r) (leads_grows f r (a ++ (s ∷ [])) L.0 q (f a p s L.0 h L.1) L.2)

  pub run_grows :
      P [] (starts new old)
      → ((a : List ℕ) (p : Pair) (s : ℕ) (q : Pair) → P a p → Step new new_names old old_names p s q → P (a ++ (s ∷ [])) q)
      → (r : List ℕ) (q : Pair) → Run new new_names old old_names r q → P r q
  run_grows h f r q L = leads_grows f r [] (starts new old) q h L

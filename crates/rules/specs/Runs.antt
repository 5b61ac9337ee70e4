-- Document 01, "May replace, and compatible": runs, and their order.
-- Assumes nothing.
use Rattle.std.specs.Prelude.{List, [], ◌∷◌, ◌⊎◌, ◌≡◌, ℕ, ◌<◌, length}
use Rattle.rules.specs.Pairs.{Pair, Step, starts}
use Rattle.table.specs.declared.Table.{Table}

module _ (new : Table) (new_names : List ℕ) (old : Table) (old_names : List ℕ) where
  -- the steps r lead from p to q
  abbrev pub Leads : Pair → List ℕ → Pair → Type 0
  Leads p [] q = p ≡ q
  Leads p (s ∷ r) q = (m : Pair) × Step new new_names old old_names p s m × Leads m r q

  -- "A run is any finite sequence of such steps from the starts; its last pair may be a mismatch."
  abbrev pub Run : List ℕ → Pair → Type 0
  Run r q = Leads (starts new old) r q

-- "the lower number at the first step that differs"
abbrev pub Lower : List ℕ → List ℕ → Type 0
Lower [] b = ⊥
Lower (s ∷ a) [] = ⊥
Lower (s ∷ a) (t ∷ b) = (s < t) ⊎ ((s ≡ t) × Lower a b)

-- "Order: fewer steps, then the lower number at the first step that differs."
abbrev pub Before : List ℕ → List ℕ → Type 0
Before a b = (length a < length b) ⊎ ((length a ≡ length b) × Lower a b)

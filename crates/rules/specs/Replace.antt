-- Document 01, "May replace, and compatible": closed sets of pairs.
-- Assumes nothing.
use Rattle.std.specs.Prelude.{Bool, true, List, ◌≡◌, ℕ, None}
use Rattle.rules.specs.Dual.{dual}
use Rattle.rules.specs.Pairs.{Pair, Step, starts, mismatch_at}
use Rattle.table.specs.declared.Table.{Table}

module _ (new : Table) (new_names : List ℕ) (old : Table) (old_names : List ℕ) where
  -- a set of pairs that "holds the starts and, with each pair, has no mismatch and all its steps"
  pub record Closed (set : Pair → Bool) : Type 0 where
    pub holds_starts : set (starts new old) ≡ true
    pub no_mismatch : (p : Pair) → set p ≡ true → mismatch_at new new_names old old_names p ≡ None
    pub all_steps : (p q : Pair) (s : ℕ) → set p ≡ true → Step new new_names old old_names p s q → set q ≡ true

  -- "New may replace old if some set of pairs holds the starts and, with each pair, has no mismatch and all its steps."
  pub record MayReplace : Type 0 where
    pub set : Pair → Bool
    pub closed : Closed set

  -- demand 2, "the smallest is shown": closed, and inside every closed set
  pub record Smallest (set : Pair → Bool) : Type 0 where
    pub closed : Closed set
    pub inside : (other : Pair → Bool) → Closed other → (p : Pair) → set p ≡ true → other p ≡ true

-- "New is compatible with other if new may replace the dual of other."
abbrev pub Compatible : Table → List ℕ → Table → List ℕ → Type 0
Compatible new new_names other other_names = MayReplace new new_names (dual other) other_names

-- Bytes put into the line's area, one behind the other.
-- Assumes nothing.
use Rattle.std.specs.Prelude.{List, [], ◌∷◌, ◌≡◌, ℕ, ◌+◌, ◌≤◌, length}
use Rattle.std.proofs.lemmas.List.Edits.{sets}
use Rattle.table.specs.declared.answers.Found.{Found}
use Rattle.table.specs.declared.answers.Verdict.{Verdict}
use Rattle.table.specs.declared.answers.Verdict.TheVariants as the

-- the bytes w are set at place `at` and behind it, and r is the place behind them
pub record Adds (before : List ℕ) (at : ℕ) (w after : List ℕ) (r : ℕ) : Type 0 where
  pub placed : after ≡ sets before at w
  pub behind : r ≡ at + length w

-- "reason, detail, new node, old node, turn"
abbrev pub found_fields : Found → List ℕ
found_fields f = f.reason ∷ f.detail ∷ f.new ∷ f.old ∷ f.turn ∷ []

-- the path holds the steps that a verdict speaks of
abbrev pub StepsInPath : Verdict → List ℕ → Type 0
StepsInPath (the.Yes c) path = Unit {0}
StepsInPath (the.No f) path = f.steps ≤ length path

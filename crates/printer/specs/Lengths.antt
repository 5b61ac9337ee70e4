-- How many bytes a written line has.
-- Assumes nothing.
use Rattle.std.specs.Prelude.{◌≡◌, ℕ, Result, Ok, Err}
use Rattle.table.specs.declared.answers.Refusal.{Refusal}

abbrev pub LengthOf : Result ℕ Refusal → ℕ → Type 0
LengthOf (Ok n) r = r ≡ n
LengthOf (Err e) r = Unit {0}

-- What is said of calls at the numbers below n.
-- Assumes nothing.
use Rattle.std.specs.Prelude.{◌≡◌, ℕ, ◌<◌}

-- the calls may be made
abbrev pub TakesBelow : (ℕ → Type 0) → ℕ → Type 0
TakesBelow takes n = (i : ℕ) → i < n → takes i

-- they answer what f has
abbrev pub AnswersBelow : {A : Type 0} → (ℕ → A → Type 0) → ℕ → (ℕ → A) → Type 0
AnswersBelow {A} answers n f = (i : ℕ) (x : A) → i < n → answers i x → x ≡ f i

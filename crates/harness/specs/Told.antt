-- What C is told of a reply, in two numbers.
-- Assumes nothing.
use Rattle.std.specs.Prelude.{List, ◌++◌, ◌≡◌, ℕ, ◌<◌, ◌≤◌, length, drop, Result, Ok, Err}
use Rattle.rules.specs.Line.{Answers}
use Rattle.rules.specs.Replies.{Areas}
use Rattle.rules.specs.Writing.{LineAreas, WritesLine, Counts, line_size}
use Rattle.table.specs.declared.answers.Question.{Question}
use Rattle.table.specs.declared.answers.Refusal.{Refusal}

-- the line's length, and 0; or 0, and the position of the area that is too short, counted from 1
pub data Told : Result ℕ Refusal → ℕ → ℕ → Type 0 where
  a_line : {n : ℕ} → Told (Ok n) n 0
  too_short : {r : Refusal} → Told (Err r) 0 r.place

-- what a reply over four lent areas tells
pub record Tells (q : Question) (new_text old_text : List ℕ) (before after : LineAreas) (r short : ℕ) : Type 0 where
  pub reply : Result ℕ Refusal
  pub writes : WritesLine q new_text old_text before after reply
  pub told : Told reply r short

-- What a reply tells where the line's area alone is lent: 4 where it is too short, and nothing is written; else the line stands at its front.
pub data TellsOwn (q : Question) (new_text old_text before after : List ℕ) : ℕ → ℕ → Type 0 where
  line_short :
      {n m : ℕ} → Counts q new_text old_text n m → length before < line_size n m → after ≡ before
      → TellsOwn q new_text old_text before after 0 4
  line_written :
      {n m : ℕ} {l : List ℕ} {lent left : Areas} → Counts q new_text old_text n m → line_size n m ≤ length before
      → Answers q new_text old_text lent left l → after ≡ l ++ drop (length l) before
      → TellsOwn q new_text old_text before after (length l) 0

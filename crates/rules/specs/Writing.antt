-- The reply of the functions that write the printed line into a lent area. Document 01 lends no area for the line; that there is one, the
-- fourth, and how long it is to be, is ours. The other three are those of the verdict.
-- Assumes nothing.
use Rattle.std.specs.Prelude.{List, ◌++◌, ◌≡◌, ℕ, ◌<◌, ◌≤◌, ◌+◌, ◌*◌, length, drop, Result, Ok, Err}
use Rattle.rules.specs.Pairs.{turns_most}
use Rattle.rules.specs.Replies.{refusal, Areas, Reads}
use Rattle.rules.specs.Line.{against, Answers, Prints}
use Rattle.table.specs.declared.answers.Made.{Made}
use Rattle.table.specs.declared.answers.Question.{Question}
use Rattle.table.specs.declared.answers.Refusal.{Refusal}
use Rattle.table.specs.declared.answers.RefusalKind.TheVariants as kind

-- what the four lent areas hold: marks, path and scratch, and the line
pub record LineAreas : Type 0 where
  pub lent : Areas
  pub line : List ℕ

-- the length of the line's area, in bytes: with n and m nodes there are at most 2 × n × m steps, of three bytes each with the space
abbrev pub line_size : ℕ → ℕ → ℕ
line_size n m = 6 * n * m + 18

-- the node counts of the tables that are held against each other; beside a refusal a table has no nodes
pub record Counts (q : Question) (new_text old_text : List ℕ) (n m : ℕ) : Type 0 where
  pub first : Made
  pub second : Made
  pub first_read : Reads new_text first
  pub second_read : Reads old_text second
  pub new_count : n ≡ first.table.count
  pub old_count : m ≡ (against q second.table).count

-- how long the four areas are: marks, path, scratch and line, in the area's own elements
pub record Lengths : Type 0 where
  pub marks : ℕ
  pub path : ℕ
  pub scratch : ℕ
  pub line : ℕ

abbrev pub lengths : LineAreas → Lengths
lengths a =
    record {
      marks = length a.lent.marks;
      path = length a.lent.path;
      scratch = length a.lent.scratch;
      line = length a.line;
    }

-- every area is long enough for n and m nodes
pub record AllLong (n m : ℕ) (k : Lengths) : Type 0 where
  pub marks_long : turns_most * n * m ≤ k.marks
  pub path_long : turns_most * n * m ≤ k.path
  pub scratch_long : 4 * n * m ≤ k.scratch
  pub line_long : line_size n m ≤ k.line

-- the least area that is too short for n and m nodes, by its position
pub data LeastShort (n m : ℕ) (k : Lengths) : ℕ → Type 0 where
  marks_short : k.marks < turns_most * n * m → LeastShort n m k 1
  path_short : turns_most * n * m ≤ k.marks → k.path < turns_most * n * m → LeastShort n m k 2
  scratch_short :
      turns_most * n * m ≤ k.marks → turns_most * n * m ≤ k.path → k.scratch < 4 * n * m → LeastShort n m k 3
  line_short :
      turns_most * n * m ≤ k.marks → turns_most * n * m ≤ k.path → 4 * n * m ≤ k.scratch → k.line < line_size n m
      → LeastShort n m k 4

-- The reply: 11 for the least area, where nothing is written; else the line stands at the front of its area, and what is beyond stays.
pub data WritesLine (q : Question) (new_text old_text : List ℕ) (before after : LineAreas) : Result ℕ Refusal → Type 0 where
  refuses :
      {n m p : ℕ} → Counts q new_text old_text n m → LeastShort n m (lengths before) p → after ≡ before
      → WritesLine q new_text old_text before after (Err (refusal kind.AreaTooShort p))
  writes :
      {n m : ℕ} {l : List ℕ} → Counts q new_text old_text n m → AllLong n m (lengths before)
      → Answers q new_text old_text before.lent after.lent l → after.line ≡ l ++ drop (length l) before.line
      → WritesLine q new_text old_text before after (Ok (length l))

-- The reply of what lends its own marks, path and scratch: for an input the area then begins with the printed line, of r bytes, and what
-- is beyond stays.
pub record PrintsInto (q : Question) (input before after : List ℕ) (r : ℕ) : Type 0 where
  pub printed : List ℕ
  pub prints : Prints q input printed
  pub long : r ≡ length printed
  pub holds : after ≡ printed ++ drop (length printed) before

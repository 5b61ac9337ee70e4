-- What is found on the way to the line.
-- Assumes nothing.
use Rattle.std.specs.Prelude.{List, ◌++◌, ◌≡◌, ℕ, ◌<◌, ◌≤◌, length, drop, Result, Ok, Err, ⊤}
use Rattle.rules.specs.Refusals.{number}
use Rattle.rules.specs.Replies.{refusal}
use Rattle.rules.specs.Line.{refused_line}
use Rattle.rules.specs.Writing.{Lengths, AllLong, LeastShort, line_size}
use Rattle.table.specs.declared.answers.Refusal.{Refusal}
use Rattle.table.specs.declared.answers.RefusalKind.TheVariants as kind

-- whether the areas are long enough, or the least that is too short
pub data Checked (n m : ℕ) (k : Lengths) : Result ⊤ Refusal → Type 0 where
  all_long : AllLong n m k → Checked n m k (Ok tt)
  short : {p : ℕ} → LeastShort n m k p → Checked n m k (Err (refusal kind.AreaTooShort p))

-- the line of a refused text
abbrev pub line_of : Refusal → ℕ → List ℕ
line_of r which = refused_line (number r.kind) which r.place

-- that line, or its area is too short for it
pub data WritesRefusal (r : Refusal) (which : ℕ) (before after : List ℕ) : Result ℕ Refusal → Type 0 where
  too_short : length before < line_size 0 0 → after ≡ before → WritesRefusal r which before after (Err (refusal kind.AreaTooShort 4))
  written :
      line_size 0 0 ≤ length before → after ≡ line_of r which ++ drop (length (line_of r which)) before
      → WritesRefusal r which before after (Ok (length (line_of r which)))

-- The printed line, computed from the two twins.
-- Assumes nothing.
use Rattle.std.specs.Prelude.{List, [], ℕ, take, replicate, Ok, Err}
use Rattle.rules.specs.Refusals.{number}
use Rattle.rules.specs.Line.{against, first_text, second_text, yes_line, no_line, refused_line}
use Rattle.rules.specs.Replies.{Areas, pair_count, scratch_size}
use Rattle.rules.specs.computed.Reading.{reading}
use Rattle.rules.specs.computed.Verdict.{Reply, verdict}
use Rattle.table.specs.declared.Table.{Table}
use Rattle.table.specs.declared.answers.Made.{Made}
use Rattle.table.specs.declared.answers.Question.{Question}
use Rattle.table.specs.declared.answers.Verdict.{Verdict}
use Rattle.table.specs.declared.answers.Verdict.TheVariants as the

-- areas of just the sizes that two tables need
abbrev pub areas_for : Table → Table → Areas
areas_for new old =
    record {
      marks = replicate (pair_count new old) 0;
      path = replicate (pair_count new old) 0;
      scratch = replicate (scratch_size new old) 0;
    }

abbrev pub verdict_line : Verdict → List ℕ → List ℕ
verdict_line (the.Yes count) path = yes_line count
verdict_line (the.No found) path = no_line found (take found.steps path)

abbrev pub reply_line : Reply → List ℕ
reply_line r = elim r.answer [ Ok v ↦ verdict_line v r.areas.path | Err e ↦ [] ]

abbrev pub second_line : Question → Table → List ℕ → Made → List ℕ → List ℕ
second_line q new new_names m old_names =
    elim m.answer [
      | Err r ↦ refused_line (number r.kind) 2 r.place
      | Ok _ ↦ reply_line (verdict new new_names (against q m.table) old_names (areas_for new (against q m.table)))
    ]

unfoldable pub first_line : Question → Made → List ℕ → List ℕ → List ℕ
first_line q m new_names old_names =
    elim m.answer [
      | Err r ↦ refused_line (number r.kind) 1 r.place
      | Ok _ ↦ second_line q m.table new_names (reading old_names) old_names
    ]

-- the line for two texts, and for an input
abbrev pub line_of : Question → List ℕ → List ℕ → List ℕ
line_of q new_text old_text = first_line q (reading new_text) new_text old_text

unfoldable pub printed : Question → List ℕ → List ℕ
printed q input = line_of q (first_text input) (second_text input)

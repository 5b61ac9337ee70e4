-- What C is told where marks, path and scratch are long enough for every two texts: of the areas only the line's can be too short.
-- Assumes nothing.
use mathlib.Core.List.{List}
use mathlib.Core.Path.{◌≡◌, ap}
use Prim.Native.Nat.{ℕ, ◌*◌, ◌<◌, ◌≤◌}
use native.Mathlib.Omega.{arith}
use lib.ListN.{length}
use Rattle.rules.specs.Numbers.{text_nodes_most}
use Rattle.rules.specs.Pairs.{turns_most}
use Rattle.std.specs.Prelude.{Result}
use Rattle.table.specs.declared.answers.Question.{Question}
use Rattle.table.specs.declared.answers.Refusal.{Refusal}
use Rattle.rules.specs.Writing.{LineAreas, lengths, Counts, LeastShort, marks_short, path_short, scratch_short, line_short as the_line, WritesLine, refuses, writes, line_size}
use Rattle.rules.proofs.OwnAreas.{against_most, counts_few, fewer_pairs}
use Rattle.harness.specs.Told.{Told, a_line, too_short, TellsOwn, line_short, line_written}

-- marks, path and scratch for the largest texts
pub record Enough (q : Question) (before : LineAreas) : Type 0 where
  pub marks_long : turns_most * text_nodes_most * against_most q ≤ length before.lent.marks
  pub path_long : turns_most * text_nodes_most * against_most q ≤ length before.lent.path
  pub scratch_long : 4 * text_nodes_most * against_most q ≤ length before.lent.scratch

module _ {q : Question} {new_text old_text : List ℕ} {before : LineAreas} (E : Enough q before) where
  line_alone :
      {n m p : ℕ} → Counts q new_text old_text n m → LeastShort n m (lengths before) p → (p ≡ 4) × (length before.line < line_size n m)
  line_alone {n} {m} C s = go s
    where
      fewer : (k : ℕ) → k * n * m ≤ k * text_nodes_most * against_most q
      fewer k = fewer_pairs k (counts_few C).0 (counts_few C).1

      go : {p : ℕ} → LeastShort n m (lengths before) p → (p ≡ 4) × (length before.line < line_size n m)
      go (marks_short a) = absurd (omega (arith, a, fewer turns_most, E.marks_long))
      go (path_short a b) = absurd (omega (arith, b, fewer turns_most, E.path_long))
      go (scratch_short a b c) = absurd (omega (arith, c, fewer 4, E.scratch_long))
      go (the_line a b c d) = (omega arith, d)

  pub tells_own :
      {after : LineAreas} {w : Result ℕ Refusal} {r short : ℕ} → WritesLine q new_text old_text before after w → Told w r short
      → TellsOwn q new_text old_text before.line after.line r short
  tells_own (refuses C s e) too_short =
      let l = line_alone C s in rw l.0 (line_short C l.1 (ap (λ (a : LineAreas). a.line) e))
  tells_own (writes C L A e) a_line = line_written C L.line_long A e

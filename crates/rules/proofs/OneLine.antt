-- One input has one printed line: its texts have one reading each, and the verdict is one, whichever areas were lent for it.
-- Assumes nothing.
use mathlib.Core.List.{List}
use mathlib.Core.Path.{◌≡◌, sym, ap, ap₂, ◌∙◌}
use Prim.Native.Nat.{ℕ}
use Rattle.rules.proofs.OneReading.{one_reading}
use Rattle.rules.proofs.OneVerdict.{one_count, one_run, not_both}
use Rattle.rules.proofs.Replies.{made_not_refused, refused_one, yes_means, no_means, steps_run}
use Rattle.rules.specs.Line.{Answers, Prints, first_refused, second_refused, yes, no, no_line, yes_line, refused_line}
use Rattle.table.specs.declared.answers.Question.{Question}
use Rattle.rules.specs.Replies.{Areas, Reads, made, refused}
use Rattle.table.specs.declared.Table.{Table}
use Rattle.table.specs.declared.answers.Made.{Made}
use Rattle.rules.specs.Refusals.{number}
use Rattle.table.specs.declared.answers.RefusalKind.{RefusalKind}

pub same_table : {s : List ℕ} {t u : Table} → Reads s (made t) → Reads s (made u) → t ≡ u
same_table a b = ap (λ (m : Made). m.table) (one_reading a b)

pub not_refused : {s : List ℕ} {t : Table} {k : RefusalKind} {p : ℕ} → Reads s (made t) → Reads s (refused k p) → ⊥
not_refused a b = made_not_refused (one_reading a b)

same_refusal :
    {s : List ℕ} {j k : RefusalKind} {p q : ℕ} (which : ℕ) → Reads s (refused j p) → Reads s (refused k q)
    → refused_line (number j) which p ≡ refused_line (number k) which q
same_refusal which a b = let e = refused_one (one_reading a b) in rw (e.0, e.1)

module _ {q : Question} {new_text old_text : List ℕ} where
  -- whichever areas were lent
  pub one_answer :
      {before after before' after' : Areas} {l k : List ℕ} → Answers q new_text old_text before after l
      → Answers q new_text old_text before' after' k → l ≡ k
  one_answer (first_refused a e) (first_refused b f) = same_refusal 1 a b
  one_answer (first_refused a e) (second_refused b c f) = absurd (not_refused b a)
  one_answer (first_refused a e) (yes b c d) = absurd (not_refused b a)
  one_answer (first_refused a e) (no b c d) = absurd (not_refused b a)
  one_answer (second_refused a b e) (first_refused c f) = absurd (not_refused a c)
  one_answer (second_refused a b e) (second_refused c d f) = same_refusal 2 b d
  one_answer (second_refused a b e) (yes c d f) = absurd (not_refused d b)
  one_answer (second_refused a b e) (no c d f) = absurd (not_refused d b)
  one_answer (yes a b c) (first_refused d e) = absurd (not_refused a d)
  one_answer (yes a b c) (second_refused d e f) = absurd (not_refused b e)
  one_answer (yes a b c) (yes a' b' c') =
      let d = yes_means (rw (same_table a a', same_table b b') at c) in
      let d' = yes_means c' in
      ap yes_line (one_count _ _ _ _ d.0 d.1 d'.0 d'.1).1
  one_answer (yes a b c) (no a' b' c') =
      absurd (not_both _ _ _ _ (yes_means (rw (same_table a a', same_table b b') at c)).1 (no_means c').1)
  one_answer (no a b c) (first_refused d e) = absurd (not_refused a d)
  one_answer (no a b c) (second_refused d e f) = absurd (not_refused b e)
  one_answer (no a b c) (yes a' b' c') =
      absurd (not_both _ _ _ _ (yes_means c').1 (no_means (rw (same_table a a', same_table b b') at c)).1)
  one_answer (no a b c) (no a' b' c') =
      let X = (no_means (rw (same_table a a', same_table b b') at c)).1 in
      let X' = (no_means c').1 in
      let o = one_run _ _ _ _ X X' in
      ap₂ no_line o.1 (steps_run X ∙ o.0 ∙ sym (steps_run X'))

pub one_line : {q : Question} {input l k : List ℕ} → Prints q input l → Prints q input k → l ≡ k
one_line P P' = one_answer P.answers P'.answers

-- The computed line is the declared one, for every input; and a verdict asked of two texts that were read, in areas of their sizes, is no
-- refusal.
-- Assumes nothing.
use mathlib.Core.Bool.{false≢true}
use mathlib.Core.List.{List, []}
use mathlib.Core.Logic.{◌↔◌}
use mathlib.Core.Path.{◌≡◌, refl, sym, ◌∙◌}
use Prim.Native.Nat.{ℕ, ◌≤◌}
use native.Mathlib.Omega.{arith}
use lib.ListN.{length, replicate, length-replicate}
use Rattle.rules.specs.Line.{against, Answers, Prints, first_refused, second_refused, yes, no, first_text, second_text}
use Rattle.table.specs.declared.answers.Question.{Question}
use Rattle.rules.specs.Replies.{Reads, accepts, refuses, Areas, NoRefusal, Replaces, new_not_formed, old_not_formed, marks_short, path_short, scratch_short, made, pair_count, scratch_size}
use Rattle.rules.specs.computed.Line.{areas_for, verdict_line, second_line, first_line, printed}
use Rattle.rules.specs.computed.Reading.{reading}
use Rattle.rules.proofs.Agreement.{reads_reading}
use Rattle.rules.proofs.OneLine.{one_line}
use Rattle.rules.proofs.ReadTables.{read_formed}
use Rattle.rules.proofs.TextDual.{against_formed}
use Rattle.rules.proofs.VerdictAgreement.{verdict_replaces}
use Rattle.table.specs.declared.Table.{Table}
use Rattle.table.specs.declared.answers.Made.{Made}
use Rattle.table.specs.declared.answers.Verdict.{Verdict}
use Rattle.table.specs.declared.answers.Verdict.TheVariants as the
use Rattle.std.specs.Prelude.{Ok, Err}
use Rattle.rules.specs.Replies.{Answer}
use Rattle.rules.specs.computed.Verdict.{Reply}
use Rattle.rules.specs.computed.Line.{reply_line}
use Rattle.table.specs.declared.answers.Refusal.{Refusal}

-- where no refusal applies, none is given
pub never_refused :
    {new : Table} {new_names : List ℕ} {old : Table} {old_names : List ℕ} {before after : Areas} {r : Refusal}
    → NoRefusal new new_names old old_names before → Replaces new new_names old old_names before after (Err r) → ⊥
never_refused F (new_not_formed a e) = false≢true (sym a ∙ F.new_formed)
never_refused F (old_not_formed a b e) = false≢true (sym b ∙ F.old_formed)
never_refused F (marks_short a b m e) = omega (arith, m, F.marks_long)
never_refused F (path_short a b m p e) = omega (arith, p, F.path_long)
never_refused F (scratch_short a b m p s e) = omega (arith, s, F.scratch_long)

-- Both texts were read: where the areas are long enough, no refusal applies, and a verdict has its line.
module _ (q : Question) {new_text old_text : List ℕ} {new old : Table} {before : Areas} (a : Reads new_text (made new)) (b : Reads old_text (made old)) where
  pub texts_not_refused :
      pair_count new (against q old) ≤ length before.marks → pair_count new (against q old) ≤ length before.path
      → scratch_size new (against q old) ≤ length before.scratch → NoRefusal new new_text (against q old) old_text before
  texts_not_refused m p s =
      record { new_formed = read_formed a; old_formed = against_formed b q; marks_long = m; path_long = p; scratch_long = s }

  pub verdict_answers :
      NoRefusal new new_text (against q old) old_text before → (v : Verdict) (after : Areas)
      → Replaces new new_text (against q old) old_text before after (Ok v)
      → Answers q new_text old_text before after (verdict_line v after.path)
  verdict_answers F (the.Yes c) after r = yes a b r
  verdict_answers F (the.No f) after r = no a b r

  -- the line of a reply that computes
  pub reply_answers :
      (r : Reply) → NoRefusal new new_text (against q old) old_text before
      → Replaces new new_text (against q old) old_text before r.areas r.answer
      → Answers q new_text old_text before r.areas (reply_line r)
  reply_answers r F = go r.answer
    where
      go :
          (v : Answer) → Replaces new new_text (against q old) old_text before r.areas v
          → Answers q new_text old_text before r.areas (reply_line (record { answer = v; areas = r.areas }))
      go (Ok v) R = verdict_answers F v r.areas R
      go (Err e) R = absurd (never_refused F R)

abbrev pub no_areas : Areas
no_areas = record { marks = []; path = []; scratch = [] }

module _ (q : Question) (new_text old_text : List ℕ) where
  -- a line, and areas that it comes with
  abbrev Answered : List ℕ → Type 0
  Answered l = (before : Areas) × (after : Areas) × Answers q new_text old_text before after l

  second_answers :
      (new : Table) → Reads new_text (made new) → (m : Made) → Reads old_text m → Answered (second_line q new new_text m old_text)
  second_answers new a m (refuses f g) = (no_areas, no_areas, second_refused a (refuses f g) refl)
  second_answers new a m (accepts {x} w f) =
      let old = against q m.table in
      let zeros : (k : ℕ) → k ≤ length (replicate {A = ℕ} k 0) = λ k. omega (arith, length-replicate {A = ℕ} k 0) in
      let F = texts_not_refused q a (accepts w f) (zeros (pair_count new old)) (zeros (pair_count new old)) (zeros (scratch_size new old)) in
      (areas_for new old, _, reply_answers q a (accepts w f) _ F (verdict_replaces new new_text old old_text (areas_for new old)))

  first_answers : (m : Made) → Reads new_text m → Answered (first_line q m new_text old_text)
  unfolding first_line
  first_answers m (refuses f g) = (no_areas, no_areas, first_refused (refuses f g) refl)
  first_answers m (accepts w f) = second_answers m.table (accepts w f) (reading old_text) (reads_reading old_text)

module _ (q : Question) (input : List ℕ) where
  pub prints_printed : Prints q input (printed q input)
  unfolding printed
  prints_printed =
      let r = first_answers q (first_text input) (second_text input) (reading (first_text input)) (reads_reading (first_text input)) in
      record { before = r.0; after = r.1; answers = r.2 }

  -- So a line exists, and it is one.
  pub printed_exactly : (l : List ℕ) → Prints q input l ↔ (l ≡ printed q input)
  printed_exactly l = (λ P. one_line P prints_printed, λ e. rw e prints_printed)

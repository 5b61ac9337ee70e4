-- Two replies that the promise of writing a line allows coincide, and there is always one: the texts have one reading each, so the
-- sizes are fixed; the least area that is too short is one; and the line and the areas behind it follow from those before it.
-- Assumes nothing.
use mathlib.Core.Bool.{Bool, true, false}
use mathlib.Core.List.{List, ◌++◌}
use mathlib.Core.Path.{◌≡◌, refl, sym, ap, ◌∙◌}
use Prim.Native.Nat.{ℕ, ◌≤◌, ◌*◌}
use native.Mathlib.Omega.{arith}
use lib.Dec.{ltb}
use lib.ListN.{length, drop}
use borrow.Author.Tests.{ltb-true, ltb-false, lt-ltb, le-ltb}
use Rattle.rules.specs.Pairs.{turns_most}
use Rattle.rules.specs.Replies.{Areas, Reads, pair_count, scratch_size}
use Rattle.rules.specs.Replies as replies
use Rattle.rules.specs.Line.{against, Answers, first_refused, second_refused, yes, no}
use Rattle.table.specs.declared.answers.Question.{Question}
use Rattle.rules.specs.Writing.{LineAreas, Lengths, lengths, line_size, Counts, AllLong, LeastShort, marks_short, path_short, scratch_short, line_short, WritesLine, refuses, writes}
use Rattle.rules.specs.computed.Reading.{reading}
use Rattle.rules.proofs.Agreement.{reads_reading}
use Rattle.rules.proofs.LineAgreement.{texts_not_refused, reply_answers}
use Rattle.rules.proofs.OneLine.{same_table, not_refused, one_answer}
use Rattle.rules.proofs.OneReading.{one_reading}
use Rattle.rules.proofs.OneVerdict.{one_verdict}
use Rattle.rules.proofs.VerdictAgreement.{verdict_replaces}
use Rattle.table.specs.declared.answers.Made.{Made}
use Rattle.std.specs.Prelude.{Result, Ok, Err}
use Rattle.rules.specs.Replies.{refusal}
use Rattle.table.specs.declared.answers.Refusal.{Refusal}
use Rattle.table.specs.declared.answers.RefusalKind.TheVariants as kind

pub one_counts :
    {q : Question} {new_text old_text : List ℕ} {n m n' m' : ℕ} → Counts q new_text old_text n m → Counts q new_text old_text n' m'
    → (n ≡ n') × (m ≡ m')
one_counts {q} C D =
    let a = one_reading C.first_read D.first_read in
    let b = one_reading C.second_read D.second_read in (
      C.new_count ∙ ap (λ (r : Made). r.table.count) a ∙ sym D.new_count,
      C.old_count ∙ ap (λ (r : Made). (against q r.table).count) b ∙ sym D.old_count,
    )

-- the least area that is too short, from the tests of the four; 0 where none is
abbrev least_of : Bool → Bool → Bool → Bool → ℕ
least_of true p s l = 1
least_of false true s l = 2
least_of false false true l = 3
least_of false false false true = 4
least_of false false false false = 0

abbrev least : ℕ → ℕ → Lengths → ℕ
least n m k =
    least_of (ltb k.marks (turns_most * n * m)) (ltb k.path (turns_most * n * m)) (ltb k.scratch (4 * n * m))
    (ltb k.line (line_size n m))

module _ {n m : ℕ} {k : Lengths} where
  least_is : {p : ℕ} → LeastShort n m k p → least n m k ≡ p
  least_is (marks_short a) = rw (lt-ltb _ _ a)
  least_is (path_short a b) = rw (le-ltb _ _ a, lt-ltb _ _ b)
  least_is (scratch_short a b c) = rw (le-ltb _ _ a, le-ltb _ _ b, lt-ltb _ _ c)
  least_is (line_short a b c d) = rw (le-ltb _ _ a, le-ltb _ _ b, le-ltb _ _ c, lt-ltb _ _ d)

  pub one_short : {p r : ℕ} → LeastShort n m k p → LeastShort n m k r → p ≡ r
  one_short S T = sym (least_is S) ∙ least_is T

  pub not_short : {p : ℕ} → AllLong n m k → LeastShort n m k p → ⊥
  not_short A (marks_short a) = omega (arith, A.marks_long)
  not_short A (path_short a b) = omega (arith, A.path_long)
  not_short A (scratch_short a b c) = omega (arith, A.scratch_long)
  not_short A (line_short a b c d) = omega (arith, A.line_long)

-- the areas behind a line: untouched where a text is refused, else those of the verdict
one_areas :
    {q : Question} {new_text old_text : List ℕ} {before after after' : Areas} {l k : List ℕ}
    → Answers q new_text old_text before after l → Answers q new_text old_text before after' k → after ≡ after'
one_areas (first_refused a e) (first_refused b f) = e ∙ sym f
one_areas (first_refused a e) (second_refused b c f) = e ∙ sym f
one_areas (first_refused a e) (yes b c d) = absurd (not_refused b a)
one_areas (first_refused a e) (no b c d) = absurd (not_refused b a)
one_areas (second_refused a b e) (first_refused c f) = e ∙ sym f
one_areas (second_refused a b e) (second_refused c d f) = e ∙ sym f
one_areas (second_refused a b e) (yes c d f) = absurd (not_refused d b)
one_areas (second_refused a b e) (no c d f) = absurd (not_refused d b)
one_areas (yes a b c) (first_refused d e) = absurd (not_refused a d)
one_areas (yes a b c) (second_refused d e f) = absurd (not_refused b e)
one_areas (yes a b c) (yes d e f) = (one_verdict _ _ _ _ _ _ _ (rw (same_table a d, same_table b e) at c) f).0
one_areas (yes a b c) (no d e f) = (one_verdict _ _ _ _ _ _ _ (rw (same_table a d, same_table b e) at c) f).0
one_areas (no a b c) (first_refused d e) = absurd (not_refused a d)
one_areas (no a b c) (second_refused d e f) = absurd (not_refused b e)
one_areas (no a b c) (yes d e f) = (one_verdict _ _ _ _ _ _ _ (rw (same_table a d, same_table b e) at c) f).0
one_areas (no a b c) (no d e f) = (one_verdict _ _ _ _ _ _ _ (rw (same_table a d, same_table b e) at c) f).0

pub one_written :
    {q : Question} {new_text old_text : List ℕ} {before after after' : LineAreas} {r r' : Result ℕ Refusal}
    → WritesLine q new_text old_text before after r → WritesLine q new_text old_text before after' r' → (after ≡ after') × (r ≡ r')
one_written (refuses C S e) (refuses D T f) =
    let c = one_counts C D in (e ∙ sym f, ap (λ (p : ℕ). Err (refusal kind.AreaTooShort p)) (one_short (rw (c.0, c.1) at S) T))
one_written (refuses C S e) (writes D A W f) = let c = one_counts C D in absurd (not_short A (rw (c.0, c.1) at S))
one_written (writes C A W e) (refuses D S f) = let c = one_counts C D in absurd (not_short (rw (c.0, c.1) at A) S)
one_written {before} (writes C A W e) (writes D B X f) =
    let l = one_answer W X in
    let a = one_areas W X in
    let b = e ∙ ap (λ (k : List ℕ). k ++ drop (length k) before.line) l ∙ sym f in
    (λ i. record { lent = a i; line = b i }, ap (λ (k : List ℕ). Ok (length k)) l)

-- Areas are long enough, or one of them is the least that is not.
data Room (n m : ℕ) (k : Lengths) : Type 0 where
  too_short : {p : ℕ} → LeastShort n m k p → Room n m k
  enough : AllLong n m k → Room n m k

room : (n m : ℕ) (k : Lengths) → Room n m k
room n m k =
    go (ltb k.marks (turns_most * n * m)) refl (ltb k.path (turns_most * n * m)) refl (ltb k.scratch (4 * n * m)) refl
    (ltb k.line (line_size n m)) refl
  where
    go :
        (a : Bool) → ltb k.marks (turns_most * n * m) ≡ a → (b : Bool) → ltb k.path (turns_most * n * m) ≡ b
        → (c : Bool) → ltb k.scratch (4 * n * m) ≡ c → (d : Bool) → ltb k.line (line_size n m) ≡ d → Room n m k
    go true e b f c g d h = too_short (marks_short (ltb-true _ _ e))
    go false e true f c g d h = too_short (path_short (ltb-false _ _ e) (ltb-true _ _ f))
    go false e false f true g d h = too_short (scratch_short (ltb-false _ _ e) (ltb-false _ _ f) (ltb-true _ _ g))
    go false e false f false g true h =
        too_short (line_short (ltb-false _ _ e) (ltb-false _ _ f) (ltb-false _ _ g) (ltb-true _ _ h))
    go false e false f false g false h =
        enough
        (record {
          marks_long = ltb-false _ _ e;
          path_long = ltb-false _ _ f;
          scratch_long = ltb-false _ _ g;
          line_long = ltb-false _ _ h;
        })

module _ (q : Question) (new_text old_text : List ℕ) (before : Areas) where
  -- a line, and what the areas hold behind it
  abbrev Answered : Type 0
  Answered = (after : Areas) × (l : List ℕ) × Answers q new_text old_text before after l

  abbrev Long : Made → Made → Type 0
  Long a b =
      (pair_count a.table (against q b.table) ≤ length before.marks)
      × (pair_count a.table (against q b.table) ≤ length before.path)
      × (scratch_size a.table (against q b.table) ≤ length before.scratch)

  answers_exist : (a b : Made) → Reads new_text a → Reads old_text b → Long a b → Answered
  answers_exist a b (replies.refuses f g) S L = (before, _, first_refused (replies.refuses f g) refl)
  answers_exist a b (replies.accepts v f) (replies.refuses g h) L =
      (before, _, second_refused (replies.accepts v f) (replies.refuses g h) refl)
  answers_exist a b (replies.accepts v f) (replies.accepts w g) L =
      let old = against q b.table in
      let v = replies.accepts v f in
      let w = replies.accepts w g in
      (_, _, reply_answers q v w _ (texts_not_refused q v w L.0 L.1 L.2) (verdict_replaces a.table new_text old old_text before))

pub written_exists :
    (q : Question) (new_text old_text : List ℕ) (before : LineAreas)
    → (after : LineAreas) × (r : Result ℕ Refusal) × WritesLine q new_text old_text before after r
written_exists q new_text old_text before = go (room n m (lengths before))
  where
    a : Made
    a = reading new_text

    b : Made
    b = reading old_text

    n : ℕ
    n = a.table.count

    m : ℕ
    m = (against q b.table).count

    C : Counts q new_text old_text n m
    C =
        record {
          first = a;
          second = b;
          first_read = reads_reading new_text;
          second_read = reads_reading old_text;
          new_count = refl;
          old_count = refl;
        }

    go : Room n m (lengths before) → (after : LineAreas) × (r : Result ℕ Refusal) × WritesLine q new_text old_text before after r
    go (too_short S) = (before, _, refuses C S refl)
    go (enough A) =
        let (after, l, w) =
        answers_exist q new_text old_text before.lent a b (reads_reading new_text) (reads_reading old_text)
        (A.marks_long, A.path_long, A.scratch_long) in
        (record { lent = after; line = l ++ drop (length l) before.line }, _, writes C A w refl)

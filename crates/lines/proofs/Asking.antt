-- From what is read and judged on the way to the reply: the laws that the functions of lib.rt cite, one for each reply.
-- Assumes nothing.
use mathlib.Core.List.{List}
use mathlib.Core.Path.{◌≡◌, refl, sym, ap}
use Prim.Native.Nat.{ℕ, ◌*◌, ◌<◌, ◌≤◌}
use native.Mathlib.Nat.{mul-zero, zero-mul}
use native.Mathlib.Omega.{arith}
use lib.ListN.{length, drop, length-append}
use Rattle.rules.specs.Numbers.{table_nodes_most}
use Rattle.std.specs.Prelude.{Result, Ok, Err, ⊤}
use Rattle.rules.specs.Line.{against, Answers, first_refused, second_refused}
use Rattle.rules.specs.Replies.{Areas, Reads, accepts, refuses, Replaces, NoRefusal, made, refusal, refused, dual_reply}
use Rattle.rules.specs.Writing.{LineAreas, Counts, lengths, AllLong, LeastShort, line_short, WritesLine, refuses as refuses_area, writes, line_size}
use Rattle.rules.specs.computed.Line.{verdict_line}
use Rattle.rules.specs.computed.Reading.{reading}
use Rattle.rules.proofs.Agreement.{reads_reading}
use Rattle.rules.proofs.LineAgreement.{texts_not_refused, verdict_answers}
use Rattle.rules.proofs.LineLength.{line_length}
use Rattle.rules.proofs.ReadTables.{read_few}
use Rattle.rules.proofs.Replies.{no_means}
use Rattle.rules.proofs.TextDual.{blank-against, text_dual_given, against_few}
use Rattle.table.specs.declared.Table.{Table}
use Rattle.table.specs.declared.answers.Found.{Found}
use Rattle.table.specs.declared.answers.Made.{Made}
use Rattle.table.specs.declared.answers.Verdict.{Verdict}
use Rattle.table.specs.declared.answers.Verdict.TheVariants as the
use Rattle.table.specs.declared.answers.Question.{Question}
use Rattle.table.specs.declared.answers.Question.TheVariants.{IsCompatible}
use Rattle.table.specs.declared.answers.Refusal.{Refusal}
use Rattle.table.specs.declared.answers.RefusalKind.TheVariants as kind
use Rattle.lines.specs.Adding.{Adds, StepsInPath}
use Rattle.lines.specs.Asking.{line_of, Checked, all_long, short, WritesRefusal, too_short, written as refusal_written}
use Rattle.lines.proofs.Adding.{at_front, front_length}

-- what was read, by the answer beside the table
pub read_accepted : {s : List ℕ} {m : Made} {v : ⊤} → Reads s m → m.answer ≡ Ok v → Reads s (made m.table)
read_accepted (accepts w f) e = accepts w f
read_accepted (refuses f g) e = absurd cc

pub read_refused : {s : List ℕ} {m : Made} {r : Refusal} → Reads s m → m.answer ≡ Err r → Reads s (refused r.kind r.place)
read_refused (accepts w f) e = absurd cc
read_refused {r} (refuses {k} {p} f g) e = let a : refusal k p ≡ r = cc in rw (← a) (refuses f g)

-- the table that new is held against: a text's table has a dual
pub against-dual :
    {s : List ℕ} {t : Table} {d : Made} → Reads s (made t) → d ≡ dual_reply t s → d.table ≡ against IsCompatible t
against-dual R p = rw (p, text_dual_given R) refl

-- Both texts were read: x is the table of the new one, and y is what it is held against.
pub record Both (q : Question) (new_text old_text : List ℕ) (x y : Table) : Type 0 where
  pub other : Table
  pub new_read : Reads new_text (made x)
  pub old_read : Reads old_text (made other)
  pub against_it : y ≡ against q other

pub both_read :
    {q : Question} {new_text old_text : List ℕ} {first second : Made} {y : Table} {v w : ⊤} → Reads new_text first × Reads old_text second
    → first.answer ≡ Ok v → second.answer ≡ Ok w → y ≡ against q second.table → Both q new_text old_text first.table y
both_read {second} R f g e =
    record { other = second.table; new_read = read_accepted R.0 f; old_read = read_accepted R.1 g; against_it = e }

-- The reply for a refused text. It has no nodes, so that nothing is asked of the areas but that the line has room.
module _ {f : Refusal} {which : ℕ} {before after : List ℕ} where
  pub refusal_put :
      {r : ℕ} → line_size 0 0 ≤ length before → length (line_of f which) ≤ length before
      → Adds before 0 (line_of f which) after r → WritesRefusal f which before after (Ok r)
  refusal_put l m A = rw (front_length A) (refusal_written l (at_front A m))

no_pairs_new : (k m : ℕ) → k * 0 * m ≡ 0
no_pairs_new k m = let e : k * 0 ≡ 0 = mul-zero k in rw e (zero-mul m)

module _ (before : LineAreas) {n m : ℕ} (none : (k : ℕ) → k * n * m ≡ 0) where
  nothing_short : length before.line < line_size 0 0 → LeastShort n m (lengths before) 4
  nothing_short l = line_short (omega (arith, none 2)) (omega (arith, none 2)) (omega (arith, none 4)) (omega (arith, none 6, l))

  nothing_long : line_size 0 0 ≤ length before.line → AllLong n m (lengths before)
  nothing_long l =
      record {
        marks_long = omega (arith, none 2);
        path_long = omega (arith, none 2);
        scratch_long = omega (arith, none 4);
        line_long = omega (arith, none 6, l);
      }

  refused_reply :
      {q : Question} {new_text old_text : List ℕ} {after : LineAreas} {f : Refusal} {which : ℕ} {r : Result ℕ Refusal}
      → Counts q new_text old_text n m → after.lent ≡ before.lent
      → Answers q new_text old_text before.lent after.lent (line_of f which) → WritesRefusal f which before.line after.line r
      → WritesLine q new_text old_text before after r
  refused_reply C same A (too_short l e) = refuses_area C (nothing_short l) (λ i. record { lent = same i; line = e i })
  refused_reply C same A (refusal_written l e) = writes C (nothing_long l) A e

module _ {q : Question} {new_text old_text : List ℕ} {before after : LineAreas} {f : Refusal} {r : Result ℕ Refusal} (same : after.lent ≡ before.lent) where
  pub first_reply :
      Reads new_text (refused f.kind f.place) → WritesRefusal f 1 before.line after.line r → WritesLine q new_text old_text before after r
  first_reply R W =
      refused_reply before (λ k. no_pairs_new k (against q (reading old_text).table).count)
      (record {
        first = refused f.kind f.place;
        second = reading old_text;
        first_read = R;
        second_read = reads_reading old_text;
        new_count = refl;
        old_count = refl;
      })
      same (first_refused R same) W

  pub second_reply :
      {new : Table} → Reads new_text (made new) → Reads old_text (refused f.kind f.place) → WritesRefusal f 2 before.line after.line r
      → WritesLine q new_text old_text before after r
  second_reply {new} N R W =
      refused_reply before (λ k. mul-zero (k * new.count))
      (record {
        first = made new;
        second = refused f.kind f.place;
        first_read = N;
        second_read = R;
        new_count = refl;
        old_count = sym (blank-against q);
      })
      same (second_refused N R same) W

-- The reply where both were read.
module _ {q : Question} {new_text old_text : List ℕ} {x y : Table} (B : Both q new_text old_text x y) where
  counts : Counts q new_text old_text x.count y.count
  counts =
      record {
        first = made x;
        second = made B.other;
        first_read = B.new_read;
        second_read = B.old_read;
        new_count = refl;
        old_count = ap (λ (t : Table). t.count) B.against_it;
      }

  pub both_few : (x.count ≤ table_nodes_most) × (y.count ≤ table_nodes_most)
  both_few = (omega (arith, read_few B.new_read), rw B.against_it (against_few B.old_read q))

  pub short_reply :
      {before : LineAreas} {c : Result ⊤ Refusal} {f : Refusal} → Checked x.count y.count (lengths before) c → c ≡ Err f
      → WritesLine q new_text old_text before before (Err f)
  short_reply (all_long l) e = absurd cc
  short_reply {f} (short {p} l) e = let a : refusal kind.AreaTooShort p ≡ f = cc in rw (← a) (refuses_area counts l refl)

  module _ (before : LineAreas) {c : Result ⊤ Refusal} (K : Checked x.count y.count (lengths before) c) {u : ⊤} (z : c ≡ Ok u) where
    long : AllLong x.count y.count (lengths before)
    long = go K z
      where
        go : {c : Result ⊤ Refusal} → Checked x.count y.count (lengths before) c → c ≡ Ok u → AllLong x.count y.count (lengths before)
        go (all_long l) e = l
        go (short l) e = absurd cc

    -- nothing stands in the way of a verdict
    pub no_refusal : NoRefusal x new_text y old_text before.lent
    no_refusal =
        rw B.against_it
        (texts_not_refused q B.new_read B.old_read (rw B.against_it at long).marks_long (rw B.against_it at long).path_long
        (rw B.against_it at long).scratch_long)

    module _ (after : Areas) {v : Verdict} (R : Replaces x new_text y old_text before.lent after (Ok v)) where
      answers : Answers q new_text old_text before.lent after (verdict_line v after.path)
      answers =
          verdict_answers q B.new_read B.old_read (rw B.against_it at no_refusal) v after (rw B.against_it at R)

      pub verdict_fits : StepsInPath v after.path × (length (verdict_line v after.path) ≤ length before.line)
      verdict_fits = (go v R, omega (arith, line_length counts answers, long.line_long))
        where
          go : (v : Verdict) → Replaces x new_text y old_text before.lent after (Ok v) → StepsInPath v after.path
          go (the.Yes c) R = tt
          go (the.No f) R =
              let X = (no_means R).1 in
              let e : f.steps ≡ length X.run = ap (λ (g : Found). g.steps) X.returned in
              omega (arith, e, ap length X.path, length-append X.run (drop (length X.run) before.lent.path))

      pub verdict_reply :
          {line : List ℕ} {r : ℕ} → Adds before.line 0 (verdict_line v after.path) line r
          → WritesLine q new_text old_text before (record { lent = after; line = line }) (Ok r)
      verdict_reply A = rw (front_length A) (writes counts long answers (at_front A verdict_fits.1))

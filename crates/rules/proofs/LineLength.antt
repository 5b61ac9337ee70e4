-- How long a printed line can be: `line_size` bytes are room for it, by how small its numbers are and how few steps there are.
-- Assumes nothing.
use mathlib.Core.List.{List, [], ◌∷◌, ◌++◌}
use mathlib.Core.Path.{◌≡◌, ap, ◌∙◌}
use Prim.Native.Nat.{ℕ, ◌+◌, ◌*◌, ◌<◌, ◌≤◌}
use native.Mathlib.Omega.{arith}
use lib.ListN.{length, length-append}
use Rattle.rules.specs.Basics.{bytes}
use Rattle.rules.specs.Numbers.{text_most, labels_most}
use Rattle.rules.specs.Replies.{Areas, Reads, made}
use Rattle.rules.specs.Line.{against, Answers, first_refused, second_refused, yes, no, field, fields, line, yes_line, no_line, refused_line}
use Rattle.table.specs.declared.answers.Question.{Question}
use Rattle.rules.specs.Writing.{Counts, line_size}
use Rattle.rules.proofs.Digits.{two_digits, three_digits, four_digits, five_digits, field_few}
use Rattle.rules.proofs.Formed.{formed}
use Rattle.rules.proofs.Links.{Each}
use Rattle.rules.proofs.OneReading.{one_reading}
use Rattle.rules.proofs.Places.{pairs_few}
use Rattle.rules.proofs.Replies.{yes_means, no_means, steps_run}
use Rattle.rules.proofs.RunLength.{steps_few}
use Rattle.rules.proofs.SmallNumbers.{refusal_small, count_small, SmallFound, found_small, steps_small}
use Rattle.table.specs.declared.Table.{Table}
use Rattle.table.specs.declared.answers.Found.{Found}
use Rattle.table.specs.declared.answers.Made.{Made}
use Rattle.rules.specs.Refusals.{number}

-- a word, its fields and the line feed
pub line_parts : (w ks : List ℕ) → length (line w ks) ≡ length w + length (fields ks) + 1
line_parts w ks = omega (arith, length-append (w ++ fields ks) (bytes "\n"), length-append w (fields ks))

-- one field more
pub fields_more : (k : ℕ) (ks : List ℕ) → length (fields (k ∷ ks)) ≡ length (field k) + length (fields ks)
unfolding fields
fields_more k ks = length-append (field k) (fields ks)

fields_end : length (fields []) ≡ 0
unfolding fields
fields_end = omega arith

-- steps take three bytes each
pub steps_length : (r : List ℕ) → Each (λ s. s < labels_most) r → length (fields r) ≤ 3 * length r
steps_length [] h = omega (arith, fields_end)
steps_length (s ∷ r) h =
    omega (arith, fields_more s r, field_few 2 s (two_digits s (omega (arith, h.0))), steps_length r h.1)

pub refused-length : (n which p : ℕ) → n < 10 → which < 10 → p ≤ text_most → length (refused_line n which p) ≤ 17
refused-length n which p a b c =
    omega (
      arith,
      line_parts (bytes "refused") (n ∷ which ∷ p ∷ []),
      fields_more n (which ∷ p ∷ []),
      fields_more which (p ∷ []),
      fields_more p [],
      fields_end,
      field_few 1 n a,
      field_few 1 which b,
      field_few 4 p (four_digits p (omega arith)),
    )

pub yes-length : (count : ℕ) → count < 100000 → length (yes_line count) ≤ 10
yes-length count l =
    omega (
      arith,
      line_parts (bytes "yes") (count ∷ []),
      fields_more count [],
      fields_end,
      field_few 5 count (five_digits count l),
    )

pub no-length : (f : Found) (r : List ℕ) → SmallFound f → Each (λ s. s < labels_most) r → length (no_line f r) ≤ 3 * length r + 19
no-length f r S h =
    omega (
      arith,
      line_parts (bytes "no") (f.reason ∷ f.detail ∷ f.new ∷ f.old ∷ f.turn ∷ r),
      fields_more f.reason (f.detail ∷ f.new ∷ f.old ∷ f.turn ∷ r),
      fields_more f.detail (f.new ∷ f.old ∷ f.turn ∷ r),
      fields_more f.new (f.old ∷ f.turn ∷ r),
      fields_more f.old (f.turn ∷ r),
      fields_more f.turn r,
      field_few 2 f.reason (two_digits f.reason (omega (arith, S.reason))),
      field_few 2 f.detail (two_digits f.detail (omega (arith, S.detail))),
      field_few 3 f.new (three_digits f.new (omega (arith, S.new))),
      field_few 3 f.old (three_digits f.old (omega (arith, S.old))),
      field_few 1 f.turn (omega (arith, S.turn)),
      steps_length r h,
    )

-- the counts are those of the tables read
module _ {q : Question} {new_text old_text : List ℕ} {n m : ℕ} (C : Counts q new_text old_text n m) where
  pub counts_new : {new : Table} → Reads new_text (made new) → n ≡ new.count
  counts_new r = C.new_count ∙ ap (λ (a : Made). a.table.count) (one_reading C.first_read r)

  pub counts_old : {old : Table} → Reads old_text (made old) → m ≡ (against q old).count
  counts_old r = C.old_count ∙ ap (λ (a : Made). (against q a.table).count) (one_reading C.second_read r)

  pub line_length : {before after : Areas} {l : List ℕ} → Answers q new_text old_text before after l → length l ≤ line_size n m
  line_length (first_refused {k} {p} r e) =
      let s = refusal_small r in omega (arith, refused-length (number k) 1 p s.0 (omega arith) s.1)
  line_length (second_refused {k} {p} a r e) =
      let s = refusal_small r in omega (arith, refused-length (number k) 2 p s.0 (omega arith) s.1)
  line_length (yes {count} a b R) =
      let (F, Y) = yes_means R in
      let few = pairs_few (formed F.new_formed).few_nodes (formed F.old_formed).few_nodes in
      omega (arith, yes-length count (omega (arith, few, count_small Y)))
  line_length (no {new} {old} {found} a b R) =
      let (F, X) = no_means R in
      rw (steps_run X)
      (rw (counts_new a, counts_old b) (omega (arith, no-length found X.run (found_small F X) (steps_small F X), steps_few F X)))

-- Areas that are longer than is needed: what is said of their first parts is said of them, and what is beyond stays.
-- Assumes nothing.
use mathlib.Core.Bool.{true}
use mathlib.Core.List.{List, [], ◌∷◌, ◌++◌, append_assoc, append-nil}
use mathlib.Core.Path.{◌≡◌, refl, sym, ap, ◌∙◌}
use Prim.Native.Nat.{ℕ, zero, suc, ◌+◌, ◌*◌, ◌≤◌}
use native.Mathlib.Nat.{min-eq_left}
use native.Mathlib.Omega.{arith}
use lib.ListN.{length, take, drop, replicate, length-append, length-drop, length-take, drop_of_length-le, take-append-drop, get_or-append}
use lib.Seq.{take_at, drop_at, take_all}
use Rattle.std.specs.Prelude.{Result, Ok}
use Rattle.rules.specs.Formed.{well_formed}
use Rattle.rules.specs.Pairs.{turns_most}
use Rattle.rules.specs.Replies.{Areas, NoRefusal, SaysYes, SaysNo, Replaces, says_yes, says_no, pair_count, scratch_size, cleared, mark_place, count_marks}
use Rattle.rules.proofs.Places.{place_below, scratch_twice}
use Rattle.rules.proofs.Steps.{Within}
use Rattle.table.specs.declared.Table.{Table}
use Rattle.table.specs.declared.answers.Found.{Found}
use Rattle.table.specs.declared.answers.Verdict.{Verdict}
use Rattle.table.specs.declared.answers.Verdict.TheVariants as the
use Rattle.replace.specs.State.{EndedAt, Concludable, Concludes}
use Rattle.replace.specs.declared.FirstMismatch.{FirstMismatch}

module _ {n : ℕ} (s : List ℕ) (l : n ≤ length s) where
  pub part_long : length (take n s) ≡ n
  part_long = length-take n s ∙ min-eq_left l

  -- a first part that was cleared, and the rest
  cleared_longer : cleared n (take n s) ++ drop n s ≡ cleared n s
  cleared_longer =
      ap (λ (x : List ℕ). (replicate n 0 ++ x) ++ drop n s) (drop_of_length-le (take n s) {i = n} (omega (arith, part_long)))
      ∙ ap (λ (x : List ℕ). x ++ drop n s) (append-nil (replicate n 0))

-- what is left of a first part behind k, and the rest
drop_longer : (k n : ℕ) (s : List ℕ) → k ≤ n → drop k (take n s) ++ drop n s ≡ drop k s
drop_longer zero n s l = take-append-drop n s
drop_longer (suc k) zero s l = absurd (omega arith)
drop_longer (suc k) (suc n) [] l = refl
drop_longer (suc k) (suc n) (x ∷ s) l = drop_longer k n s (omega arith)

module _ {new : Table} {new_names : List ℕ} {old : Table} {old_names : List ℕ} {before : Areas} (F : NoRefusal new new_names old old_names before) where
  abbrev N : ℕ
  N = pair_count new old

  abbrev first_parts : Areas
  first_parts =
      record {
        marks = take N before.marks;
        path = take N before.path;
        scratch = take (scratch_size new old) before.scratch;
      }

  parts_no_refusal : NoRefusal new new_names old old_names first_parts
  parts_no_refusal =
      record {
        new_formed = F.new_formed;
        old_formed = F.old_formed;
        marks_long = omega (arith, part_long before.marks F.marks_long);
        path_long = omega (arith, part_long before.path F.path_long);
        scratch_long = omega (arith, part_long before.scratch F.scratch_long);
      }

  -- the whole areas, of which first parts were written
  abbrev wholes : Areas → Areas
  wholes a =
      record {
        marks = a.marks ++ drop N before.marks;
        path = a.path ++ drop N before.path;
        scratch = a.scratch ++ drop (scratch_size new old) before.scratch;
      }

  module _ {after : Areas} (marks_kept : length after.marks ≡ N) (path_kept : length after.path ≡ N) where
    yes_longer : {c : ℕ} → SaysYes new new_names old old_names first_parts after c → SaysYes new new_names old old_names before (wholes after) c
    yes_longer Y =
        record {
          set = Y.set;
          smallest = Y.smallest;
          size =
              length-append after.marks (drop N before.marks)
              ∙ omega (arith, marks_kept, length-drop N before.marks, F.marks_long);
          marked =
              λ p t n o.
              let w : Within new old p = record { turn_below = t; new_below = n; old_below = o } in
              get_or-append after.marks (drop N before.marks) 0 (mark_place new old p) (omega (arith, marks_kept, place_below w))
              ∙ Y.marked p t n o;
          beyond = drop_at after.marks (drop N before.marks) N marks_kept;
          counted =
              Y.counted
              ∙ ap count_marks
              (take_all N after.marks (omega arith) ∙ sym (take_at after.marks (drop N before.marks) N marks_kept));
          path = ap (λ (x : List ℕ). x ++ drop N before.path) Y.path ∙ take-append-drop N before.path;
          scratch =
              ap (λ (x : List ℕ). x ++ drop (scratch_size new old) before.scratch) Y.scratch
              ∙ cleared_longer before.scratch F.scratch_long;
        }

    no_longer : {f : Found} → SaysNo new new_names old old_names first_parts after f → SaysNo new new_names old old_names before (wholes after) f
    no_longer X =
        let short : length X.run ≤ N =
        omega (
          arith,
          path_kept,
          ap length X.path ∙ length-append X.run (drop (length X.run) (take N before.path)),
        ) in
        record {
          run = X.run;
          end = X.end;
          runs = X.runs;
          wrong = X.wrong;
          earliest = X.earliest;
          returned = X.returned;
          marks =
              ap (λ (x : List ℕ). x ++ drop N before.marks) X.marks ∙ cleared_longer before.marks F.marks_long;
          path =
              ap (λ (x : List ℕ). x ++ drop N before.path) X.path
              ∙ append_assoc X.run (drop (length X.run) (take N before.path)) (drop N before.path)
              ∙ ap (λ (x : List ℕ). X.run ++ x) (drop_longer (length X.run) N before.path short);
          scratch =
              ap (λ (x : List ℕ). x ++ drop (scratch_size new old) before.scratch) X.scratch
              ∙ cleared_longer before.scratch F.scratch_long;
        }

    replaces_longer :
        (v : Verdict) → Replaces new new_names old old_names first_parts after (Ok v)
        → Replaces new new_names old old_names before (wholes after) (Ok v)
    replaces_longer (the.Yes c) (says_yes G Y) = says_yes F (yes_longer Y)
    replaces_longer (the.No f) (says_no G X) = says_no F (no_longer X)

module _ (new old : Table) {n m : ℕ} (counted : (n ≡ new.count) × (m ≡ old.count)) {size : ℕ} (of_pairs : size ≡ turns_most * n * m) where
  pub pairs_counted : size ≡ pair_count new old
  pairs_counted = of_pairs ∙ (rw (counted.0, counted.1))

  pub pairs_twice : size + size ≡ scratch_size new old
  pairs_twice = omega (arith, pairs_counted, scratch_twice new.count old.count)

-- No refusal applies. The search is over the areas' first parts, and so is the reply to its end.
module _ {new : Table} {new_names : List ℕ} {old : Table} {old_names marks path scratch : List ℕ} (F : NoRefusal new new_names old old_names (record { marks = marks; path = path; scratch = scratch })) {n m : ℕ} (counted : (n ≡ new.count) × (m ≡ old.count)) {size : ℕ} (of_pairs : size ≡ turns_most * n * m) where
  e : size ≡ pair_count new old
  e = pairs_counted new old counted of_pairs

  d : size + size ≡ scratch_size new old
  d = pairs_twice new old counted of_pairs

  pub marks_part : length (take size marks) ≡ size
  marks_part = part_long marks (omega (arith, e, F.marks_long))

  pub path_part : length (take size path) ≡ size
  path_part = part_long path (omega (arith, e, F.path_long))

  scratch_part : length (take (size + size) scratch) ≡ size + size
  scratch_part = part_long scratch (omega (arith, d, F.scratch_long))

  pub explore_asks :
      (well_formed new new_names ≡ true) × (well_formed old old_names ≡ true) × (length (take size marks) ≡ pair_count new old)
      × (length (take (size + size) scratch) ≡ scratch_size new old)
  explore_asks = (F.new_formed, F.old_formed, marks_part ∙ e, scratch_part ∙ d)

  module _ {marks₁ scratch₁ : List ℕ} {ended : Result ℕ FirstMismatch} (E : EndedAt new new_names old old_names marks₁ scratch₁ ended) where
    pub conclude_asks : Concludable n m ended marks₁ (take size path) scratch₁
    conclude_asks =
        record {
          path_long = omega (arith, path_part, of_pairs);
          entry =
              λ w is.
              let W = rw is at E in record { tail = W.tail; queue = rw (counted.0, counted.1) W.state.queue; within = W.within };
        }

    pub replaces_concluded :
        {marks₂ path₂ scratch₂ : List ℕ} {v : Verdict} → length marks₂ ≡ size → length path₂ ≡ size
        → Concludes n m ended marks₁ (take size path) scratch₁ marks₂ path₂ scratch₂ v
        → Replaces new new_names old old_names (record { marks = marks; path = path; scratch = scratch })
        (record { marks = marks₂ ++ drop size marks; path = path₂ ++ drop size path; scratch = scratch₂ ++ drop (size + size) scratch })
        (Ok v)
    replaces_concluded {marks₂} {path₂} {scratch₂} {v} l₂ p₂ C =
        let parts : NoRefusal new new_names old old_names
        (record { marks = take size marks; path = take size path; scratch = take (size + size) scratch }) =
        rw (d, e) (parts_no_refusal F) in
        let R =
        C.replies new new_names old old_names
        (record { marks = take size marks; path = take size path; scratch = take (size + size) scratch }) counted.0 counted.1 parts
        (marks_part ∙ e) (scratch_part ∙ d) refl E in
        rw (d, e) (replaces_longer F (l₂ ∙ e) (p₂ ∙ e) v (rw (d, e) at R))

-- What the search's end says of the three areas, where these are just as long as is needed.
-- Assumes nothing.
use mathlib.Core.Bool.{true}
use mathlib.Core.List.{List, [], ◌++◌, map, append-nil}
use mathlib.Core.Path.{◌≡◌, refl, sym, ap, subst, ◌∙◌}
use mathlib.Mathlib.Data.Bool.Basic.{Bool-eq-false}
use Prim.Native.Nat.{ℕ, zero, suc, ◌*◌}
use native.Mathlib.Omega.{arith}
use lib.ListN.{length, get_or, drop, replicate, drop_of_length-le}
use lib.Seq.{take_all}
use Rattle.std.specs.Prelude.{Result, Ok, Err, Some}
use Rattle.rules.specs.Pairs.{Wrong, Pair, turns_most, mismatch_at}
use Rattle.rules.specs.Replies.{Areas, NoRefusal, Replaces, says_yes, says_no, pair_count, scratch_size, mark_place, mark, count_marks, cleared}
use Rattle.rules.proofs.Places.{pair_at, pair_at_place, place_pair_at, scratch_twice}
use Rattle.rules.proofs.Searching.{entered, entered_at, entered_where, search_earliest, search_smallest}
use Rattle.rules.proofs.Steps.{Within}
use Rattle.search.specs.Queue.{Kept, Queue, RunLeft, settled}
use Rattle.search.proofs.Marks.{settled_at, settled-length, settled_count}
use Rattle.table.specs.declared.Table.{Table}
use Rattle.table.specs.declared.answers.Found.{Found}
use Rattle.table.specs.declared.answers.Verdict.TheVariants as the
use Rattle.replace.specs.State.{pair_of, run_of, State, WrongAt, found_at, Concludes}
use Rattle.replace.specs.declared.FirstMismatch.{FirstMismatch}

nothing_behind : (k : ℕ) (s : List ℕ) → length s ≡ k → drop k s ≡ []
nothing_behind k s l = drop_of_length-le s {i = k} (omega arith)

cleared_all : {n : ℕ} (k : ℕ) (s : List ℕ) → n ≡ k → length s ≡ k → replicate n 0 ≡ cleared k s
cleared_all {n} k s e l =
    ap (λ (i : ℕ). replicate i 0) e ∙ sym (append-nil (replicate k 0))
    ∙ ap (λ (r : List ℕ). replicate k 0 ++ r) (sym (nothing_behind k s l))

module _ (new : Table) (new_names : List ℕ) (old : Table) (old_names : List ℕ) where
  abbrev N : ℕ
  N = pair_count new old

  -- a place is marked exactly if its pair has an entry
  module _ {k : Kept} (Q : Queue N k) (p : Pair) (w : Within new old p) where
    marked_entered : settled (get_or k.marks (mark_place new old p) 0) ≡ mark (entered (pair_of new new_names old old_names k) k.tail p)
    marked_entered = go (get_or k.marks (mark_place new old p) 0) refl
      where
        go : (v : ℕ) → get_or k.marks (mark_place new old p) 0 ≡ v → settled v ≡ mark (entered (pair_of new new_names old old_names k) k.tail p)
        go zero e =
            ap mark
            (sym
            (Bool-eq-false
            (λ h.
            let v = entered_where (pair_of new new_names old old_names k) k.tail p h in
            let at : get_or k.scratch v.0 0 ≡ mark_place new old p =
            sym (place_pair_at new.count old.count (get_or k.scratch v.0 0) (Q.inside v.0 v.1)) ∙ ap (mark_place new old) v.2 in
            omega (arith, rw at at (Q.marked v.0 v.1), e))))
        go (suc m) e =
            let v = Q.queued (mark_place new old p) (omega arith) in
            let at : pair_of new new_names old old_names k v.0 ≡ p = ap (pair_at new old) v.2 ∙ pair_at_place w in
            ap mark
            (sym
            (subst (λ (q : Pair). entered (pair_of new new_names old old_names k) k.tail q ≡ true) at
            (entered_at (pair_of new new_names old old_names k) k.tail v.0 v.1)))

  module _ {before : Areas} (F : NoRefusal new new_names old old_names before) (marks_exact : length before.marks ≡ N) (scratch_exact : length before.scratch ≡ scratch_size new old) {marks scratch : List ℕ} where
    scratch_size_twice : {tail : ℕ} → Queue N (record { marks = marks; scratch = scratch; tail = tail }) → length scratch ≡ scratch_size new old
    scratch_size_twice Q = Q.scratch_long ∙ sym (scratch_twice new.count old.count)

    -- every entry was looked at
    decided_yes :
        {tail : ℕ} {marks' scratch' : List ℕ}
        → State new new_names old old_names (record { marks = marks; scratch = scratch; tail = tail }) tail tail 0
        → marks' ≡ map settled marks → scratch' ≡ replicate (length scratch) 0
        → Replaces new new_names old old_names before (record { marks = marks'; path = before.path; scratch = scratch' }) (Ok (the.Yes tail))
    decided_yes {tail} {marks'} {scratch'} E m s =
        let k : Kept = record { marks = marks; scratch = scratch; tail = tail } in
        let Q = E.queue in
        let long : length marks' ≡ N = ap length m ∙ settled-length marks ∙ Q.marks_long in
        says_yes F
        (record {
          set = entered (pair_of new new_names old old_names k) tail;
          smallest = search_smallest E.searched;
          size = long ∙ sym marks_exact;
          marked =
              λ p t n o.
              let w : Within new old p = record { turn_below = t; new_below = n; old_below = o } in
              ap (λ (x : List ℕ). get_or x (mark_place new old p) 0) m ∙ settled_at (mark_place new old p) marks ∙ marked_entered Q p w;
          beyond = nothing_behind N marks' long ∙ sym (nothing_behind N before.marks marks_exact);
          counted =
              sym Q.counted ∙ sym (settled_count marks) ∙ ap count_marks (sym m ∙ sym (take_all N marks' (omega (arith, long))));
          path = refl;
          scratch = s ∙ cleared_all (scratch_size new old) before.scratch (scratch_size_twice Q) scratch_exact;
        })

    -- something was wrong at the pair of place a
    decided_no :
        {w : FirstMismatch} {a steps : ℕ} {marks' path' scratch' : List ℕ} {f : Found} → WrongAt new new_names old old_names marks scratch w
        → a ≡ get_or scratch w.at 0 → RunLeft N marks before.path scratch w.at marks' path' scratch' steps
        → f ≡ found_at new.count old.count a (Some w.mismatch) steps
        → Replaces new new_names old old_names before (record { marks = marks'; path = path'; scratch = scratch' }) (Ok (the.No f))
    decided_no {w} {a} {steps} {f} E at L e =
        let k : Kept = record { marks = marks; scratch = scratch; tail = E.tail } in
        let I = E.state.searched in
        says_no F
        (record {
          run = run_of new new_names old old_names k w.at;
          end = pair_of new new_names old old_names k w.at;
          runs = I.runs w.at E.within;
          wrong = λ d. cc E.wrong;
          earliest = search_earliest I E.within;
          returned =
              e ∙ ap (λ (i : ℕ). found_at new.count old.count i (Some w.mismatch) steps) at
              ∙ ap (λ (m : Wrong). found_at new.count old.count (get_or scratch w.at 0) m steps) (sym E.wrong)
              ∙ ap
              (found_at new.count old.count (get_or scratch w.at 0)
              (mismatch_at new new_names old old_names (pair_at new old (get_or scratch w.at 0)))) L.counted;
          marks = L.marks_cleared ∙ cleared_all N before.marks E.state.queue.marks_long marks_exact;
          path = L.written;
          scratch =
              L.scratch_cleared ∙ cleared_all (scratch_size new old) before.scratch (scratch_size_twice E.state.queue) scratch_exact;
        })

-- The reply to the search's end, for any tables of these sizes.
module _ {n m : ℕ} {ended : Result ℕ FirstMismatch} {marks path scratch marks' scratch' : List ℕ} where
  pub concluded_yes :
      {count : ℕ} → ended ≡ Ok count → marks' ≡ map settled marks → scratch' ≡ replicate (length scratch) 0
      → Concludes n m ended marks path scratch marks' path scratch' (the.Yes count)
  concluded_yes {count} is a b =
      record {
        replies =
            λ new new_names old old_names before en em F lm ls ep E.
            subst
            (λ (p : List ℕ).
            Replaces new new_names old old_names before (record { marks = marks'; path = p; scratch = scratch' }) (Ok (the.Yes count)))
            ep (decided_yes new new_names old old_names F lm ls (rw is at E) a b);
      }

  pub concluded_no :
      {w : FirstMismatch} {size a steps : ℕ} {path' : List ℕ} {f : Found} → ended ≡ Err w → size ≡ turns_most * n * m
      → a ≡ get_or scratch w.at 0 → RunLeft size marks path scratch w.at marks' path' scratch' steps
      → f ≡ found_at n m a (Some w.mismatch) steps → Concludes n m ended marks path scratch marks' path' scratch' (the.No f)
  concluded_no {w} {size} {a} {steps} {path'} is of_size at L e =
      record {
        replies =
            λ new new_names old old_names before en em F lm ls ep E.
            let here : RunLeft (pair_count new old) marks before.path scratch w.at marks' path' scratch' steps =
            rw ep (rw (of_size, en, em) at L) in
            decided_no new new_names old old_names F lm ls (rw is at E) at here (e ∙ (rw (en, em)));
      }

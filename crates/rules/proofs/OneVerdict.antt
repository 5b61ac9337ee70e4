-- Two replies that the promise of a verdict allows coincide: a yes by the smallest set's uniqueness, a no by the order of runs. The
-- answer does not depend on which areas were lent, so the printed line is one too.
-- Assumes nothing.
use mathlib.Core.Bool.{Bool, true, false}
use mathlib.Core.List.{List}
use mathlib.Core.Logic.{◌⊎◌, inl, inr}
use mathlib.Core.Path.{◌≡◌, refl, sym, ap, ◌∙◌}
use Prim.Native.Nat.{ℕ, zero, suc, ◌<◌}
use native.Mathlib.Omega.{arith}
use lib.Dec.{ltb}
use lib.ListN.{length, get_or, take, take-append-drop}
use lib.Seq.{ext_get_or, get_or-take, length-take-le}
use borrow.Author.Tests.{lt-ltb, le-ltb}
use Rattle.rules.proofs.Order.{before_total}
use Rattle.rules.proofs.Places.{pair_at, pair_at_within, place_pair_at}
use Rattle.rules.proofs.Runs.{leads_one}
use Rattle.rules.proofs.Smallest.{smallest_unique, closed_no_mismatch}
use Rattle.rules.specs.Formed.{well_formed}
use Rattle.rules.specs.Pairs.{starts}
use Rattle.rules.specs.Runs.{Before}
use Rattle.rules.specs.Replies.{Areas, NoRefusal, SaysYes, SaysNo, Replaces, new_not_formed, old_not_formed, marks_short, path_short, scratch_short, says_yes, says_no, pair_count, scratch_size, mark, count_marks}
use Rattle.table.specs.declared.Table.{Table}
use Rattle.table.specs.declared.answers.Found.{Found}
use Rattle.table.specs.declared.answers.Verdict.TheVariants as the
use Rattle.std.specs.Prelude.{Ok, Err}
use Rattle.rules.specs.Replies.{Answer, refusal}
use Rattle.table.specs.declared.answers.RefusalKind.TheVariants as kind
use Rattle.table.specs.declared.answers.Found.{Found}

module _ (new : Table) (new_names : List ℕ) (old : Table) (old_names : List ℕ) where
  module _ {before after before' after' : Areas} where
    pub one_count :
        {c c' : ℕ} → NoRefusal new new_names old old_names before → SaysYes new new_names old old_names before after c
        → NoRefusal new new_names old old_names before' → SaysYes new new_names old old_names before' after' c'
        → (take (pair_count new old) after.marks ≡ take (pair_count new old) after'.marks) × (c ≡ c')
    one_count {c} {c'} F Y F' Y' =
        let e : take N after.marks ≡ take N after'.marks =
        ext_get_or 0 _ _ (long F Y ∙ sym (long F' Y')) (λ i l. get_or-take N _ i 0 (less l) ∙ same_mark i (less l) ∙ sym (get_or-take N _ i 0 (less l))) in
        (e, Y.counted ∙ ap count_marks e ∙ sym Y'.counted)
      where
        N : ℕ
        N = pair_count new old

        long : {b a : Areas} {k : ℕ} → NoRefusal new new_names old old_names b → SaysYes new new_names old old_names b a k → length (take N a.marks) ≡ N
        long F Y = length-take-le N _ (omega (arith, F.marks_long, Y.size))

        less : {i : ℕ} → i < length (take N after.marks) → i < N
        less l = omega (arith, long F Y)

        same_mark : (i : ℕ) → i < N → get_or after.marks i 0 ≡ get_or after'.marks i 0
        same_mark i l =
            let p = pair_at new old i in
            let w = pair_at_within new.count old.count i l in
            rw (← place_pair_at new.count old.count i l)
            (Y.marked p w.turn_below w.new_below w.old_below
            ∙ ap mark (smallest_unique Y.smallest Y'.smallest p)
            ∙ sym (Y'.marked p w.turn_below w.new_below w.old_below))

    pub one_run :
        {f f' : Found} (X : SaysNo new new_names old old_names before after f) (X' : SaysNo new new_names old old_names before' after' f')
        → (X.run ≡ X'.run) × (f ≡ f')
    one_run {f} {f'} X X' = (e, X.returned ∙ (rw (e, end)) ∙ sym X'.returned)
      where
        by_order : Before X.run X'.run ⊎ ((X.run ≡ X'.run) ⊎ Before X'.run X.run) → X.run ≡ X'.run
        by_order (inl l) = absurd (X'.earliest X.run X.end X.runs X.wrong l)
        by_order (inr (inl q)) = q
        by_order (inr (inr l)) = absurd (X.earliest X'.run X'.end X'.runs X'.wrong l)

        e : X.run ≡ X'.run
        e = by_order (before_total X.run X'.run)

        end : X.end ≡ X'.end
        end = leads_one new new_names old old_names X'.run (starts new old) X.end X'.end (rw e at X.runs) X'.runs

    pub not_both :
        {c : ℕ} {f : Found} → SaysYes new new_names old old_names before after c → SaysNo new new_names old old_names before' after' f → ⊥
    not_both Y X = X.wrong (closed_no_mismatch Y.smallest.closed X.run X.end X.runs)

-- the first refusal that applies, by its position in the order; 5 where none does
abbrev first_of : Bool → Bool → Bool → Bool → Bool → ℕ
first_of false b m p s = 0
first_of true false m p s = 1
first_of true true true p s = 2
first_of true true false true s = 3
first_of true true false false true = 4
first_of true true false false false = 5

abbrev refusal_at : ℕ → Answer
refusal_at zero = Err (refusal kind.NotWellFormed 1)
refusal_at (suc zero) = Err (refusal kind.NotWellFormed 2)
refusal_at (suc (suc k)) = Err (refusal kind.AreaTooShort (suc k))

module _ (new : Table) (new_names : List ℕ) (old : Table) (old_names : List ℕ) (before : Areas) where
  abbrev stage : ℕ
  stage =
      first_of (well_formed new new_names) (well_formed old old_names) (ltb (length before.marks) (pair_count new old))
      (ltb (length before.path) (pair_count new old)) (ltb (length before.scratch) (scratch_size new old))

  module _ (after : Areas) where
    abbrev Says : Answer → Type 0
    Says (Ok (the.Yes c)) = SaysYes new new_names old old_names before after c
    Says (Ok (the.No f)) = SaysNo new new_names old old_names before after f
    Says (Err r) = ⊥

    -- a reply is the first refusal, or there is none
    data Settled (v : Answer) : Type 0 where
      refuses : (k : ℕ) → stage ≡ k → k < 5 → v ≡ refusal_at k → after ≡ before → Settled v
      answers : stage ≡ 5 → NoRefusal new new_names old old_names before → Says v → Settled v

    stage_none : NoRefusal new new_names old old_names before → stage ≡ 5
    stage_none F = rw (F.new_formed, F.old_formed, le-ltb _ _ F.marks_long, le-ltb _ _ F.path_long, le-ltb _ _ F.scratch_long)

    settled : {v : Answer} → Replaces new new_names old old_names before after v → Settled v
    settled (new_not_formed a e) = refuses 0 (rw a) (omega arith) refl e
    settled (old_not_formed a b e) = refuses 1 (rw (a, b)) (omega arith) refl e
    settled (marks_short a b m e) = refuses 2 (rw (a, b, lt-ltb _ _ m)) (omega arith) refl e
    settled (path_short a b m p e) = refuses 3 (rw (a, b, le-ltb _ _ m, lt-ltb _ _ p)) (omega arith) refl e
    settled (scratch_short a b m p s e) = refuses 4 (rw (a, b, le-ltb _ _ m, le-ltb _ _ p, lt-ltb _ _ s)) (omega arith) refl e
    settled (says_yes F Y) = answers (stage_none F) F Y
    settled (says_no F X) = answers (stage_none F) F X

-- the areas behind a yes, and behind a no, are given by those before it
module _ (new : Table) (new_names : List ℕ) (old : Table) (old_names : List ℕ) (before after after' : Areas) where
  areas_equal : after.marks ≡ after'.marks → after.path ≡ after'.path → after.scratch ≡ after'.scratch → after ≡ after'
  areas_equal a b c = λ i. record { marks = a i; path = b i; scratch = c i }

  says_one :
      (v w : Answer) → NoRefusal new new_names old old_names before → NoRefusal new new_names old old_names before
      → Says new new_names old old_names before after v → Says new new_names old old_names before after' w → (after ≡ after') × (v ≡ w)
  says_one (Ok (the.Yes c)) (Ok (the.Yes d)) F F' Y Y' =
      let o = one_count new new_names old old_names F Y F' Y' in
      let N = pair_count new old in (
        areas_equal
            (sym (take-append-drop N after.marks) ∙ (rw (o.0, Y.beyond, Y'.beyond)) ∙ take-append-drop N after'.marks)
            (Y.path ∙ sym Y'.path)
            (Y.scratch ∙ sym Y'.scratch),
        ap (λ (c : ℕ). Ok (the.Yes c)) o.1,
      )
  says_one (Ok (the.Yes c)) (Ok (the.No f)) F F' Y X = absurd (not_both new new_names old old_names Y X)
  says_one (Ok (the.Yes c)) (Err r) F F' Y X = absurd X
  says_one (Ok (the.No f)) (Ok (the.Yes c)) F F' X Y = absurd (not_both new new_names old old_names Y X)
  says_one (Ok (the.No f)) (Ok (the.No g)) F F' X X' =
      let o = one_run new new_names old old_names X X' in (
        areas_equal (X.marks ∙ sym X'.marks) (X.path ∙ (rw o.0) ∙ sym X'.path) (X.scratch ∙ sym X'.scratch),
        ap (λ (f : Found). Ok (the.No f)) o.1,
      )
  says_one (Ok (the.No f)) (Err r) F F' X Y = absurd Y
  says_one (Err r) w F F' X Y = absurd X

  pub one_verdict :
      {v w : Answer} → Replaces new new_names old old_names before after v → Replaces new new_names old old_names before after' w
      → (after ≡ after') × (v ≡ w)
  one_verdict {v} {w} A B = by_stage (settled new new_names old old_names before after A) (settled new new_names old old_names before after' B)
    where
      by_stage : Settled new new_names old old_names before after v → Settled new new_names old old_names before after' w → (after ≡ after') × (v ≡ w)
      by_stage (refuses k a l e q) (refuses j b m d r) = let s : k ≡ j = omega (arith, a, b) in (q ∙ sym r, e ∙ ap refusal_at s ∙ sym d)
      by_stage (refuses k a l e q) (answers b F X) = absurd (omega (arith, a, b))
      by_stage (answers a F X) (refuses j b m d r) = absurd (omega (arith, a, b))
      by_stage (answers a F X) (answers b G Y) = says_one v w F G X Y

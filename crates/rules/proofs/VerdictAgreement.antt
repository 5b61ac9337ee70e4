-- The computed verdict is the declared one: the twin's reply is one that `Replaces` allows, for every input. So there is one.
-- The search's invariant (Searching) is carried through the twin's moves; there are no more entries than pairs (Entries), so it ends.
-- Assumes nothing.
use Rattle.std.specs.Prelude.{None}
use mathlib.Core.Bool.{Bool, true, false}
use mathlib.Core.List.{List, [], ◌∷◌, ◌++◌}
use mathlib.Core.Logic.{◌↔◌}
use mathlib.Core.Option.{Option, none, some, some-injective}
use mathlib.Core.Path.{◌≡◌, refl, sym, ap, subst, ◌∙◌}
use Prim.Native.Nat.{ℕ, zero, suc, ◌+◌, ◌<◌}
use native.Mathlib.Numerals.{add-one}
use native.Mathlib.Omega.{arith}
use lib.Dec.{ltb}
use lib.ListN.{length, get_or, drop, length-append, length-drop, get_or-append}
use lib.Seq.{get_or-append_seam, take_at, drop_at}
use borrow.Author.Tests.{ltb-true, ltb-false}
use Rattle.rules.specs.Numbers.{labels_most}
use Rattle.rules.specs.Formed.{well_formed}
use Rattle.rules.specs.Pairs.{Pair, Step, starts, mismatch_at, step_at, IsMismatch}
use Rattle.rules.specs.Runs.{Run, Before}
use Rattle.rules.specs.Replies.{Areas, NoRefusal, Replaces, new_not_formed, old_not_formed, marks_short, path_short, scratch_short, says_yes, says_no, pair_count, scratch_size, mark_place, mark, count_marks}
use Rattle.rules.specs.computed.Verdict.{Entry, Outcome, all_fit, mismatched, unfinished, no_entry, entry_behind, reached, fits, visit, expand, explore, outcome, marks_of, Reply, refuse, settle, verdict}
use Rattle.rules.proofs.Basics.{none_some}
use Rattle.rules.proofs.Entries.{pair_of, run_of, reached_where, marked_entered, unreached_unmarked, marks_within, marks_more, marks_at, marks_length, one_mark}
use Rattle.rules.proofs.Formed.{WellFormed, formed}
use Rattle.rules.proofs.OneVerdict.{one_verdict}
use Rattle.rules.proofs.Pairs.{fits_nothing, fits_not}
use Rattle.rules.proofs.Places.{place_below}
use Rattle.rules.proofs.Runs.{leads_within, starts_within}
use Rattle.rules.proofs.Searching.{Searched, entered, search_begins, search_skips, search_passes, search_expanded, search_pushes, search_earliest, search_smallest}
use Rattle.rules.proofs.Steps.{Within, step_within, step-numbered}
use Rattle.table.specs.declared.Table.{Table}
use Rattle.rules.specs.Replies.{Answer}
use Rattle.table.specs.declared.answers.RefusalKind.{RefusalKind}
use Rattle.table.specs.declared.answers.RefusalKind.TheVariants as kind

module _ (new : Table) (new_names : List ℕ) (old : Table) (old_names : List ℕ) (new_formed : WellFormed new new_names) (old_formed : WellFormed old old_names) where
  -- the search stands at entry h, of which the steps below k were taken
  record Standing (es : List Entry) (g h k : ℕ) : Type 0 where
    searched : Searched new new_names old old_names (pair_of es) (run_of es) (length es) g h k
    counted : count_marks (marks_of new old es) ≡ length es

  -- and entry h, which is e, is being expanded
  record Expanding (e : Entry) (h : ℕ) (es : List Entry) (k : ℕ) : Type 0 where
    standing : Standing es (h + 1) h k
    there : h < length es
    this : get_or es h no_entry ≡ e

  within : {es : List Entry} {g h k : ℕ} → Standing es g h k → (j : ℕ) → j < length es → Within new old (pair_of es j)
  within {es} S j l =
      leads_within new_formed old_formed (run_of es j) (starts new old) (pair_of es j) (starts_within new_formed old_formed)
      (S.searched.runs j l)

  skips :
      (e : Entry) (h k : ℕ) (es : List Entry) → Expanding e h es k
      → ((q : Pair) → step_at new new_names old old_names e.pair k ≡ some q → (j : ℕ) × (j < length es) × (pair_of es j ≡ q))
      → Expanding e h es (k + 1)
  skips e h k es E f =
      record {
        standing =
            record {
              searched =
                  search_skips E.standing.searched E.there
                  (λ q S. f q (ap (λ (d : Entry). step_at new new_names old old_names d.pair k) (sym E.this) ∙ S.leads));
              counted = E.standing.counted;
            };
        there = E.there;
        this = E.this;
      }

  pushes :
      (e : Entry) (h k : ℕ) (es : List Entry) (q : Pair) → Expanding e h es k → step_at new new_names old old_names e.pair k ≡ some q
      → reached es q ≡ false → Expanding e h (es ++ (entry_behind e k q ∷ [])) (k + 1)
  pushes e h k es q E s u =
      let I = E.standing.searched in
      let d = entry_behind e k q in
      let S : Step new new_names old old_names (pair_of es h) k q =
      record { fits = I.good h (omega arith); leads = ap (λ (x : Entry). step_at new new_names old old_names x.pair k) E.this ∙ s } in
      let n : length (es ++ (d ∷ [])) ≡ length es + 1 = length-append es (d ∷ []) in
      let same : (j : ℕ) → j < length es → get_or (es ++ (d ∷ [])) j no_entry ≡ get_or es j no_entry = λ j l. get_or-append es (d ∷ []) no_entry j l in
      let last : get_or (es ++ (d ∷ [])) (length es) no_entry ≡ d = get_or-append_seam es d [] no_entry in
      let w : Within new old q = step_within new_formed old_formed (within E.standing h E.there) S in
      record {
        standing =
            record {
              searched =
                  subst (λ (m : ℕ). Searched new new_names old old_names (pair_of (es ++ (d ∷ []))) (run_of (es ++ (d ∷ []))) m (h + 1) h (k + 1))
                  (sym n)
                  (search_pushes (λ j l. ap (λ (x : Entry). x.pair) (same j l)) (λ j l. ap (λ (x : Entry). x.run) (same j l)) I
                  (omega (arith, E.there)) E.there S (ap (λ (x : Entry). x.pair) last)
                  (ap (λ (x : Entry). x.run) last ∙ ap (λ (x : Entry). x.run ++ (k ∷ [])) (sym E.this)));
              counted =
                  marks_more new old es d w (unreached_unmarked new old es (within E.standing) q w u) ∙ ap suc E.standing.counted
                  ∙ omega (arith, n);
            };
        there = omega (arith, n, E.there);
        this = same h E.there ∙ E.this;
      }

  visits : (e : Entry) (h k : ℕ) (es : List Entry) → Expanding e h es k → Expanding e h (visit new new_names old old_names e k es) (k + 1)
  unfolding visit
  visits e h k es E = by_step (step_at new new_names old old_names e.pair k) refl
    where
      by_entry :
          (q : Pair) → step_at new new_names old old_names e.pair k ≡ some q → (b : Bool) → reached es q ≡ b
          → Expanding e h (elim b as (λ z. List Entry) [ true ↦ es | false ↦ es ++ (entry_behind e k q ∷ []) ]) (k + 1)
      by_entry q s true r =
          skips e h k es E
          (λ p t. let v = reached_where es q r in (v.0, v.1, v.2 ∙ some-injective q p (sym s ∙ t)))
      by_entry q s false r = pushes e h k es q E s r

      by_step :
          (o : Option Pair) → step_at new new_names old old_names e.pair k ≡ o
          → Expanding e h
          (elim o as (λ z. List Entry) [
            | none ↦ es
            | some q ↦ elim (reached es q) as (λ z. List Entry) [ true ↦ es | false ↦ es ++ (entry_behind e k q ∷ []) ]
          ])
          (k + 1)
      by_step none s = skips e h k es E (λ q t. absurd (none_some (sym s ∙ t)))
      by_step (some q) s = by_entry q s (reached es q) refl

  expands :
      (e : Entry) (h n k : ℕ) (es : List Entry) → Expanding e h es k → Expanding e h (expand new new_names old old_names e n k es) (k + n)
  unfolding expand
  expands e h zero k es E = let z : k ≡ k + 0 = omega arith in subst (Expanding e h es) z E
  expands e h (suc n) k es E =
      let z : suc k + n ≡ k + suc n = omega arith in
      subst (Expanding e h (expand new new_names old old_names e (suc n) k es)) z
      (expands e h n (suc k) (visit new new_names old old_names e k es) (rw (← add-one k) (visits e h k es E)))

  -- what the search comes to
  abbrev Comes : Outcome → Type 0
  Comes (all_fit es) =
      Searched new new_names old old_names (pair_of es) (run_of es) (length es) (length es) (length es) 0
  Comes (mismatched e) =
      Run new new_names old old_names e.run e.pair × IsMismatch new new_names old old_names e.pair
      × ((r : List ℕ) (q : Pair) → Run new new_names old old_names r q → IsMismatch new new_names old old_names q → Before r e.run → ⊥)
  Comes unfinished = ⊥

  -- the entries, entry h expanded
  abbrev next : List Entry → ℕ → List Entry
  next es h = expand new new_names old old_names (get_or es h no_entry) labels_most zero es

  goes_on :
      (es : List Entry) (h : ℕ) → Standing es h h 0 → h < length es → mismatch_at new new_names old old_names (pair_of es h) ≡ None
      → Standing (next es h) (suc h) (suc h) 0
  goes_on es h S l f =
      let E =
      expands (get_or es h no_entry) h labels_most zero es
      (record { standing = record { searched = search_passes S.searched f; counted = S.counted }; there = l; this = refl }) in
      let w : Within new old (pair_of (next es h) h) = within E.standing h E.there in
      record {
        searched = rw (← add-one h) (search_expanded E.standing.searched E.there (λ s q T. step-numbered new_formed old_formed w T));
        counted = E.standing.counted;
      }

  explores : (n : ℕ) (es : List Entry) (h : ℕ) → Standing es h h 0 → pair_count new old < n + h → Comes (explore new new_names old old_names n es h)
  unfolding explore
  explores zero es h S l = omega (arith, S.searched.within, S.counted, marks_within new old es)
  explores (suc n) es h S l =
      by_end (ltb h (length es)) refl
      (λ T. explores n (next es h) (suc h) T (omega arith))
    where
      by_fit :
          (b : Bool) → fits (mismatch_at new new_names old old_names (pair_of es h)) ≡ b → h < length es
          → (Standing (next es h) (suc h) (suc h) 0 → Comes (explore new new_names old old_names n (next es h) (suc h)))
          → Comes (elim b as (λ z. Outcome) [ false ↦ mismatched (get_or es h no_entry) | true ↦ explore new new_names old old_names n (next es h) (suc h) ])
      by_fit true f l again = again (goes_on es h S l (fits_nothing _ f))
      by_fit false f l again = (S.searched.runs h l, fits_not _ f, search_earliest S.searched l)

      by_end :
          (b : Bool) → ltb h (length es) ≡ b → (Standing (next es h) (suc h) (suc h) 0 → Comes (explore new new_names old old_names n (next es h) (suc h)))
          → Comes (elim b as (λ z. Outcome) [
            | false ↦ all_fit es
            | true ↦
                elim (fits (mismatch_at new new_names old old_names (pair_of es h))) as (λ z. Outcome) [
                  | false ↦ mismatched (get_or es h no_entry)
                  | true ↦ explore new new_names old old_names n (next es h) (suc h)
                ]
          ])
      by_end true t again = by_fit _ refl (ltb-true _ _ t) again
      by_end false t again =
          let z : h ≡ length es = omega (arith, ltb-false h (length es) t, S.searched.within) in
          subst (λ (m : ℕ). Searched new new_names old old_names (pair_of es) (run_of es) (length es) m m 0) z S.searched

  outcome_comes : Comes (outcome new new_names old old_names)
  unfolding outcome
  outcome_comes =
      explores (suc (pair_count new old)) (begin ∷ []) zero
      (record {
        searched = search_begins (pair_of (begin ∷ [])) (run_of (begin ∷ [])) refl refl;
        counted = one_mark new old begin (starts_within new_formed old_formed);
      })
      (omega arith)
    where
      begin : Entry
      begin = record { pair = starts new old; run = [] }

  -- what it comes to is settled as declared
  module _ (before : Areas) (F : NoRefusal new new_names old old_names before) where
    settles :
        (o : Outcome) → Comes o
        → Replaces new new_names old old_names before (settle new new_names old old_names before o).areas
        (settle new new_names old old_names before o).answer
    unfolding settle
    settles (all_fit es) I =
        let rest = drop (pair_count new old) before.marks in
        let long = marks_length new old es in
        let inside : (j : ℕ) → j < length es → Within new old (pair_of es j) =
        λ j l. leads_within new_formed old_formed (run_of es j) (starts new old) (pair_of es j) (starts_within new_formed old_formed) (I.runs j l) in
        says_yes F
        (record {
          set = entered (pair_of es) (length es);
          smallest = search_smallest I;
          size =
              length-append (marks_of new old es) rest
              ∙ omega (arith, long, length-drop (pair_count new old) before.marks, F.marks_long);
          marked =
              λ p t n o.
              let w : Within new old p = record { turn_below = t; new_below = n; old_below = o } in
              get_or-append (marks_of new old es) rest 0 (mark_place new old p) (omega (arith, long, place_below w))
              ∙ marks_at new old es p w ∙ ap mark (marked_entered new old es inside p w);
          beyond = drop_at (marks_of new old es) rest (pair_count new old) long;
          counted = ap count_marks (sym (take_at (marks_of new old es) rest (pair_count new old) long));
          path = refl;
          scratch = refl;
        })
    settles (mismatched e) (u, bad, earliest) =
        says_no F
        (record {
          run = e.run;
          end = e.pair;
          runs = u;
          wrong = bad;
          earliest = earliest;
          returned = refl;
          marks = refl;
          path = refl;
          scratch = refl;
        })
    settles unfinished c = absurd c

-- the twin's reply, refusal by refusal
module _ (new : Table) (new_names : List ℕ) (old : Table) (old_names : List ℕ) (before : Areas) where
  abbrev Right : Reply → Type 0
  Right r = Replaces new new_names old old_names before r.areas r.answer

  abbrev refusing : RefusalKind → ℕ → Reply
  refusing = refuse new new_names old old_names before

  pub verdict_replaces : Right (verdict new new_names old old_names before)
  unfolding verdict
  verdict_replaces = by_new (well_formed new new_names) refl
    where
      is : {r : Reply} → verdict new new_names old old_names before ≡ r → Right r → Right (verdict new new_names old old_names before)
      is e h = subst Right (sym e) h

      by_scratch :
          (b : Bool) → ltb (length before.scratch) (scratch_size new old) ≡ b → well_formed new new_names ≡ true
          → well_formed old old_names ≡ true → ltb (length before.marks) (pair_count new old) ≡ false
          → ltb (length before.path) (pair_count new old) ≡ false → Right (verdict new new_names old old_names before)
      by_scratch true s n o m p =
          is {r = refusing kind.AreaTooShort 3} (rw (verdict, n, o, m, p, s) refl)
          (scratch_short n o (ltb-false _ _ m) (ltb-false _ _ p) (ltb-true _ _ s) refl)
      by_scratch false s n o m p =
          is {r = settle new new_names old old_names before (outcome new new_names old old_names)} (rw (verdict, n, o, m, p, s) refl)
          (settles new new_names old old_names (formed n) (formed o) before
          (record {
            new_formed = n;
            old_formed = o;
            marks_long = ltb-false _ _ m;
            path_long = ltb-false _ _ p;
            scratch_long = ltb-false _ _ s;
          })
          (outcome new new_names old old_names) (outcome_comes new new_names old old_names (formed n) (formed o)))

      by_path :
          (b : Bool) → ltb (length before.path) (pair_count new old) ≡ b → well_formed new new_names ≡ true
          → well_formed old old_names ≡ true → ltb (length before.marks) (pair_count new old) ≡ false
          → Right (verdict new new_names old old_names before)
      by_path true p n o m =
          is {r = refusing kind.AreaTooShort 2} (rw (verdict, n, o, m, p) refl) (path_short n o (ltb-false _ _ m) (ltb-true _ _ p) refl)
      by_path false p n o m = by_scratch _ refl n o m p

      by_marks :
          (b : Bool) → ltb (length before.marks) (pair_count new old) ≡ b → well_formed new new_names ≡ true
          → well_formed old old_names ≡ true → Right (verdict new new_names old old_names before)
      by_marks true m n o = is {r = refusing kind.AreaTooShort 1} (rw (verdict, n, o, m) refl) (marks_short n o (ltb-true _ _ m) refl)
      by_marks false m n o = by_path _ refl n o m

      by_old : (b : Bool) → well_formed old old_names ≡ b → well_formed new new_names ≡ true → Right (verdict new new_names old old_names before)
      by_old false o n = is {r = refusing kind.NotWellFormed 2} (rw (verdict, n, o) refl) (old_not_formed n o refl)
      by_old true o n = by_marks _ refl n o

      by_new : (b : Bool) → well_formed new new_names ≡ b → Right (verdict new new_names old old_names before)
      by_new false n = is {r = refusing kind.NotWellFormed 1} (rw (verdict, n) refl) (new_not_formed n refl)
      by_new true n = by_old _ refl n

  -- So a reply exists, and it is one.
  pub verdict_exactly :
      (after : Areas) (v : Answer)
      → Replaces new new_names old old_names before after v ↔ (record { answer = v; areas = after } ≡ verdict new new_names old old_names before)
  verdict_exactly after v = (
    λ r.
        let o = one_verdict new new_names old old_names before after (verdict new new_names old old_names before).areas r verdict_replaces in
        λ i. record { answer = o.1 i; areas = o.0 i },
    λ e. subst Right (sym e) verdict_replaces,
  )

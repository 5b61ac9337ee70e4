-- Document 01, "What the promises decide": five hollow programs, and that the promise of a verdict allows none of their replies, each on a
-- named example and with the demand that shuts it out.
-- Assumes nothing.
use mathlib.Core.Bool.{Bool, true, false, false≢true}
use mathlib.Core.List.{List, [], ◌∷◌}
use mathlib.Core.Logic.{inl}
use mathlib.Core.Option.{none-ne-some, some-injective}
use mathlib.Core.Path.{◌≡◌, refl, sym, ap, ap₂, ◌∙◌}
use Prim.Native.Nat.{ℕ, ◌≤◌}
use Prim.Native.String.{String}
use native.Mathlib.Omega.{arith}
use lib.ListN.{length, get_or, take, replicate}
use Rattle.rules.proofs.Computes.{computes}
use Rattle.rules.proofs.Replies.{yes_means, no_means, steps_run}
use Rattle.rules.proofs.Pairs.{same_pair_true}
use Rattle.rules.proofs.Smallest.{closed_no_mismatch}
use Rattle.rules.proofs.Starred.{R, N, P, Q}
use Rattle.rules.specs.Basics.{bytes}
use Rattle.rules.specs.Pairs.{Pair, IsMismatch, starts}
use Rattle.rules.specs.Replace.{Closed}
use Rattle.rules.specs.Replies.{Areas, Replaces, SaysNo, new_not_formed, old_not_formed, marks_short, path_short, scratch_short, mark}
use Rattle.rules.specs.Runs.{Run}
use Rattle.rules.specs.computed.Line.{areas_for}
use Rattle.rules.specs.computed.Reading.{reading}
use Rattle.rules.specs.computed.Verdict.{same_pair}
use Rattle.table.specs.declared.Table.{Table}
use Rattle.table.specs.declared.answers.Found.{Found}
use Rattle.table.specs.declared.answers.Verdict.TheVariants as the
use Rattle.std.specs.Prelude.{Ok, Err}
use Rattle.rules.specs.Replies.{Answer}
use Rattle.table.specs.declared.answers.Refusal.{Refusal}

-- the table of a text
abbrev pub table : String → Table
table s = (reading (bytes s)).table

-- the replies that the promise allows for two texts
abbrev pub Allowed : String → String → Areas → Areas → Answer → Type 0
Allowed new old before after v = Replaces (table new) (bytes new) (table old) (bytes old) before after v

-- One that refuses everything: demand 2. R and R are well formed, and the areas have the published sizes.
pub refusing_everything : (r : Refusal) (after : Areas) → Allowed R R (areas_for (table R) (table R)) after (Err r) → ⊥
unfolding computes
refusing_everything r after (new_not_formed a e) = false≢true (sym a)
refusing_everything r after (old_not_formed a b e) = false≢true (sym b)
refusing_everything r after (marks_short a b m e) = omega arith
refusing_everything r after (path_short a b m l e) = omega arith
refusing_everything r after (scratch_short a b m l s e) = omega arith

-- One that says yes throughout: demands 2 and 3. From the starts of Q and P step 0 leads to a mismatch.
offered : Pair
offered = record { turn = 1; new = 1; old = 1 }

into_offered : Run (table Q) (bytes Q) (table P) (bytes P) (0 ∷ []) offered
unfolding computes offered
into_offered = (offered, record { fits = refl; leads = refl }, refl)

offered_wrong : IsMismatch (table Q) (bytes Q) (table P) (bytes P) offered
unfolding computes offered
offered_wrong e = let z : ◌≡◌ {A = ℕ} 0 1 = cc in omega arith

pub yes_throughout : (c : ℕ) (before after : Areas) → Allowed Q P before after (Ok (the.Yes c)) → ⊥
yes_throughout c before after r =
    offered_wrong (closed_no_mismatch (yes_means r).1.smallest.closed (0 ∷ []) offered into_offered)

-- One that writes no marks or path: demands 2 and 3. After a yes the starts are marked; after N's no against R the path cannot stand as
-- it was found, since from the starts there is no step 7.
pub no_marks : (c : ℕ) (after : Areas) → after.marks ≡ (areas_for (table R) (table R)).marks → Allowed R R (areas_for (table R) (table R)) after (Ok (the.Yes c)) → ⊥
unfolding computes
no_marks c after e r =
    let Y = (yes_means r).1 in
    let m = Y.marked (starts (table R) (table R)) (omega arith) (omega arith) (omega arith) in
    omega (arith, sym (ap (λ (l : List ℕ). get_or l 0 0) e) ∙ m ∙ ap mark Y.smallest.closed.holds_starts)

abbrev pub found_areas : Areas
found_areas = record { marks = replicate 50 7; path = replicate 50 7; scratch = replicate 100 7 }

starts_fit : IsMismatch (table N) (bytes N) (table R) (bytes R) (starts (table N) (table R)) → ⊥
unfolding computes
starts_fit w = w refl

pub no_path : (f : Found) (after : Areas) → after.path ≡ found_areas.path → Allowed N R found_areas after (Ok (the.No f)) → ⊥
unfolding computes
no_path f after e r = by_run X.run refl
  where
    X : SaysNo (table N) (bytes N) (table R) (bytes R) found_areas after f
    X = (no_means r).1

    by_run : (run : List ℕ) → X.run ≡ run → ⊥
    by_run [] q = starts_fit (rw (← (rw q at X.runs)) at X.wrong)
    by_run (s ∷ run) q =
        let h : s ≡ 7 = ap (λ (l : List ℕ). get_or l 0 0) (rw q at (sym X.path ∙ e)) in
        let S = rw (q, h) at X.runs in
        none-ne-some _ S.1.leads

-- One whose first step is real and whose later steps are filler: demand 3. N against R goes 0, 4; its step 0 leads to a message whose only
-- item is a sort, so that there is no step 0 from there.
pub filler_steps :
    (f : Found) (after : Areas) → f.steps ≡ 2 → after.path ≡ 0 ∷ 0 ∷ replicate 48 7 → Allowed N R found_areas after (Ok (the.No f)) → ⊥
unfolding computes
filler_steps f after e q r =
    let X = (no_means r).1 in
    let run : 0 ∷ 0 ∷ [] ≡ X.run = sym (ap₂ take e q) ∙ steps_run X in
    let u = rw (← run) at X.runs in
    let first : record { turn = 0; new = 1; old = 1 } ≡ u.0 = some-injective _ _ u.1.leads in
    none-ne-some _ (rw (← first) at u.2.1.leads)

-- One whose mark or step count is invented: demands 2 and 3. `A = end .` against itself has one mark, and Q against P one step.
abbrev pub E : String
E = "A = end ."

only_starts : Pair → Bool
only_starts p = same_pair p (starts (table E) (table E))

only_starts_closed : Closed (table E) (bytes E) (table E) (bytes E) only_starts
unfolding computes only_starts
only_starts_closed =
    record {
      holds_starts = refl;
      no_mismatch = λ p e. rw (same_pair_true p _ e);
      all_steps = λ p q s e S. absurd (none-ne-some q (rw (same_pair_true p _ e) at S.leads));
    }

-- the first two of a list that is at least that long
two : (l : List ℕ) → 2 ≤ length l → take 2 l ≡ get_or l 0 0 ∷ get_or l 1 0 ∷ []
two [] h = absurd (omega arith)
two (a ∷ []) h = absurd (omega arith)
two (a ∷ b ∷ l) h = refl

pub invented_mark_count : (c : ℕ) (before after : Areas) → Allowed E E before after (Ok (the.Yes c)) → c ≡ 1
unfolding computes only_starts
invented_mark_count c before after r =
    let F = (yes_means r).0 in
    let Y = (yes_means r).1 in
    let first : get_or after.marks 0 0 ≡ 1 =
    Y.marked (record { turn = 0; new = 0; old = 0 }) (omega arith) (omega arith) (omega arith) ∙ ap mark Y.smallest.closed.holds_starts in
    let second : get_or after.marks 1 0 ≡ 0 =
    Y.marked (record { turn = 1; new = 0; old = 0 }) (omega arith) (omega arith) (omega arith) ∙ unmarked (Y.set turned) (λ e. Y.smallest.inside only_starts only_starts_closed turned e) in
    Y.counted ∙ (rw (two after.marks (omega (arith, F.marks_long, Y.size)), first, second))
  where
    turned : Pair
    turned = record { turn = 1; new = 0; old = 0 }

    unmarked : (b : Bool) → (b ≡ true → only_starts turned ≡ true) → mark b ≡ 0
    unmarked true h = absurd (false≢true (h refl))
    unmarked false h = refl

pub invented_step_count : (f : Found) (before after : Areas) → Allowed Q P before after (Ok (the.No f)) → f.steps ≡ 1
unfolding computes
invented_step_count f before after r =
    ap (λ (g : Found). g.steps) X.returned ∙ by_length X.run refl
  where
    X : SaysNo (table Q) (bytes Q) (table P) (bytes P) before after f
    X = (no_means r).1

    by_length : (run : List ℕ) → X.run ≡ run → length X.run ≡ 1
    by_length [] q = absurd ((rw (← (rw q at X.runs)) at X.wrong) refl)
    by_length (s ∷ []) q = rw q
    by_length (s ∷ t ∷ run) q = absurd (X.earliest (0 ∷ []) offered into_offered offered_wrong (rw q (inl (omega arith))))

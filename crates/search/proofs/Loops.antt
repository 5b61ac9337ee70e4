-- The loops over the areas: what holds at each turn, that a turn keeps it, and what it says at the end.
-- A loop goes from an entry to its parents, and counts or writes their steps.
-- Assumes nothing.
use mathlib.Core.List.{List, [], ◌∷◌, ◌++◌, append_assoc}
use mathlib.Core.Path.{◌≡◌, refl, ◌∙◌}
use Prim.Native.Nat.{ℕ, suc, ◌+◌, ◌-◌, ◌<◌, ◌≤◌}
use native.Mathlib.Decide.{ℕ_discrete}
use native.Mathlib.Numerals.{add-one}
use native.Mathlib.Omega.{arith}
use lib.ListN.{length, get_or, set, drop, length-set, length-append}
use lib.Seq.{get_or-set_same, drop-cons, drop-set-lt}
use Rattle.search.specs.Queue.{Entry, step_into, run_at}
use Rattle.search.proofs.Queues.{queue_fits}
use Rattle.search.proofs.Runs.{run_start, run_step, run_short}

-- the walk from entry `at` to i, k steps up
pub record Walked (size : ℕ) (marks scratch : List ℕ) (at i k : ℕ) : Type 0 where
  pub here : Entry size marks scratch i
  pub sum : k + length (run_at size marks scratch i) ≡ length (run_at size marks scratch at)
  pub few : i + k ≤ at
  pub fits : i < size

-- of the steps to entry `at`, all but the first j are written, from place j on: i is the entry where the first j lead
pub record Written (size : ℕ) (marks scratch : List ℕ) (at steps : ℕ) (p₀ p : List ℕ) (i j : ℕ) : Type 0 where
  pub here : Entry size marks scratch i
  pub left : j ≡ length (run_at size marks scratch i)
  pub long : length p ≡ length p₀
  pub fits : j ≤ length p
  pub inside : i < size
  pub same : run_at size marks scratch i ++ drop j p ≡ run_at size marks scratch at ++ drop steps p₀

-- one step written in front of those that stand
written_front : (p : List ℕ) (j s : ℕ) → j < length p → drop j (set p j s) ≡ s ∷ drop (j + 1) p
written_front p j s l =
    drop-cons (set p j s) j 0 (rw length-set l) ∙ rw (get_or-set_same p j s 0 l, drop-set-lt (suc j) p j s (omega arith), add-one)

module _ {size : ℕ} {marks scratch : List ℕ} where
  pub entry_fits : {i : ℕ} → Entry size marks scratch i → i < size
  entry_fits E = omega (arith, E.within, queue_fits E.queue)

  -- an entry's parent is an entry before it
  pub parent_before : {i p : ℕ} → Entry size marks scratch i → 0 < i → p ≡ get_or scratch (size + i) 0 → p < i
  parent_before {i} E z e = rw e (E.queue.falls i E.within z)

  parent_entry : {i p : ℕ} → Entry size marks scratch i → 0 < i → p ≡ get_or scratch (size + i) 0 → Entry size marks scratch p
  parent_entry E z e = record { tail = E.tail; queue = E.queue; within = omega (arith, parent_before E z e, E.within) }

  run_by_parent :
      {i p s : ℕ} → Entry size marks scratch i → 0 < i → p ≡ get_or scratch (size + i) 0 → s ≡ step_into marks scratch i
      → run_at size marks scratch i ≡ run_at size marks scratch p ++ (s ∷ [])
  run_by_parent E z e es = rw (e, es) (run_step E.queue z E.within)

  pub walk-begin : {at : ℕ} → Entry size marks scratch at → Walked size marks scratch at at 0
  walk-begin E = record { here = E; sum = omega arith; few = omega arith; fits = entry_fits E }

  pub walk_turn :
      {at i k p : ℕ} → Walked size marks scratch at i k → 0 < i → p ≡ get_or scratch (size + i) 0 → Walked size marks scratch at p (k + 1)
  walk_turn {at} {i} {k} {p} W z e =
      let r = run_by_parent W.here z e refl in
      record {
        here = parent_entry W.here z e;
        sum = omega (arith, rw (r, length-append) at W.sum);
        few = omega (arith, parent_before W.here z e, W.few);
        fits = entry_fits (parent_entry W.here z e);
      }

  pub walk_end : {at i k : ℕ} → Walked size marks scratch at i k → i ≤ 0 → k ≡ length (run_at size marks scratch at)
  walk_end {at} {i} {k} W l = let e : i ≡ 0 = omega arith in omega (arith, rw (e, run_start size marks scratch) at W.sum)

  pub write_begin :
      {at steps : ℕ} {p : List ℕ} → Entry size marks scratch at → steps ≡ length (run_at size marks scratch at) → size ≤ length p
      → Written size marks scratch at steps p p at steps
  write_begin E e l =
      record {
        here = E;
        left = e;
        long = refl;
        fits = omega (arith, e, run_short E.queue E.within, entry_fits E);
        inside = entry_fits E;
        same = refl;
      }

  module _ {at steps : ℕ} {p₀ p : List ℕ} {i j : ℕ} (W : Written size marks scratch at steps p₀ p i j) where
    -- where a step is left to write, i is not the start
    write_up : 0 < j → 0 < i
    write_up l = go (ℕ_discrete i 0)
      where
        go : Dec (i ≡ 0) → 0 < i
        go (no ne) = omega arith
        go (yes e) = absurd (omega (arith, rw (e, run_start size marks scratch) at W.left))

    pub write_turn :
        {s q : ℕ} → 0 < j → s ≡ step_into marks scratch i → q ≡ get_or scratch (size + i) 0
        → Written size marks scratch at steps p₀ (set p (j - 1) s) q (j - 1)
    write_turn {s} {q} l es e =
        let r = run_by_parent W.here (write_up l) e es in
        let back : j - 1 + 1 ≡ j = omega arith in
        record {
          here = parent_entry W.here (write_up l) e;
          left = omega (arith, rw (r, length-append) at W.left);
          long = rw length-set W.long;
          fits = rw length-set (omega (arith, W.fits));
          inside = entry_fits (parent_entry W.here (write_up l) e);
          same = rw (written_front p (j - 1) s (omega (arith, W.fits)), back) (rw (r, append_assoc) at W.same);
        }

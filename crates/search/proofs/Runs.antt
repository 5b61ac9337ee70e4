-- Laws of the run to an entry: it is its parent's run and the step into the entry. The fuel of `trace` is enough, since a parent stands
-- before its child. A visit changes neither the parents nor the marks of the entries before it, so their runs stay.
-- Assumes nothing.
use borrow.Author.Tests.{ne_eqb}
use mathlib.Core.List.{List, [], ◌∷◌, ◌++◌}
use mathlib.Core.Path.{◌≡◌, refl, sym, ap, ◌∙◌}
use Prim.Native.Nat.{ℕ, zero, suc, ◌+◌, ◌<◌, ◌≤◌}
use native.Mathlib.Decide.{ℕ_discrete}
use native.Mathlib.Omega.{arith}
use lib.ListN.{length, get_or, length-append}
use Rattle.search.specs.Queue.{Kept, Queue, visited, step_into, trace, run_at}
use Rattle.search.proofs.Queues.{queue_fits, queue_visited, visited_tail, visited_entry, visited-parent, visited-mark, entry_kept, parent_kept, mark_kept}

module _ (size : ℕ) (marks scratch : List ℕ) where
  trace_start : (n : ℕ) → trace size marks scratch n 0 ≡ []
  unfolding trace
  trace_start zero = refl
  trace_start (suc n) = refl

  trace-step :
      (n i : ℕ) → 0 < i
      → trace size marks scratch (suc n) i ≡ trace size marks scratch n (get_or scratch (size + i) 0) ++ (step_into marks scratch i ∷ [])
  unfolding trace
  trace-step n i z = rw (trace, ne_eqb i 0 (omega arith))

  pub run_start : run_at size marks scratch 0 ≡ []
  unfolding run_at
  run_start = trace_start size

module _ {size : ℕ} {k : Kept} (Q : Queue size k) where
  abbrev parent : ℕ → ℕ
  parent i = get_or k.scratch (size + i) 0

  abbrev last : ℕ → List ℕ
  last i = step_into k.marks k.scratch i ∷ []

  abbrev traced : ℕ → ℕ → List ℕ
  traced n i = trace size k.marks k.scratch n i

  abbrev run : ℕ → List ℕ
  run i = run_at size k.marks k.scratch i

  -- what holds of the start, and of an entry if of its parent, holds of each entry
  by_parents :
      (P : ℕ → Type 0) → P 0 → ((i : ℕ) → 0 < i → i < k.tail → P (parent i) → P i) → (n i : ℕ) → i ≤ n → i < k.tail → P i
  by_parents P base more zero i l y = let e : i ≡ 0 = omega arith in rw e base
  by_parents P base more (suc n) i l y = go (λ j. by_parents P base more n j) (ℕ_discrete i 0)
    where
      go : ((j : ℕ) → j ≤ n → j < k.tail → P j) → Dec (i ≡ 0) → P i
      go below (yes e) = rw e base
      go below (no ne) =
          let w : parent i < i = Q.falls i y (omega arith) in
          more i (omega arith) y (below (parent i) (omega arith) (omega arith))

  each_entry : (P : ℕ → Type 0) → P 0 → ((i : ℕ) → 0 < i → i < k.tail → P (parent i) → P i) → (i : ℕ) → i < k.tail → P i
  each_entry P base more i y = by_parents P base more i i (omega arith) y

  -- fuel for as many steps as there are entries before it is enough
  abbrev Enough : ℕ → Type 0
  Enough i = (n m : ℕ) → i ≤ n → i ≤ m → traced n i ≡ traced m i

  enough : (i : ℕ) → i < k.tail → Enough i
  enough = each_entry Enough (λ n m l l'. trace_start size _ _ n ∙ sym (trace_start size _ _ m)) more
    where
      more : (i : ℕ) → 0 < i → i < k.tail → Enough (parent i) → Enough i
      more i z y E zero m l l' = absurd (omega arith)
      more i z y E (suc n) zero l l' = absurd (omega arith)
      more i z y E (suc n) (suc m) l l' =
          let w : parent i < i = Q.falls i y z in
          trace-step size _ _ n i z ∙ ap (λ (r : List ℕ). r ++ last i) (E n m (omega arith) (omega arith))
          ∙ sym (trace-step size _ _ m i z)

  pub run_step :
      {i : ℕ} → 0 < i → i < k.tail
      → run_at size k.marks k.scratch i
      ≡ run_at size k.marks k.scratch (get_or k.scratch (size + i) 0) ++ (step_into k.marks k.scratch i ∷ [])
  unfolding run_at
  run_step {i} z y =
      enough i y size (suc size) (omega (arith, queue_fits Q)) (omega (arith, queue_fits Q)) ∙ trace-step size _ _ size i z

  pub run_short : {i : ℕ} → i < k.tail → length (run_at size k.marks k.scratch i) ≤ i
  run_short {i} y = each_entry (λ i. length (run i) ≤ i) (rw run_start (omega arith)) more i y
    where
      more : (i : ℕ) → 0 < i → i < k.tail → length (run (parent i)) ≤ parent i → length (run i) ≤ i
      more i z y short = rw (run_step z y, length-append) (omega (arith, Q.falls i y z))

  -- what goes by the parents as the runs do is the runs
  run_is :
      (R : ℕ → List ℕ) → R 0 ≡ [] → ((i : ℕ) → 0 < i → i < k.tail → R i ≡ R (parent i) ++ last i) → (i : ℕ) → i < k.tail → R i ≡ run i
  run_is R base step =
      each_entry (λ i. R i ≡ run i) (base ∙ sym (run_start size _ _))
      (λ i z y e. step i z y ∙ ap (λ (r : List ℕ). r ++ last i) e ∙ sym (run_step z y))

module _ {size h q : ℕ} {k : Kept} (s : ℕ) (Q : Queue size k) (before : h < k.tail) (within : q < size)
    (free : get_or k.marks q 0 ≡ 0) where
  abbrev after : Kept
  after = visited size h s q k

  still_queue : Queue size after
  still_queue = queue_visited s Q before within

  grown : after.tail ≡ k.tail + 1
  grown = visited_tail s Q before within free

  pub run_kept : (j : ℕ) → j < k.tail → run_at size after.marks after.scratch j ≡ run_at size k.marks k.scratch j
  run_kept = run_is Q (λ j. run_at size after.marks after.scratch j) (run_start size _ _) more
    where
      more :
          (j : ℕ) → 0 < j → j < k.tail
          → run_at size after.marks after.scratch j
          ≡ run_at size after.marks after.scratch (get_or k.scratch (size + j) 0) ++ (step_into k.marks k.scratch j ∷ [])
      more j z l =
          rw (
            ← mark_kept s Q before within free j l,
            ← entry_kept s Q before within free j l,
            ← parent_kept s Q before within free j l,
          )
          (run_step still_queue z (omega (arith, grown)))

  pub run_new : run_at size after.marks after.scratch k.tail ≡ run_at size k.marks k.scratch h ++ (s ∷ [])
  run_new =
      run_step still_queue {i = k.tail} (omega arith) (omega (arith, grown))
      ∙ rw (
        visited-parent s Q before within free,
        visited_entry s Q before within free,
        visited-mark s Q before within free,
        run_kept h before,
      )
      (ap (λ x. run_at size k.marks k.scratch h ++ (x ∷ [])) (omega arith))

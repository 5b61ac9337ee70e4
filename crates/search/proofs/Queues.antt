-- Laws of the queue: the start alone is one, a visit keeps it one, and while a place is unmarked there is room for an entry more.
-- A visit of an unmarked place writes beyond the entries and their parents, so what is known of these stays.
-- Assumes nothing.
use borrow.Author.Count.{below_none, below_more}
use borrow.Author.Tests.{eq-eqb, ne_eqb}
use mathlib.Core.List.{List}
use mathlib.Core.Path.{◌≡◌, refl, sym, ap, ◌∙◌}
use Prim.Native.Nat.{ℕ, zero, suc, ◌+◌, ◌<◌, ◌≤◌}
use native.Mathlib.Decide.{ℕ_discrete}
use native.Mathlib.Omega.{arith}
use lib.ListN.{get_or, set, replicate, length-set, length-replicate}
use lib.Seq.{get_or-set_same, get_or-set_other}
use Rattle.search.specs.Queue.{Kept, Queue, begun, visited}
use Rattle.search.proofs.Marks.{count_most, count_less, count_more, count_none}

zeros : (n i : ℕ) → ◌≡◌ {A = ℕ} (get_or (replicate n 0) i 0) 0
zeros zero i = refl
zeros (suc n) zero = refl
zeros (suc n) (suc i) = zeros n i

-- cleared areas, with the start's mark and entry written
pub begun-made :
    (start : ℕ) {size n m : ℕ} {marks scratch : List ℕ} → n ≡ size → m ≡ size + size → marks ≡ replicate n 0 → scratch ≡ replicate m 0
    → record { marks = set marks start 1; scratch = set scratch 0 start; tail = 1 } ≡ begun size start
begun-made start n_is m_is clear_marks clear_scratch = rw (clear_marks, n_is, clear_scratch, m_is)

module _ {size start : ℕ} (few : size ≤ 32768) (within : start < size) where
  abbrev first : Kept
  first = begun size start

  begun_entry : get_or first.scratch 0 0 ≡ start
  begun_entry = get_or-set_same (replicate (size + size) 0) 0 start 0 (rw length-replicate (omega arith))

  begun-mark : get_or first.marks start 0 ≡ 1
  begun-mark = get_or-set_same (replicate size 0) start 1 0 (rw length-replicate within)

  begun_queued : (q : ℕ) → 0 < get_or first.marks q 0 → Dec (q ≡ start) → (j : ℕ) × (j < 1) × (get_or first.scratch j 0 ≡ q)
  begun_queued q m (yes e) = (0, omega arith, begun_entry ∙ sym e)
  begun_queued q m (no ne) = absurd (omega (arith, get_or-set_other {A = ℕ} (replicate size 0) start q 1 0 ne, zeros size q))

  -- what holds of the one entry
  the_one : (P : ℕ → Type 0) → P 0 → (j : ℕ) → j < 1 → P j
  the_one P h = below_more P 0 (below_none P) h

  pub queue_begun : Queue size (begun size start)
  queue_begun =
      record {
        few = few;
        marks_long = rw (length-set, length-replicate);
        scratch_long = rw (length-set, length-replicate);
        inside = the_one (λ j. get_or first.scratch j 0 < size) (rw begun_entry within);
        marked = the_one (λ j. 0 < get_or first.marks (get_or first.scratch j 0) 0) (rw (begun_entry, begun-mark) (omega arith));
        queued = λ q m. begun_queued q m (ℕ_discrete q start);
        counted = count_more (replicate size 0) start 0 (rw length-replicate within) (zeros size start) ∙ rw count_none;
        falls = λ j l z. absurd (omega arith);
      }

pub queue_fits : {size : ℕ} {k : Kept} → Queue size k → k.tail ≤ size
queue_fits {size} {k} Q = omega (arith, count_most k.marks, Q.counted, Q.marks_long)

pub queue_room : {size : ℕ} {k : Kept} {q : ℕ} → Queue size k → q < size → get_or k.marks q 0 ≡ 0 → k.tail < size
queue_room {size} {k} {q} Q l free = omega (arith, count_less k.marks q (omega (arith, Q.marks_long)) free, Q.counted, Q.marks_long)

module _ (size h s q : ℕ) (k : Kept) where
  -- a visit of a place that is marked changes nothing
  pub visited-met : (get_or k.marks q 0 ≡ 0 → ⊥) → visited size h s q k ≡ k
  unfolding visited
  visited-met met = rw (visited, ne_eqb (get_or k.marks q 0) 0 met)

  -- a visit of a place that is not marked: its mark, and an entry more with its parent
  pub visited_new :
      get_or k.marks q 0 ≡ 0
      → visited size h s q k
      ≡ record {
        marks = set k.marks q (s + 1);
        scratch = set (set k.scratch k.tail q) (size + k.tail) h;
        tail = k.tail + 1;
      }
  unfolding visited
  visited_new free = rw (visited, eq-eqb (get_or k.marks q 0) 0 free)

module _ {size h q : ℕ} {k : Kept} (s : ℕ) (Q : Queue size k) (before : h < k.tail) (within : q < size) where
  module _ (free : get_or k.marks q 0 ≡ 0) where
    abbrev after : Kept
    after = visited size h s q k

    room : k.tail < size
    room = queue_room Q within free

    -- what is written, and where
    pub visited_tail : after.tail ≡ k.tail + 1
    visited_tail = ap (λ (x : Kept). x.tail) (visited_new size h s q k free)

    marks_new : after.marks ≡ set k.marks q (s + 1)
    marks_new = ap (λ (x : Kept). x.marks) (visited_new size h s q k free)

    scratch_new : after.scratch ≡ set (set k.scratch k.tail q) (size + k.tail) h
    scratch_new = ap (λ (x : Kept). x.scratch) (visited_new size h s q k free)

    pub visited_entry : get_or after.scratch k.tail 0 ≡ q
    visited_entry =
        rw (scratch_new, get_or-set_other (set k.scratch k.tail q) (size + k.tail) k.tail h 0 (omega (arith, room)))
        (get_or-set_same k.scratch k.tail q 0 (omega (arith, room, Q.scratch_long)))

    pub visited-parent : get_or after.scratch (size + k.tail) 0 ≡ h
    visited-parent =
        rw scratch_new
        (get_or-set_same (set k.scratch k.tail q) (size + k.tail) h 0 (rw length-set (omega (arith, room, Q.scratch_long))))

    pub visited-mark : get_or after.marks q 0 ≡ s + 1
    visited-mark = rw marks_new (get_or-set_same k.marks q (s + 1) 0 (omega (arith, Q.marks_long)))

    -- what stays
    scratch_kept : (i : ℕ) → i < size + k.tail → (i ≡ k.tail → ⊥) → get_or after.scratch i 0 ≡ get_or k.scratch i 0
    scratch_kept i l ne =
        rw (scratch_new, get_or-set_other (set k.scratch k.tail q) (size + k.tail) i h 0 (omega arith))
        (get_or-set_other k.scratch k.tail i q 0 ne)

    pub entry_kept : (j : ℕ) → j < k.tail → get_or after.scratch j 0 ≡ get_or k.scratch j 0
    entry_kept j l = scratch_kept j (omega arith) (omega arith)

    pub parent_kept : (j : ℕ) → j < k.tail → get_or after.scratch (size + j) 0 ≡ get_or k.scratch (size + j) 0
    parent_kept j l = scratch_kept (size + j) (omega arith) (omega (arith, room))

    other_mark_kept : (p : ℕ) → (p ≡ q → ⊥) → get_or after.marks p 0 ≡ get_or k.marks p 0
    other_mark_kept p ne = rw marks_new (get_or-set_other k.marks q p (s + 1) 0 ne)

    -- an entry's place is marked, so it is not q
    pub mark_kept : (j : ℕ) → j < k.tail → get_or after.marks (get_or k.scratch j 0) 0 ≡ get_or k.marks (get_or k.scratch j 0) 0
    mark_kept j l = other_mark_kept (get_or k.scratch j 0) (λ e. omega (arith, rw e at (Q.marked j l), free))

    still_queued : (p : ℕ) → 0 < get_or after.marks p 0 → Dec (p ≡ q) → (j : ℕ) × (j < k.tail + 1) × (get_or after.scratch j 0 ≡ p)
    still_queued p m (yes e) = (k.tail, omega arith, visited_entry ∙ sym e)
    still_queued p m (no ne) =
        let w = Q.queued p (rw (other_mark_kept p ne) at m) in (w.0, omega arith, entry_kept w.0 w.1 ∙ w.2)

    -- what held of each entry holds of each, if it holds of the new one
    each : (P : ℕ → Type 0) → ((j : ℕ) → j < k.tail → P j) → P k.tail → (j : ℕ) → j < after.tail → P j
    each P old new = rw visited_tail (below_more P k.tail old new)

    queue_new : Queue size after
    queue_new =
        record {
          few = Q.few;
          marks_long = rw (marks_new, length-set) Q.marks_long;
          scratch_long = rw (scratch_new, length-set, length-set) Q.scratch_long;
          inside = each (λ j. get_or after.scratch j 0 < size) (λ j l. rw (entry_kept j l) (Q.inside j l)) (rw visited_entry within);
          marked =
              each (λ j. 0 < get_or after.marks (get_or after.scratch j 0) 0) (λ j l. rw (entry_kept j l, mark_kept j l) (Q.marked j l))
              (rw (visited_entry, visited-mark) (omega arith));
          queued = λ p m. rw visited_tail (still_queued p m (ℕ_discrete p q));
          counted =
              rw (marks_new, visited_tail, count_more k.marks q s (omega (arith, Q.marks_long)) free) (ap (λ n. n + 1) Q.counted);
          falls =
              each (λ j. 0 < j → get_or after.scratch (size + j) 0 < j) (λ j l z. rw (parent_kept j l) (Q.falls j l z))
              (λ z. rw visited-parent before);
        }

  pub queue_visited : Queue size (visited size h s q k)
  queue_visited = by_mark (ℕ_discrete (get_or k.marks q 0) 0)
    where
      by_mark : Dec (get_or k.marks q 0 ≡ 0) → Queue size (visited size h s q k)
      by_mark (yes free) = queue_new free
      by_mark (no met) = rw (visited-met size h s q k met) Q

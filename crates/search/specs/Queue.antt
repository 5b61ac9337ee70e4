-- What a search keeps in the lent areas while it goes on, and what it leaves there.
-- Assumes nothing.
use Rattle.std.specs.Prelude.{true, false, List, [], ◌∷◌, ◌++◌, ◌≡◌, ℕ, zero, suc, ◌+◌, ◌-◌, ◌<◌, ◌≤◌, eqb, length, get_or, set, drop, replicate}

-- Marks, one for each place: 0, or one more than the number of the step that first led there. Scratch: the queue's entries, which are
-- places, in its first half; in its second half each entry's parent, the entry whose step led there. Tail: how many entries there are.
pub record Kept : Type 0 where
  pub marks : List ℕ
  pub scratch : List ℕ
  pub tail : ℕ

-- the start is the one entry
abbrev pub begun : ℕ → ℕ → Kept
begun size start = record { marks = set (replicate size 0) start 1; scratch = set (replicate (size + size) 0) 0 start; tail = 1 }

-- step s of entry h leads to the place q: an entry more, unless q is marked
unfoldable pub visited : ℕ → ℕ → ℕ → ℕ → Kept → Kept
visited size h s q k =
    elim (eqb (get_or k.marks q 0) 0) [
      | false ↦ k
      | true ↦
          record {
            marks = set k.marks q (s + 1);
            scratch = set (set k.scratch k.tail q) (size + k.tail) h;
            tail = k.tail + 1;
          }
    ]

-- a mark as it is left behind
abbrev pub settled : ℕ → ℕ
settled zero = 0
settled (suc m) = 1

-- how many places are marked
abbrev pub count_marked : List ℕ → ℕ
count_marked [] = 0
count_marked (m ∷ ms) = settled m + count_marked ms

-- the number of the step into entry i
abbrev pub step_into : List ℕ → List ℕ → ℕ → ℕ
step_into marks scratch i = get_or marks (get_or scratch i 0) 0 - 1

-- the steps to entry i from its n-th ancestor or the start
unfoldable pub trace : ℕ → List ℕ → List ℕ → ℕ → ℕ → List ℕ
trace size marks scratch zero i = []
trace size marks scratch (suc n) i =
    elim (eqb i 0) [
      | true ↦ []
      | false ↦ trace size marks scratch n (get_or scratch (size + i) 0) ++ (step_into marks scratch i ∷ [])
    ]

-- the run to entry i: the steps that lead there from the start, in their order
unfoldable pub run_at : ℕ → List ℕ → List ℕ → ℕ → List ℕ
run_at size marks scratch i = trace size marks scratch size i

-- The areas hold a queue: of the places below `size` just the entries are marked, each is there once, and a parent stands before its child.
-- (A place is a number of 16 bits.)
pub record Queue (size : ℕ) (k : Kept) : Type 0 where
  pub few : size ≤ 32768
  pub marks_long : length k.marks ≡ size
  pub scratch_long : length k.scratch ≡ size + size
  pub inside : (j : ℕ) → j < k.tail → get_or k.scratch j 0 < size
  pub marked : (j : ℕ) → j < k.tail → 0 < get_or k.marks (get_or k.scratch j 0) 0
  pub queued : (q : ℕ) → 0 < get_or k.marks q 0 → (j : ℕ) × (j < k.tail) × (get_or k.scratch j 0 ≡ q)
  pub counted : count_marked k.marks ≡ k.tail
  pub falls : (j : ℕ) → j < k.tail → 0 < j → get_or k.scratch (size + j) 0 < j

-- i is an entry of a queue
pub record Entry (size : ℕ) (marks scratch : List ℕ) (i : ℕ) : Type 0 where
  pub tail : ℕ
  pub queue : Queue size (record { marks = marks; scratch = scratch; tail = tail })
  pub within : i < tail

-- what is left of the run to entry i
pub record RunLeft (size : ℕ) (marks path scratch : List ℕ) (i : ℕ) (marks' path' scratch' : List ℕ) (steps : ℕ) : Type 0 where
  pub counted : steps ≡ length (run_at size marks scratch i)
  pub written : path' ≡ run_at size marks scratch i ++ drop (length (run_at size marks scratch i)) path
  pub marks_cleared : marks' ≡ replicate (length marks) 0
  pub scratch_cleared : scratch' ≡ replicate (length scratch) 0

-- How the search stands in the lent areas, and where it ended.
-- Assumes nothing.
use Rattle.std.specs.Prelude.{List, ◌≡◌, ℕ, ◌<◌, ◌≤◌, ◌*◌, length, get_or, Result, Ok, Err, Some}
use Rattle.rules.specs.Pairs.{Wrong, Pair, turns_most, mismatch_at, reason, detail}
use Rattle.rules.specs.Replies.{Areas, NoRefusal, Replaces, pair_count, scratch_size}
use Rattle.rules.proofs.Places.{pair_in, pair_at}
use Rattle.rules.proofs.Searching.{Searched}
use Rattle.search.specs.Queue.{Kept, Queue, Entry, run_at}
use Rattle.table.specs.declared.Table.{Table}
use Rattle.table.specs.declared.answers.Found.{Found}
use Rattle.table.specs.declared.answers.Verdict.{Verdict}
use Rattle.replace.specs.declared.FirstMismatch.{FirstMismatch}

module _ (new : Table) (new_names : List ℕ) (old : Table) (old_names : List ℕ) where
  -- the pair and the run of entry j
  abbrev pub pair_of : Kept → ℕ → Pair
  pair_of k j = pair_at new old (get_or k.scratch j 0)

  abbrev pub run_of : Kept → ℕ → List ℕ
  run_of k j = run_at (pair_count new old) k.marks k.scratch j

  -- The areas hold a queue, and the search over it is as far as its first g entries without mismatch, its first h expanded, and of entry h
  -- the steps below s taken.
  pub record State (k : Kept) (g h s : ℕ) : Type 0 where
    pub queue : Queue (pair_count new old) k
    pub searched : Searched new new_names old old_names (pair_of k) (run_of k) k.tail g h s

  -- the pair of an entry is a mismatch, and the search went no further
  pub record WrongAt (marks scratch : List ℕ) (w : FirstMismatch) : Type 0 where
    pub tail : ℕ
    pub within : w.at < tail
    pub state : State (record { marks = marks; scratch = scratch; tail = tail }) w.at w.at 0
    pub wrong : mismatch_at new new_names old old_names (pair_at new old (get_or scratch w.at 0)) ≡ Some w.mismatch

  -- the search ended at the queue's end, or at an entry whose pair is a mismatch
  abbrev pub EndedAt : List ℕ → List ℕ → Result ℕ FirstMismatch → Type 0
  EndedAt marks scratch (Ok tail) = State (record { marks = marks; scratch = scratch; tail = tail }) tail tail 0
  EndedAt marks scratch (Err w) = WrongAt marks scratch w

-- what is answered of a mismatch at the pair of place a, after so many steps
abbrev pub found_at : ℕ → ℕ → ℕ → Wrong → ℕ → Found
found_at n m a wrong steps =
    record {
      reason = reason wrong;
      detail = detail wrong;
      new = (pair_in n m a).new;
      old = (pair_in n m a).old;
      turn = (pair_in n m a).turn;
      steps = steps;
    }

-- asked where the search ended: the path has room for a run, and what it ended at is an entry
pub record Concludable (n m : ℕ) (ended : Result ℕ FirstMismatch) (marks path scratch : List ℕ) : Type 0 where
  pub path_long : turns_most * n * m ≤ length path
  pub entry : (w : FirstMismatch) → ended ≡ Err w → Entry (turns_most * n * m) marks scratch w.at

-- the reply, for any tables of these sizes over which the search ended so, whatever marks and scratch held before it
pub record Concludes (n m : ℕ) (ended : Result ℕ FirstMismatch) (marks path scratch marks' path' scratch' : List ℕ) (r : Verdict) : Type 0 where
  pub replies :
      (new : Table) (new_names : List ℕ) (old : Table) (old_names : List ℕ) (before : Areas) → n ≡ new.count → m ≡ old.count
      → NoRefusal new new_names old old_names before → length before.marks ≡ pair_count new old
      → length before.scratch ≡ scratch_size new old → before.path ≡ path → EndedAt new new_names old old_names marks scratch ended
      → Replaces new new_names old old_names before (record { marks = marks'; path = path'; scratch = scratch' }) (Ok r)

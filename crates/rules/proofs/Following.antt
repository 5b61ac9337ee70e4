-- Tables that follow others: at the pairs of the others they have no mismatch and no step that the others have not. Then a closed set of
-- the others, cut down to their pairs, is a closed set of theirs; and tables that follow each other have the same smallest set and yes.
-- Assumes nothing.
use Rattle.std.specs.Prelude.{None}
use mathlib.Core.Bool.{Bool, true, ◌&&◌}
use mathlib.Core.List.{List}
use mathlib.Core.Path.{◌≡◌, refl, subst}
use mathlib.Mathlib.Data.Bool.Basic.{and_elim_left, and_elim_right}
use Prim.Native.Nat.{ℕ, zero, suc}
use native.Mathlib.Omega.{arith}
use lib.Dec.{ltb}
use borrow.Author.Tests.{ltb-true, lt-ltb}
use Rattle.rules.specs.Formed.{well_formed}
use Rattle.rules.specs.Pairs.{Pair, Step, turns_most, left_in, right_in, starts, mismatch_at}
use Rattle.rules.specs.Replace.{Closed, MayReplace, Smallest}
use Rattle.rules.specs.Replies.{Areas, NoRefusal, SaysYes}
use Rattle.rules.proofs.Formed.{WellFormed, formed}
use Rattle.rules.proofs.Runs.{starts_within}
use Rattle.rules.proofs.Steps.{Inside, Within, step_within}
use Rattle.table.specs.declared.Node.{Node}
use Rattle.table.specs.declared.Table.{Table}

-- new' and old' follow new and old, with the same name bytes
pub record Follows (new new' : Table) (new_names : List ℕ) (old old' : Table) (old_names : List ℕ) : Type 0 where
  pub new_count : new.count ≡ new'.count
  pub old_count : old.count ≡ old'.count
  pub new_start : new.start ≡ new'.start
  pub old_start : old.start ≡ old'.start
  pub fits :
      (p : Pair) → Within new old p → mismatch_at new new_names old old_names p ≡ None
      → mismatch_at new' new_names old' old_names p ≡ None
  pub steps :
      (p q : Pair) (s : ℕ) → Within new old p → Step new' new_names old' old_names p s q
      → (r : ℕ) × Step new new_names old old_names p r q

-- what holds of the two new nodes and of the two old ones holds of the left ones and of the right ones
module _ (R : Node → Node → Type 0) {x x' y y' : Node} (S : R x x') (T : R y y') where
  pub left_both : (u : ℕ) → R (left_in u x y) (left_in u x' y')
  left_both zero = S
  left_both (suc u) = T

  pub right_both : (u : ℕ) → R (right_in u x y) (right_in u x' y')
  right_both zero = T
  right_both (suc u) = S

pub inside_same : {n n' m m' : ℕ} {p : Pair} → n ≡ n' → m ≡ m' → Inside n m p → Inside n' m' p
inside_same a b w =
    record { turn_below = w.turn_below; new_below = omega (arith, w.new_below); old_below = omega (arith, w.old_below) }

-- a set without the pairs that are not of the tables' nodes
abbrev cut : Table → Table → (Pair → Bool) → Pair → Bool
cut new old set p = set p && ltb p.turn turns_most && ltb p.new new.count && ltb p.old old.count

module _ (new old : Table) (set : Pair → Bool) (p : Pair) where
  cut_set : cut new old set p ≡ true → set p ≡ true
  cut_set e = search (and_elim_left, and_elim_right)

  cut_within : cut new old set p ≡ true → Within new old p
  cut_within e =
      record {
        turn_below = ltb-true _ _ (search (and_elim_left, and_elim_right));
        new_below = ltb-true _ _ (search (and_elim_left, and_elim_right));
        old_below = ltb-true _ _ (search (and_elim_left, and_elim_right));
      }

  cut_both : set p ≡ true → Within new old p → cut new old set p ≡ true
  cut_both e w = rw (e, lt-ltb _ _ w.turn_below, lt-ltb _ _ w.new_below, lt-ltb _ _ w.old_below) refl

follows_itself : (new : Table) (new_names : List ℕ) (old : Table) (old_names : List ℕ) → Follows new new new_names old old old_names
follows_itself new new_names old old_names =
    record {
      new_count = refl;
      old_count = refl;
      new_start = refl;
      old_start = refl;
      fits = λ p w e. e;
      steps = λ p q s w S. (s, S);
    }

module _ {new new' : Table} {new_names : List ℕ} {old old' : Table} {old_names : List ℕ} (F : Follows new new' new_names old old' old_names) where
  pub starts_same : starts new old ≡ starts new' old'
  starts_same = λ i. record { turn = 0; new = F.new_start i; old = F.old_start i }

  module _ (new_formed : WellFormed new new_names) (old_formed : WellFormed old old_names) where
    closed_follows : {set : Pair → Bool} → Closed new new_names old old_names set → Closed new' new_names old' old_names (cut new old set)
    closed_follows {set} C =
        record {
          holds_starts =
              subst (λ (p : Pair). cut new old set p ≡ true) starts_same
              (cut_both new old set (starts new old) C.holds_starts (starts_within new_formed old_formed));
          no_mismatch = λ p e. F.fits p (cut_within new old set p e) (C.no_mismatch p (cut_set new old set p e));
          all_steps =
              λ p q s e S.
              let w = cut_within new old set p e in
              let (r, R) = F.steps p q s w S in
              cut_both new old set q (C.all_steps p q r (cut_set new old set p e) R) (step_within new_formed old_formed w R);
        }

    pub may_replace_follows : MayReplace new new_names old old_names → MayReplace new' new_names old' old_names
    may_replace_follows m = record { set = cut new old m.set; closed = closed_follows m.closed }

  -- the lent areas are long enough for the one as for the other
  pub no_refusal_follows :
      {before : Areas} → well_formed new' new_names ≡ true → well_formed old' old_names ≡ true
      → NoRefusal new new_names old old_names before → NoRefusal new' new_names old' old_names before
  no_refusal_follows a b N =
      record {
        new_formed = a;
        old_formed = b;
        marks_long = rw (← F.new_count, ← F.old_count) N.marks_long;
        path_long = rw (← F.new_count, ← F.old_count) N.path_long;
        scratch_long = rw (← F.new_count, ← F.old_count) N.scratch_long;
      }

-- Tables that follow each other.
module _ {new new' : Table} {new_names : List ℕ} {old old' : Table} {old_names : List ℕ} (F : Follows new new' new_names old old' old_names) (G : Follows new' new new_names old' old old_names) where
  module _ (new_formed : WellFormed new new_names) (old_formed : WellFormed old old_names) (new_formed' : WellFormed new' new_names) (old_formed' : WellFormed old' old_names) where
    smallest_follows : {set : Pair → Bool} → Smallest new new_names old old_names set → Smallest new' new_names old' old_names set
    smallest_follows {set} S =
        record {
          closed =
              record {
                holds_starts = subst (λ (p : Pair). set p ≡ true) (starts_same F) S.closed.holds_starts;
                no_mismatch = λ p e. F.fits p (within p e) (S.closed.no_mismatch p e);
                all_steps = λ p q s e T. let (r, R) = F.steps p q s (within p e) T in S.closed.all_steps p q r e R;
              };
          inside =
              λ other O p e.
              cut_set new' old' other p (S.inside (cut new' old' other) (closed_follows G new_formed' old_formed' O) p e);
        }
      where
        -- a set cut down is closed too, so that the smallest one is within
        within : (p : Pair) → set p ≡ true → Within new old p
        within p e =
            cut_within new old set p
            (S.inside (cut new old set) (closed_follows (follows_itself new new_names old old_names) new_formed old_formed S.closed) p e)

  module _ {before : Areas} (N : NoRefusal new new_names old old_names before) (N' : NoRefusal new' new_names old' old_names before) where
    pub yes_follows :
        {after : Areas} {c : ℕ} → SaysYes new new_names old old_names before after c → SaysYes new' new_names old' old_names before after c
    yes_follows Y =
        record {
          set = Y.set;
          smallest =
              smallest_follows (formed N.new_formed) (formed N.old_formed) (formed N'.new_formed) (formed N'.old_formed)
              Y.smallest;
          size = Y.size;
          marked = λ p t n o. rw (← F.new_count, ← F.old_count) (Y.marked p t (omega (arith, F.new_count)) (omega (arith, F.old_count)));
          beyond = rw (← F.new_count, ← F.old_count) Y.beyond;
          counted = rw (← F.new_count, ← F.old_count) Y.counted;
          path = Y.path;
          scratch = rw (← F.new_count, ← F.old_count) Y.scratch;
        }

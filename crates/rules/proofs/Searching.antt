-- A search over pairs, breadth first: what holds while it goes on, a law for each move, and what it comes to.
-- The queue is increasing in the order of runs. So the first mismatch that is taken from it has the first run of all that end at one; and
-- where nothing is left in it, its pairs are the smallest closed set.
-- Assumes nothing.
use Rattle.std.specs.Prelude.{None}
use mathlib.Core.Bool.{Bool, true}
use mathlib.Core.List.{List, [], ◌∷◌, ◌++◌}
use mathlib.Core.Logic.{◌⊎◌, inl, inr, ⊎_elim}
use mathlib.Core.Path.{◌≡◌, refl, sym, ap, subst, ◌∙◌}
use Prim.Native.Nat.{ℕ, ◌+◌, ◌<◌, ◌≤◌}
use native.Mathlib.Decide.{dec_lt}
use native.Mathlib.Nat.{eq-or-lt_of_le}
use native.Mathlib.Omega.{arith}
use borrow.Author.Count.{below_none, below_more}
use Rattle.rules.specs.Basics.{some_below}
use Rattle.rules.specs.Pairs.{Pair, Step, starts, mismatch_at, IsMismatch}
use Rattle.rules.specs.Runs.{Run, Before}
use Rattle.rules.specs.Replace.{Smallest}
use Rattle.rules.specs.computed.Verdict.{same_pair}
use Rattle.rules.proofs.Basics.{some_below_true, some_below_at}
use Rattle.rules.proofs.Order.{before_transitive}
use Rattle.rules.proofs.OrderSteps.{NotAfter, before_same, not_after_same, before_longer, before_last, before_both, not_after_both, not_after_before, not_after_transitive, not_after_not_before}
use Rattle.rules.proofs.Pairs.{same_pair_true, same_pair_is}
use Rattle.rules.proofs.Runs.{leads_snoc, run_grows}
use Rattle.rules.proofs.Smallest.{reached_smallest}
use Rattle.rules.proofs.Steps.{step_one}
use Rattle.table.specs.declared.Table.{Table}

-- one of the first n entries has the pair q, and a run that is not after r
abbrev pub Has : (ℕ → Pair) → (ℕ → List ℕ) → ℕ → Pair → List ℕ → Type 0
Has Q R n q r = (j : ℕ) × (j < n) × (Q j ≡ q) × NotAfter (R j) r

-- Q and R: the pair and the run of each entry. There are n entries; the first g have no mismatch, the first h were expanded, and of entry h
-- the steps below k were taken.
pub record Searched (new : Table) (new_names : List ℕ) (old : Table) (old_names : List ℕ) (Q : ℕ → Pair) (R : ℕ → List ℕ) (n g h k : ℕ) : Type 0 where
  pub some : 0 < n
  pub within : h ≤ n
  pub root : R 0 ≡ []
  pub runs : (j : ℕ) → j < n → Run new new_names old old_names (R j) (Q j)
  pub sorted : (j : ℕ) → j < n → (i : ℕ) → i < j → Before (R i) (R j)
  pub below : h < n → (j : ℕ) → j < n → Before (R j) (R h ++ (k ∷ []))
  pub closed : (i : ℕ) → i < h → (s : ℕ) (q : Pair) → Step new new_names old old_names (Q i) s q → Has Q R n q (R i ++ (s ∷ []))
  pub part : (s : ℕ) → s < k → (q : Pair) → Step new new_names old old_names (Q h) s q → Has Q R n q (R h ++ (s ∷ []))
  pub good : (i : ℕ) → i < g → mismatch_at new new_names old old_names (Q i) ≡ None

-- whether a pair is one of the first n entries'
abbrev pub entered : (ℕ → Pair) → ℕ → Pair → Bool
entered Q n p = some_below n (λ j. same_pair (Q j) p)

pub entered_at : (Q : ℕ → Pair) (n j : ℕ) → j < n → entered Q n (Q j) ≡ true
entered_at Q n j l = some_below_at n (λ i. same_pair (Q i) (Q j)) j l (same_pair_is (Q j) (Q j) refl)

pub entered_where : (Q : ℕ → Pair) (n : ℕ) (p : Pair) → entered Q n p ≡ true → (j : ℕ) × (j < n) × (Q j ≡ p)
entered_where Q n p e =
    let w = some_below_true n (λ j. same_pair (Q j) p) e in (w.0, w.1, same_pair_true (Q w.0) p w.2)

-- where the first n entries stay and one comes in
module _ {Q Q' : ℕ → Pair} {R R' : ℕ → List ℕ} {n : ℕ} (same_pairs : (j : ℕ) → j < n → Q' j ≡ Q j) (same_runs : (j : ℕ) → j < n → R' j ≡ R j) where
  has_more : (q : Pair) (r r' : List ℕ) → r' ≡ r → Has Q R n q r → Has Q' R' (n + 1) q r'
  has_more q r r' e w =
      (w.0, omega arith, same_pairs w.0 w.1 ∙ w.2, not_after_same (same_runs w.0 w.1) e w.3)

then : {r r' : List ℕ} (s : ℕ) → r' ≡ r → r' ++ (s ∷ []) ≡ r ++ (s ∷ [])
then s e = ap (λ (x : List ℕ). x ++ (s ∷ [])) e

module _ (new : Table) (new_names : List ℕ) (old : Table) (old_names : List ℕ) where
  run_same : {r t : List ℕ} {p q : Pair} → r ≡ t → p ≡ q → Run new new_names old old_names t q → Run new new_names old old_names r p
  run_same {r} {t} {p} {q} e f u =
      subst (λ (x : List ℕ). Run new new_names old old_names x p) (sym e) (subst (λ (x : Pair). Run new new_names old old_names t x) (sym f) u)

module _ {new : Table} {new_names : List ℕ} {old : Table} {old_names : List ℕ} where
  -- the queue holds the starts alone
  pub search_begins :
      (Q : ℕ → Pair) (R : ℕ → List ℕ) → Q 0 ≡ starts new old → R 0 ≡ [] → Searched new new_names old old_names Q R 1 0 0 0
  search_begins Q R q r =
      record {
        some = omega arith;
        within = omega arith;
        root = r;
        runs = below_more (λ (j : ℕ). Run new new_names old old_names (R j) (Q j)) 0 (below_none (λ (j : ℕ). Run new new_names old old_names (R j) (Q j))) (run_same new new_names old old_names r q refl);
        sorted = λ j l i m. absurd (omega arith);
        below =
            λ x.
            below_more (λ (j : ℕ). Before (R j) (R 0 ++ (0 ∷ []))) 0 (below_none (λ (j : ℕ). Before (R j) (R 0 ++ (0 ∷ []))))
            (before_longer (R 0) 0);
        closed = λ i l. absurd (omega arith);
        part = λ s l. absurd (omega arith);
        good = λ i l. absurd (omega arith);
      }

  module _ {Q : ℕ → Pair} {R : ℕ → List ℕ} {n g h k : ℕ} (I : Searched new new_names old old_names Q R n g h k) where
    -- step k of entry h leads nowhere, or to a pair that an entry has
    pub search_skips :
        h < n → ((q : Pair) → Step new new_names old old_names (Q h) k q → (j : ℕ) × (j < n) × (Q j ≡ q)) → Searched new new_names old old_names Q R n g h (k + 1)
    search_skips l f =
        record {
          some = I.some;
          within = I.within;
          root = I.root;
          runs = I.runs;
          sorted = I.sorted;
          below =
              λ x j y.
              before_transitive (R j) (R h ++ (k ∷ [])) (R h ++ ((k + 1) ∷ [])) (I.below x j y) (before_last (R h) k (k + 1) (omega arith));
          closed = I.closed;
          part =
              below_more (λ (s : ℕ). (q : Pair) → Step new new_names old old_names (Q h) s q → Has Q R n q (R h ++ (s ∷ []))) k I.part
              (λ q st. let w = f q st in (w.0, w.1, w.2, inl (I.below l w.0 w.1)));
          good = I.good;
        }

    -- entry g has no mismatch
    pub search_passes : mismatch_at new new_names old old_names (Q g) ≡ None → Searched new new_names old old_names Q R n (g + 1) h k
    search_passes e =
        record {
          some = I.some;
          within = I.within;
          root = I.root;
          runs = I.runs;
          sorted = I.sorted;
          below = I.below;
          closed = I.closed;
          part = I.part;
          good = below_more (λ (i : ℕ). mismatch_at new new_names old old_names (Q i) ≡ None) g I.good e;
        }

    -- entry h is expanded: no step of it is numbered k or higher
    pub search_expanded : h < n → ((s : ℕ) (q : Pair) → Step new new_names old old_names (Q h) s q → s < k) → Searched new new_names old old_names Q R n g (h + 1) 0
    search_expanded l most =
        record {
          some = I.some;
          within = omega arith;
          root = I.root;
          runs = I.runs;
          sorted = I.sorted;
          below =
              λ x j y.
              before_transitive (R j) (R h ++ (k ∷ [])) (R (h + 1) ++ (0 ∷ [])) (I.below l j y)
              (before_both (R h) (R (h + 1)) k 0 (I.sorted (h + 1) x h (omega arith)));
          closed =
              below_more (λ (i : ℕ). (s : ℕ) (q : Pair) → Step new new_names old old_names (Q i) s q → Has Q R n q (R i ++ (s ∷ []))) h I.closed
              (λ s q st. I.part s (most s q st) q st);
          part = λ s y. absurd (omega arith);
          good = I.good;
        }

  -- step k of entry h leads to the pair q, which becomes entry n
  module _ {Q Q' : ℕ → Pair} {R R' : ℕ → List ℕ} {n : ℕ} (same_pairs : (j : ℕ) → j < n → Q' j ≡ Q j) (same_runs : (j : ℕ) → j < n → R' j ≡ R j) where
    pub search_pushes :
        {g h k : ℕ} {q : Pair} → Searched new new_names old old_names Q R n g h k → g ≤ n → h < n → Step new new_names old old_names (Q h) k q → Q' n ≡ q
        → R' n ≡ R h ++ (k ∷ []) → Searched new new_names old old_names Q' R' (n + 1) g h (k + 1)
    search_pushes {g} {h} {k} {q} I gn l st at_pair at_run =
        record {
          some = omega arith;
          within = omega (arith, I.within);
          root = same_runs 0 I.some ∙ I.root;
          runs =
              below_more (λ (j : ℕ). Run new new_names old old_names (R' j) (Q' j)) n (λ j y. run_same new new_names old old_names (same_runs j y) (same_pairs j y) (I.runs j y))
              (run_same new new_names old old_names at_run at_pair (leads_snoc (R h) (starts new old) (I.runs h l) st));
          sorted =
              below_more (λ (j : ℕ). (i : ℕ) → i < j → Before (R' i) (R' j)) n
              (λ j y i z. before_same (same_runs i (omega arith)) (same_runs j y) (I.sorted j y i z))
              (λ i y. before_same (same_runs i y) at_run (I.below l i y));
          below =
              λ x.
              below_more (λ (j : ℕ). Before (R' j) (R' h ++ ((k + 1) ∷ []))) n
              (λ j y.
              before_same (same_runs j y) (then (k + 1) (same_runs h l))
              (before_transitive (R j) (R h ++ (k ∷ [])) (R h ++ ((k + 1) ∷ [])) (I.below l j y) (before_last (R h) k (k + 1) (omega arith))))
              (before_same at_run (then (k + 1) (same_runs h l)) (before_last (R h) k (k + 1) (omega arith)));
          closed =
              λ i y s p go.
              has_more same_pairs same_runs p (R i ++ (s ∷ [])) (R' i ++ (s ∷ [])) (then s (same_runs i (omega arith)))
              (I.closed i y s p (subst (λ (x : Pair). Step new new_names old old_names x s p) (same_pairs i (omega arith)) go));
          part =
              below_more (λ (s : ℕ). (p : Pair) → Step new new_names old old_names (Q' h) s p → Has Q' R' (n + 1) p (R' h ++ (s ∷ []))) k
              (λ s y p go.
              has_more same_pairs same_runs p (R h ++ (s ∷ [])) (R' h ++ (s ∷ [])) (then s (same_runs h l))
              (I.part s y p (subst (λ (x : Pair). Step new new_names old old_names x s p) (same_pairs h l) go)))
              (λ p go. (
                n,
                omega arith,
                at_pair ∙ step_one st (subst (λ (x : Pair). Step new new_names old old_names x k p) (same_pairs h l) go),
                inr (at_run ∙ sym (then k (same_runs h l))),
              ));
          good = λ i y. ap (mismatch_at new new_names old old_names) (same_pairs i (omega arith)) ∙ I.good i y;
        }

  module _ {Q : ℕ → Pair} {R : ℕ → List ℕ} {n h : ℕ} (I : Searched new new_names old old_names Q R n h h 0) where
    in_order : (i j : ℕ) → i ≤ j → j < n → NotAfter (R i) (R j)
    in_order i j l y = ⊎_elim (λ e. inr (ap R e)) (λ z. inl (I.sorted j y i z)) (eq-or-lt_of_le l)

    -- a run ends at an entry's pair whose own run is not after it, or entry h's run is not after it
    abbrev Reaches : List ℕ → Pair → Type 0
    Reaches r q = Has Q R n q r ⊎ ((h < n) × NotAfter (R h) r)

    one_step_on : (a : List ℕ) (p : Pair) (s : ℕ) (q : Pair) → Reaches a p → Step new new_names old old_names p s q → Reaches (a ++ (s ∷ [])) q
    one_step_on a p s q (inr w) st = inr (w.0, inl (not_after_before (R h) a (a ++ (s ∷ [])) w.1 (before_longer a s)))
    one_step_on a p s q (inl w) st = by_entry (dec_lt w.0 h)
      where
        by_entry : Dec (w.0 < h) → Reaches (a ++ (s ∷ [])) q
        by_entry (yes y) =
            let v = I.closed w.0 y s q (subst (λ (x : Pair). Step new new_names old old_names x s q) (sym w.2) st) in
            inl (
              v.0,
              v.1,
              v.2,
              not_after_transitive (R v.0) (R w.0 ++ (s ∷ [])) (a ++ (s ∷ [])) v.3 (not_after_both (R w.0) a s w.3),
            )
        by_entry (no y) =
            inr (
              omega arith,
              not_after_transitive (R h) (R w.0) (a ++ (s ∷ [])) (in_order h w.0 (omega arith) w.1)
                  (inl (not_after_before (R w.0) a (a ++ (s ∷ [])) w.3 (before_longer a s))),
            )

    reaches : (r : List ℕ) (q : Pair) → Run new new_names old old_names r q → Reaches r q
    reaches =
        run_grows new new_names old old_names Reaches
        (inl (0, I.some, sym (subst (λ (x : List ℕ). Run new new_names old old_names x (Q 0)) I.root (I.runs 0 I.some)), inr I.root))
        one_step_on

    -- The first mismatch that is taken from the queue: no run to a mismatch goes before its own.
    pub search_earliest :
        h < n → (r : List ℕ) (q : Pair) → Run new new_names old old_names r q → IsMismatch new new_names old old_names q → Before r (R h) → ⊥
    search_earliest l r q u bad b = not_after_not_before (R h) r (not_after (reaches r q u)) b
      where
        by_entry : (w : Has Q R n q r) → Dec (w.0 < h) → NotAfter (R h) r
        by_entry w (yes y) = absurd (bad (ap (mismatch_at new new_names old old_names) (sym w.2) ∙ I.good w.0 y))
        by_entry w (no y) = not_after_transitive (R h) (R w.0) r (in_order h w.0 (omega arith) w.1) w.3

        not_after : Reaches r q → NotAfter (R h) r
        not_after (inl w) = by_entry w (dec_lt w.0 h)
        not_after (inr w) = w.1

  -- Every entry was expanded: their pairs are the smallest closed set.
  pub search_smallest :
      {Q : ℕ → Pair} {R : ℕ → List ℕ} {n : ℕ} → Searched new new_names old old_names Q R n n n 0
      → Smallest new new_names old old_names (entered Q n)
  search_smallest {Q} {R} {n} I =
      reached_smallest
      (record {
        holds_starts =
            subst (λ (p : Pair). entered Q n p ≡ true) (sym (subst (λ (x : List ℕ). Run new new_names old old_names x (Q 0)) I.root (I.runs 0 I.some)))
            (entered_at Q n 0 I.some);
        no_mismatch =
            λ p e.
            let w = entered_where Q n p e in
            ap (mismatch_at new new_names old old_names) (sym w.2) ∙ I.good w.0 w.1;
        all_steps =
            λ p q s e st.
            let w = entered_where Q n p e in
            let v = I.closed w.0 w.1 s q (subst (λ (x : Pair). Step new new_names old old_names x s q) (sym w.2) st) in
            subst (λ (x : Pair). entered Q n x ≡ true) v.2 (entered_at Q n v.0 v.1);
      })
      (λ p e.
      let w = entered_where Q n p e in
      (R w.0, subst (λ (x : Pair). Run new new_names old old_names (R w.0) x) w.2 (I.runs w.0 w.1)))

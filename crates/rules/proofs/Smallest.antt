-- The smallest closed set: there is one at most, and its pairs are those that runs reach.
-- Whether at most k steps reach a pair is a test. With growing k the pairs so reached come to rest (Growing), and are then a closed
-- set: the smallest set is inside it.
-- Assumes nothing.
use Rattle.std.specs.Prelude.{None}
use mathlib.Core.Bool.{Bool, true, false, false≢true, ◌||◌}
use mathlib.Core.List.{List, [], ◌∷◌, ◌++◌}
use mathlib.Core.Option.{Option, none, some}
use mathlib.Core.Path.{◌≡◌, refl}
use mathlib.Mathlib.Data.Bool.Basic.{or_inl, or_inr}
use Prim.Native.Nat.{ℕ, zero, suc, ◌<◌, ◌≤◌}
use native.Mathlib.Omega.{arith}
use lib.ListN.{length, length-append}
use Rattle.rules.specs.Basics.{some_below}
use Rattle.rules.specs.Formed.{well_formed}
use Rattle.rules.specs.Pairs.{Pair, Step, starts, mismatch_at, step_at}
use Rattle.rules.specs.Runs.{Leads, Run}
use Rattle.rules.specs.Replace.{Closed, Smallest}
use Rattle.rules.specs.Numbers.{labels_most}
use Rattle.rules.specs.Replies.{pair_count, mark_place}
use Rattle.rules.specs.computed.Verdict.{same_pair}
use Rattle.rules.proofs.Pairs.{same_pair_true, same_pair_is}
use Rattle.rules.proofs.Basics.{tests_same, some_below_true, some_below_at}
use Rattle.rules.proofs.Formed.{WellFormed, formed}
use Rattle.rules.proofs.Steps.{Within, step_within, step-numbered}
use Rattle.rules.proofs.Runs.{leads_snoc, leads_within, starts_within}
use Rattle.rules.proofs.Places.{pair_at, pair_at_place, place_below}
use Rattle.rules.proofs.Growing.{comes_to_rest}
use Rattle.table.specs.declared.Table.{Table}

module _ {new : Table} {new_names : List ℕ} {old : Table} {old_names : List ℕ} where
  pub smallest_unique :
      {set other : Pair → Bool} → Smallest new new_names old old_names set → Smallest new new_names old old_names other → (p : Pair)
      → set p ≡ other p
  smallest_unique {set} {other} S O p = tests_same (set p) (other p) (S.inside other O.closed p) (O.inside set S.closed p)

  module _ {set : Pair → Bool} (C : Closed new new_names old old_names set) where
    closed_leads : (r : List ℕ) (p q : Pair) → set p ≡ true → Leads new new_names old old_names p r q → set q ≡ true
    closed_leads [] p q e L = rw L at e
    closed_leads (s ∷ r) p q e L = closed_leads r L.0 q (C.all_steps p L.0 s e L.1) L.2

    pub closed_reached : (r : List ℕ) (q : Pair) → Run new new_names old old_names r q → set q ≡ true
    closed_reached r q L = closed_leads r (starts new old) q C.holds_starts L

    -- demand 3, after a yes: no run reaches a mismatch
    pub closed_no_mismatch :
        (r : List ℕ) (q : Pair) → Run new new_names old old_names r q → mismatch_at new new_names old old_names q ≡ None
    closed_no_mismatch r q L = C.no_mismatch q (closed_reached r q L)

  pub reached_smallest :
      {set : Pair → Bool} → Closed new new_names old old_names set
      → ((p : Pair) → set p ≡ true → (r : List ℕ) × Run new new_names old old_names r p) → Smallest new new_names old old_names set
  reached_smallest C reached =
      record { closed = C; inside = λ other O p e. let (r, L) = reached p e in closed_reached O r p L }

abbrev on_some : (Pair → Bool) → Option Pair → Bool
on_some test none = false
on_some test (some p) = test p

module _ (new : Table) (new_names : List ℕ) (old : Table) (old_names : List ℕ) where
  abbrev begin : Pair
  begin = starts new old

  -- whether step s leads from p to a pair that passes the test
  abbrev onward : (Pair → Bool) → Pair → ℕ → Bool
  onward test p s = on_some test (step_at new new_names old old_names p s)

  -- Whether at most k steps lead from p to q. That no pair on the way is a mismatch it does not ask: see `Tells`.
  reach : ℕ → Pair → Pair → Bool
  reach zero p q = same_pair p q
  reach (suc k) p q = same_pair p q || some_below labels_most (onward (λ m. reach k m q) p)

  abbrev Reach : ℕ → Pair → Pair → Type 0
  Reach k p q = (r : List ℕ) × (length r ≤ k) × Leads new new_names old old_names p r q

  -- in a closed set the test tells of steps
  module _ {set : Pair → Bool} (C : Closed new new_names old old_names set) where
    abbrev Tells : ℕ → Type 0
    Tells k = (p q : Pair) → set p ≡ true → reach k p q ≡ true → Reach k p q

    tells_more : (k : ℕ) → Tells k → Tells (suc k)
    unfolding reach
    tells_more k tells p q h e = go (same_pair p q) refl e
      where
        on : (s : ℕ) (o : Option Pair) → step_at new new_names old old_names p s ≡ o → on_some (λ m. reach k m q) o ≡ true → Reach (suc k) p q
        on s none d f = absurd (false≢true f)
        on s (some m) d f =
            let S : Step new new_names old old_names p s m = record { fits = C.no_mismatch p h; leads = d } in
            let (r, l, L) = tells m q (C.all_steps p m s h S) f in
            (s ∷ r, omega arith, (m, S, L))

        go : (b : Bool) → same_pair p q ≡ b → (b || some_below labels_most (onward (λ m. reach k m q) p)) ≡ true → Reach (suc k) p q
        go true d f = ([], omega arith, same_pair_true p q d)
        go false d f =
            let (s, l, g) = some_below_true labels_most (onward (λ m. reach k m q) p) f in
            on s (step_at new new_names old old_names p s) refl g

    reach-tells : (k : ℕ) → Tells k
    unfolding reach
    reach-tells zero p q h e = ([], omega arith, same_pair_true p q e)
    reach-tells (suc k) p q h e = tells_more k (reach-tells k) p q h e

  module _ (new_formed : WellFormed new new_names) (old_formed : WellFormed old old_names) where
    leads_reach :
        (r : List ℕ) (k : ℕ) (p q : Pair) → Within new old p → length r ≤ k → Leads new new_names old old_names p r q → reach k p q ≡ true
    unfolding reach
    leads_reach [] zero p q w l L = same_pair_is p q L
    leads_reach [] (suc k) p q w l L = or_inl _ _ (same_pair_is p q L)
    leads_reach (s ∷ r) zero p q w l L = absurd (omega arith)
    leads_reach (s ∷ r) (suc k) p q w l L =
        let S = L.1 in
        or_inr (same_pair p q) _
        (some_below_at labels_most (onward (λ m. reach k m q) p) s (step-numbered new_formed old_formed w S)
        (rw S.leads (leads_reach r k L.0 q (step_within new_formed old_formed w S) (omega arith) L.2)))

    module _ {set : Pair → Bool} (S : Smallest new new_names old old_names set) where
      reached_run : (k : ℕ) (q : Pair) → reach k begin q ≡ true → Reach k begin q
      reached_run k q e = reach-tells S.closed k begin q S.closed.holds_starts e

      run_reached : (r : List ℕ) (k : ℕ) (q : Pair) → length r ≤ k → Leads new new_names old old_names begin r q → reach k begin q ≡ true
      run_reached r k q l L = leads_reach r k begin q (starts_within new_formed old_formed) l L

      -- where one step more reaches nothing more, the pairs reached are closed
      rest_closed :
          (k : ℕ)
          → ((i : ℕ) → i < pair_count new old → reach (suc k) begin (pair_at new old i) ≡ true → reach k begin (pair_at new old i) ≡ true)
          → Closed new new_names old old_names (reach k begin)
      rest_closed k rests =
          record {
            holds_starts = run_reached [] k begin (omega arith) refl;
            no_mismatch = λ p e. let (r, l, L) = reached_run k p e in closed_no_mismatch S.closed r p L;
            all_steps =
                λ p q s e T.
                let (r, l, L) = reached_run k p e in
                let M = leads_snoc r begin L T in
                let w = leads_within new_formed old_formed (r ++ (s ∷ [])) begin q (starts_within new_formed old_formed) M in
                let f = run_reached (r ++ (s ∷ [])) (suc k) q (omega (arith, length-append r (s ∷ []))) M in
                rw (pair_at_place w) at (rests (mark_place new old q) (place_below w) (rw (pair_at_place w) f));
          }

      all_reached : (p : Pair) → set p ≡ true → (r : List ℕ) × Leads new new_names old old_names begin r p
      all_reached p e =
          let (k, l, rests) = comes_to_rest (λ k i. reach k begin (pair_at new old i)) grows (pair_count new old) 0 in
          let (r, m, L) = reached_run k p (S.inside (reach k begin) (rest_closed k rests) p e) in
          (r, L)
        where
          grows : (k i : ℕ) → reach k begin (pair_at new old i) ≡ true → reach (suc k) begin (pair_at new old i) ≡ true
          grows k i e =
              let (r, l, L) = reached_run k (pair_at new old i) e in run_reached r (suc k) (pair_at new old i) (omega arith) L

pub smallest_reached :
    {new : Table} {new_names : List ℕ} {old : Table} {old_names : List ℕ} {set : Pair → Bool} → well_formed new new_names ≡ true
    → well_formed old old_names ≡ true → Smallest new new_names old old_names set → (p : Pair) → set p ≡ true
    → (r : List ℕ) × Run new new_names old old_names r p
smallest_reached {new} {new_names} {old} {old_names} a b S = all_reached new new_names old old_names (formed a) (formed b) S

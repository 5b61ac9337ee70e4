-- The steps of an entry, one after the other: the areas go on holding a queue, and steps that lead nowhere change nothing.
-- Assumes nothing.
use mathlib.Core.List.{List}
use mathlib.Core.Option.{Option, none, some, some-injective}
use mathlib.Core.Path.{◌≡◌, refl, sym, ap, subst, ◌∙◌}
use Prim.Native.Nat.{ℕ, zero, suc, ◌+◌, ◌<◌, ◌≤◌}
use native.Mathlib.Decide.{ℕ_discrete, le_ind}
use native.Mathlib.Numerals.{add-one}
use native.Mathlib.Omega.{arith}
use lib.ListN.{get_or}
use Rattle.rules.specs.Numbers.{labels_most}
use Rattle.rules.specs.Pairs.{Pair, turns_most, landed, step_of}
use Rattle.rules.specs.Pairs as rules
use Rattle.rules.proofs.Places.{place, place_below}
use Rattle.search.specs.Queue.{Kept, Queue, visited}
use Rattle.search.proofs.Queues.{queue_visited, visited-met, visited_new}
use Rattle.pairs.specs.Beside.{StepsBelow}
use Rattle.table.specs.declared.Node.{Node}
use Rattle.replace.specs.Taking.{size_of, place_of, leads_to, stepped, expanded, Ready, Leading, StepTaken, StepsTaken}
use Rattle.replace.specs.declared.entry.Entry.{Entry}

-- a visit takes no entry away
visited_grows : (size h s q : ℕ) (k : Kept) → h < k.tail → h < (visited size h s q k).tail
visited_grows size h s q k l = go (ℕ_discrete (get_or k.marks q 0) 0)
  where
    go : Dec (get_or k.marks q 0 ≡ 0) → h < (visited size h s q k).tail
    go (yes e) = rw (visited_new size h s q k e) (omega arith)
    go (no e) = rw (visited-met size h s q k e) l

module _ (size h : ℕ) where
  abbrev Holds : Kept → Type 0
  Holds k = Queue size k × (h < k.tail)

  stepped_holds : (s : ℕ) (o : Option ℕ) (k : Kept) → ((q : ℕ) → o ≡ some q → q < size) → Holds k → Holds (stepped size h s o k)
  stepped_holds s none k f H = H
  stepped_holds s (some q) k f H = (queue_visited s H.0 H.1 (f q refl), visited_grows size h s q k H.1)

  expanded_holds : (next : ℕ → Option ℕ) (s : ℕ) (k : Kept) → ((i q : ℕ) → next i ≡ some q → q < size) → Holds k → Holds (expanded size h next s k)
  unfolding expanded
  expanded_holds next zero k f H = H
  expanded_holds next (suc s) k f H = stepped_holds s (next s) (expanded size h next s k) (f s) (expanded_holds next s k f H)

  -- steps from `limit` on lead nowhere, so that with them all is as without
  expanded-past :
      (next : ℕ → Option ℕ) (limit : ℕ) (k : Kept) → ((s : ℕ) → limit ≤ s → next s ≡ none) → (most : ℕ) → limit ≤ most
      → expanded size h next limit k ≡ expanded size h next most k
  unfolding expanded
  expanded-past next limit k f most l =
      le_ind (λ (n : ℕ). expanded size h next limit k ≡ expanded size h next n k) refl
      (λ n m e. e ∙ ap (λ (o : Option ℕ). stepped size h n o (expanded size h next n k)) (sym (f n m))) most l

-- a place is a pair's
place_of_some : (n m : ℕ) (o : Option Pair) (q : ℕ) → place_of n m o ≡ some q → (p : Pair) × (o ≡ some p) × (place n m p ≡ q)
place_of_some n m none q e = let z : ◌≡◌ {A = ℕ} 0 1 = cc in absurd (omega arith)
place_of_some n m (some p) q e = (p, refl, some-injective (place n m p) q e)

module _ {e : Entry} {x y : Node} {places : List ℕ} {k : Kept} where
  pub steps_none : StepsTaken e x y places 0 k k
  unfolding expanded
  steps_none = record { is = λ xs ys P. refl }

  pub steps_more :
      {s : ℕ} {k' k'' : Kept} → StepsTaken e x y places s k k' → StepTaken e x y places s k' k'' → StepsTaken e x y places (s + 1) k k''
  unfolding expanded
  steps_more {s} T A =
      record { is = λ xs ys P. rw (add-one s) (A.is xs ys P ∙ ap (stepped (size_of e) e.at s (leads_to e x xs y ys s)) (T.is xs ys P)) }

  pub steps_all :
      {s limit : ℕ} {k' : Kept} → StepsTaken e x y places s k k' → StepsBelow x y limit → s ≡ limit
      → StepsTaken e x y places labels_most k k'
  steps_all {s} {limit} T B same =
      record {
        is =
            λ xs ys P.
            T.is xs ys P
            ∙ (rw same
            (expanded-past (size_of e) e.at (leads_to e x xs y ys) limit k
            (λ i l. ap (λ (o : rules.Onward). place_of e.sizes.new e.sizes.old (landed e.turn o)) (B.none xs ys i l)) labels_most B.few));
      }

  pub ready_after : {s : ℕ} {k' : Kept} → Ready e k → Leading e x y places → StepsTaken e x y places s k k' → Ready e k'
  ready_after {s} {k'} Y L T =
      let next = leads_to e x L.left_names y L.right_names in
      let below : (i q : ℕ) → next i ≡ some q → q < size_of e =
      λ i q d.
      let w = place_of_some e.sizes.new e.sizes.old (landed e.turn (step_of x L.left_names y L.right_names i)) q d in
      rw (← w.2) (place_below (L.lands i w.0 w.1)) in
      let H = expanded_holds (size_of e) e.at next s k below (Y.queue, Y.entry) in
      let taken = T.is L.left_names L.right_names L.placed in
      record {
        queue = subst (Queue (size_of e)) (sym taken) H.0;
        entry = subst (λ (z : Kept). e.at < z.tail) (sym taken) H.1;
      }

-- Steps of the loops: one name more followed, one number more written to an area.
-- Assumes nothing.
use mathlib.Core.Bool.{false}
use mathlib.Core.List.{List}
use mathlib.Core.Path.{◌≡◌, refl, sym, ◌∙◌}
use Prim.Native.Nat.{ℕ, zero, suc, ◌+◌, ◌-◌, ◌<◌, ◌≤◌}
use native.Mathlib.Decide.{ℕ_discrete}
use native.Mathlib.Numerals.{unary_clauses}
use native.Mathlib.Omega.{arith}
use borrow.Author.Count.{below_more}
use borrow.Author.Tests.{lt-ltb, le-ltb, le-leb, lt-leb}
use lib.Dec.{leb}
use lib.ListN.{length, get_or, set, length-set}
use lib.Seq.{get_or-set_same, get_or-set_other}
use Rattle.std.specs.Prelude.{Option, Some, None}
use Rattle.rules.specs.Basics.{first}
use Rattle.rules.proofs.Basics.{first_found, first_here, first_nowhere}
use Rattle.flat.specs.Flat.{a_use}
use Rattle.words.specs.Found.{found}
use Rattle.words.proofs.Found.{found_none, found_some, none_found, some_found}
use Rattle.names.specs.Following.{link_at, leads, Written, WrittenAs}

-- where no name may be followed; a definition that links to a node, and one that links to a use
module _ (d owners : List ℕ) where
  pub leads_none : (i n : ℕ) → n ≤ 0 → leads d owners n i ≡ a_use
  unfolding leads
  leads_none i zero l = refl
  leads_none i (suc n) l = absurd (omega arith)

  pub leads_here : (n i : ℕ) → 0 < n → link_at d i < a_use → leads d owners n i ≡ link_at d i
  unfolding leads
  leads_here zero i m l = absurd (omega arith)
  leads_here (suc n) i m l = rw (leads, lt-ltb (link_at d i) a_use l) refl

  pub leads_on : (n i : ℕ) → 0 < n → a_use ≤ link_at d i → leads d owners n i ≡ leads d owners (n - 1) (get_or owners (link_at d i - a_use) 0)
  unfolding leads
  leads_on zero i m l = absurd (omega arith)
  leads_on (suc n) i m l = rw (leads, le-ltb (link_at d i) a_use l) (simp unary_clauses refl)

-- where a definition leads through at most n names: nowhere, and to a node
module _ (d owners : List ℕ) (n i : ℕ) where
  pub followed_nowhere : a_use ≡ leads d owners n i → None ≡ found a_use (leads d owners n i)
  followed_nowhere e = rw (← e) (sym (found_none a_use a_use (omega arith)))

  pub followed_to : (k : ℕ) → k < a_use → k ≡ leads d owners n i → Some k ≡ found a_use (leads d owners n i)
  followed_to k l e = rw (← e) (sym (found_some a_use k l))

-- Numbers below m, written one after the other: none,
pub none_written : {f : ℕ → ℕ} {m : ℕ} {a : List ℕ} → Written f m 0 a a 0
unfolding first
none_written = record { answer = refl; holds = λ i l. absurd (omega arith); long = refl; within = λ k l h. h }

module _ {f : ℕ → ℕ} {m i : ℕ} {before a : List ℕ} (W : Written f m i before a i) where
  below : (j : ℕ) → j < i → leb m (f j) ≡ false
  below j l = (first_found i (λ j. leb m (f j))).before j (rw (← W.answer) l)

  -- as far as to one that is not below m,
  not_written : {count : ℕ} → i < count → m ≤ f i → Written f m count before a i
  not_written l h =
      record { answer = first_here i l below (le-leb m (f i) h); holds = W.holds; long = W.long; within = W.within }

  pub written_as : {count : ℕ} → i < count → found m (f i) ≡ None → WrittenAs f m count before a (Some i)
  written_as {count} l e =
      record { reached = i; written = not_written l (none_found m (f i) e); answered = sym (found_some count i l) }

  -- and one more.
  module _ (v : ℕ) (l : i < length a) (e : v ≡ f i) (h : v < m) where
    holds_more : (j : ℕ) → j < i + 1 → get_or (set a i v) j 0 ≡ f j
    holds_more j k = go (ℕ_discrete j i)
      where
        go : Dec (j ≡ i) → get_or (set a i v) j 0 ≡ f j
        go (yes q) = rw q (get_or-set_same a i v 0 l ∙ e)
        go (no q) = get_or-set_other a i j v 0 q ∙ W.holds j (omega arith)

    within_more : (k : ℕ) → m ≤ k → ((j : ℕ) → get_or before j 0 < k) → (j : ℕ) → get_or (set a i v) j 0 < k
    within_more k n b j = go (ℕ_discrete j i)
      where
        go : Dec (j ≡ i) → get_or (set a i v) j 0 < k
        go (yes q) = rw (q, get_or-set_same a i v 0 l) (omega arith)
        go (no q) = rw (get_or-set_other a i j v 0 q) (W.within k n b j)

    one_more : Written f m (i + 1) before (set a i v) (i + 1)
    one_more =
        record {
          answer = first_nowhere (i + 1) refl (below_more (λ j. leb m (f j) ≡ false) i below (lt-leb m (f i) (rw (← e) h)));
          holds = holds_more;
          long = length-set a i v ∙ W.long;
          within = within_more;
        }

  pub one_written : {v : ℕ} → i < length a → found m (f i) ≡ Some v → Written f m (i + 1) before (set a i v) (i + 1)
  one_written {v} l e = let (q, h) = some_found m (f i) v e in one_more v l q (omega arith)

-- A position that is answered is one of those that were looked at.
pub answer_below :
    {f : ℕ → ℕ} {m count i : ℕ} {before after : List ℕ} {r : Option ℕ} → WrittenAs f m count before after r → r ≡ Some i → i < count
answer_below {count} {i} W e = let (q, l) = some_found count W.reached i (sym W.answered ∙ e) in omega arith

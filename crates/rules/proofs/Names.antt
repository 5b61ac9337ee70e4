-- A lead that gets to a node at all gets there through no more names than the text has definitions. By counting the definitions that get to
-- a node through at most n names: where n names are too few and one more is enough, they are more than n.
-- Assumes nothing.
use mathlib.Core.Bool.{Bool, true, false}
use mathlib.Core.List.{List}
use mathlib.Core.Option.{Option, none, some, none-ne-some, some-ne-none}
use mathlib.Core.Path.{◌≡◌, refl, ap, ◌∙◌}
use Prim.Native.Nat.{ℕ, zero, suc, ◌+◌, ◌≤◌, ◌<◌}
use native.Mathlib.Decide.{le_ind}
use native.Mathlib.Omega.{arith}
use Rattle.rules.specs.Basics.{same}
use Rattle.rules.specs.Notation.{Text, last_definition, definition}
use Rattle.rules.specs.Numbering.{Lead, to_node, to_name, to_nothing, lead, behind, definition_leads, definition_count, follow}

-- what a weight of leads comes to over the definitions of a text, of which the first node is number k
abbrev total : (Lead → ℕ) → Text → ℕ → ℕ
total f (last_definition v x) k = f (lead x k)
total f (definition v x ds) k = f (lead x k) + total f ds (behind x k)

-- Where a step from f to g makes no lead weigh less, the total grows by at least as much as the lead of any one name does; a name that
-- has no definition leads to nothing, which weighs nothing.
module _ (f g : Lead → ℕ) (grows : (l : Lead) → f l ≤ g l) (nothing : g to_nothing ≡ 0) where
  -- one definition more at the front, whose name is the one asked for or not
  one_more :
      (b : Bool) (l o : Lead) (m n : ℕ) → m + g o ≤ n + f o
      → let c : Lead = elim b [ true ↦ l | false ↦ o ] in f l + m + g c ≤ g l + n + f c
  one_more true l o m n h = omega (arith, grows o)
  one_more false l o m n h = omega (arith, grows l)

  total_more :
      (t : Text) (k : ℕ) (w : List ℕ) → total f t k + g (definition_leads t k w) ≤ total g t k + f (definition_leads t k w)
  unfolding definition_leads
  total_more (last_definition v x) k w = omega (arith, one_more (same v.spelled w) (lead x k) to_nothing 0 0 (omega arith))
  total_more (definition v x ds) k w =
      one_more (same v.spelled w) (lead x k) (definition_leads ds (behind x k) w) _ _ (total_more ds (behind x k) w)

follow_next : (t : Text) (n : ℕ) (l : Lead) (k : ℕ) → follow t n l ≡ some k → follow t (suc n) l ≡ some k
unfolding follow
follow_next t zero (to_node j) k e = e
follow_next t zero (to_name w) k e = absurd (none-ne-some k e)
follow_next t zero to_nothing k e = e
follow_next t (suc n) (to_node j) k e = e
follow_next t (suc n) (to_name w) k e = follow_next t n (definition_leads t zero w) k e
follow_next t (suc n) to_nothing k e = e

-- more names change nothing
pub follow_more : (t : Text) (n m : ℕ) (l : Lead) (k : ℕ) → n ≤ m → follow t n l ≡ some k → follow t m l ≡ some k
follow_more t n m l k h e = le_ind (λ m. follow t m l ≡ some k) e (λ m _. follow_next t m l k) m h

pub follow_one : (t : Text) (n m : ℕ) (l : Lead) (j k : ℕ) → follow t n l ≡ some j → follow t m l ≡ some k → j ≡ k
follow_one t n m l j k e g =
    cc (follow_more t n (n + m) l j (omega arith) e, follow_more t m (n + m) l k (omega arith) g)

-- 1 where a node is got to
abbrev reached : Option ℕ → ℕ
reached none = 0
reached (some k) = 1

reached_most : (o : Option ℕ) → reached o ≤ 1
reached_most none = omega arith
reached_most (some k) = omega arith

module _ (t : Text) where
  abbrev reach : ℕ → Lead → ℕ
  reach n l = reached (follow t n l)

  total_most : (n : ℕ) (s : Text) (k : ℕ) → total (reach n) s k ≤ definition_count s
  total_most n (last_definition v x) k = reached_most (follow t n (lead x k))
  total_most n (definition v x ds) k = omega (arith, reached_most (follow t n (lead x k)), total_most n ds (behind x k))

  reach_grows : (n : ℕ) (l : Lead) → reach n l ≤ reach (suc n) l
  reach_grows n l = go (follow t n l) refl
    where
      go : (o : Option ℕ) → follow t n l ≡ o → reached o ≤ reach (suc n) l
      go none e = omega arith
      go (some k) e = rw (follow_next t n l k e) (omega arith)

  -- where n names are too few and one more is enough, a definition came in at each number up to n
  late_count : (n : ℕ) (l : Lead) (k : ℕ) → follow t n l ≡ none → follow t (suc n) l ≡ some k → n < total (reach n) t zero
  unfolding follow
  late_count zero (to_node j) k e g = absurd (some-ne-none j e)
  late_count zero (to_name w) k e g =
      omega (arith, total_more (λ l. 0) (reach zero) (λ l. omega arith) refl t zero w, ap reached g)
  late_count zero to_nothing k e g = absurd (none-ne-some k g)
  late_count (suc n) (to_node j) k e g = absurd (some-ne-none j e)
  late_count (suc n) (to_name w) k e g =
      omega
      (arith, late_count n (definition_leads t zero w) k e g, total_more (reach n) (reach (suc n)) (reach_grows n) refl t zero w, ap reached e, ap reached g)
  late_count (suc n) to_nothing k e g = absurd (none-ne-some k g)

pub follow_enough : (t : Text) (n : ℕ) (l : Lead) (k : ℕ) → follow t n l ≡ some k → follow t (definition_count t) l ≡ some k
follow_enough t zero l k e = follow_more t zero (definition_count t) l k (omega arith) e
follow_enough t (suc n) l k e = go (follow t n l) refl (follow_enough t n l)
  where
    go :
        (o : Option ℕ) → follow t n l ≡ o → ((j : ℕ) → follow t n l ≡ some j → follow t (definition_count t) l ≡ some j)
        → follow t (definition_count t) l ≡ some k
    go none p again =
        follow_more t (suc n) (definition_count t) l k (omega (arith, late_count t n l k p e, total_most t n t zero)) e
    go (some j) p again = again k (p ∙ ap some (follow_one t n (suc n) l j k p e))

-- `every` and `some_below` are what `all` and `any` answer over a range from 0, where the closure computes the test; `every` is also what a
-- test of each element of a list says.
-- Assumes nothing.
use mathlib.Core.Bool.{Bool, true, false, false≢true}
use mathlib.Core.List.{List}
use mathlib.Core.Path.{◌≡◌, refl, sym, ap, ◌∙◌}
use Prim.Native.Nat.{ℕ, ◌<◌}
use native.Mathlib.Omega.{arith}
use native.Mathlib.Nat.{zero-add}
use lib.ListN.{length, get_or}
use denote.Param.Members.{Mut}
use Rattle.std.proofs.iter.Yields.{nat_range_steps}
use Rattle.std.proofs.lemmas.Bool.{true_from_ne_false}
use Rattle.std.proofs.lemmas.Iterator.{YieldsList-from_range}
use Rattle.std.proofs.lemmas.Iterator.Search.{all_from_yields_List, any_from_yields_List}
use Rattle.std.proofs.lemmas.List.Elements.{All-from_get_or}
use Rattle.std.proofs.lemmas.List.Folds.{list_all_at, Any-from_list_any, list_any-from_Any}
use Rattle.std.proofs.lemmas.List.FromFn.{get_or-range_with_len, length-range_with_len}
use Rattle.std.proofs.lemmas.List.Sums.{list_all-from_AllPass}
use Rattle.std.specs.Fn.{Called}
use Rattle.std.specs.Iterator.{YieldsThen}
use Rattle.std.specs.List.{FoldsTo, list_all, range_with_len}
use Rattle.std.specs.Option.{MatchOption}
use Rattle.std.specs.Prelude.{Option}
use Rattle.std.specs.declared.ops.Range.{Range}
use Rattle.rules.specs.Basics.{every, some_below}
use Rattle.rules.proofs.Basics.{tests_same, every_true, every_all, some_below_true, some_below_at}

-- of a list, by its positions: q asks of a position what p asks of the element there
pub list_all_every :
    {X : Type 0} (p : X → Bool) (xs : List X) (d : X) (n : ℕ) (q : ℕ → Bool)
    → length xs ≡ n → ((i : ℕ) → i < n → p (get_or xs i d) ≡ q i) → list_all p xs ≡ every n q
list_all_every p xs d n q e f =
    tests_same _ _
    (λ t.
    every_all n q
    (λ i l. sym (f i l) ∙ true_from_ne_false _ (λ b. false≢true (sym (list_all_at p xs i d (omega arith) b) ∙ t))))
    (λ t.
    list_all-from_AllPass p xs
    (All-from_get_or (λ x. p x ≡ true) xs d (λ i l. f i (omega arith) ∙ every_true n q t i (omega arith))))

range_at : (n i d : ℕ) → i < n → get_or (range_with_len 0 n) i d ≡ i
range_at n i d l = get_or-range_with_len 0 n i d l ∙ zero-add i

-- over a range
pub every_by_all :
    {F : Type 0} {g : Mut F (ℕ × Unit {0}) Bool} (n : ℕ) (p : ℕ → Bool) (f : F) (u : Range ℕ) (r : Bool)
    → (xs : List ℕ) × (o : Option ℕ) × (j : F) × YieldsThen nat_range_steps (record { start = 0; end = n }) xs o u
    × FoldsTo (λ p x q. Called g p (x, tt) true q) f xs j
    × MatchOption o (r ≡ true) (λ x. (r ≡ false) × ((h : F) × Called g j (x, tt) false h))
    → ((x : ℕ) (b : Bool) (q : F) → Called g f (x, tt) b q → (q ≡ f) × (b ≡ p x)) → r ≡ every n p
every_by_all {F} {g} n p f u r ran calls =
    all_from_yields_List {g = g} p u f r ran (YieldsList-from_range 0 n n refl (omega arith)) calls
    ∙ list_all_every p (range_with_len 0 n) 0 n p (length-range_with_len 0 n) (λ i l. ap p (range_at n i 0 l))

-- and `some_below` is what `any` answers
pub some_by_any :
    {F : Type 0} {g : Mut F (ℕ × Unit {0}) Bool} (n : ℕ) (p : ℕ → Bool) (f : F) (u : Range ℕ) (r : Bool)
    → (xs : List ℕ) × (o : Option ℕ) × (j : F) × YieldsThen nat_range_steps (record { start = 0; end = n }) xs o u
    × FoldsTo (λ p x q. Called g p (x, tt) false q) f xs j
    × MatchOption o (r ≡ false) (λ x. (r ≡ true) × ((h : F) × Called g j (x, tt) true h))
    → ((x : ℕ) (b : Bool) (q : F) → Called g f (x, tt) b q → (q ≡ f) × (b ≡ p x)) → r ≡ some_below n p
some_by_any {F} {g} n p f u r ran calls =
    any_from_yields_List {g = g} p u f r ran (YieldsList-from_range 0 n n refl (omega arith)) calls
    ∙ tests_same _ _
    (λ t.
    let h = Any-from_list_any p (range_with_len 0 n) t in
    let l : h.0 < n = omega (arith, h.2, length-range_with_len 0 n) in
    some_below_at n p h.0 l (ap p (sym (sym h.3 ∙ range_at n h.0 h.1 l)) ∙ h.4))
    (λ t.
    let h = some_below_true n p t in
    list_any-from_Any p (range_with_len 0 n)
    (h.0, h.0, omega (arith, h.1, length-range_with_len 0 n), range_at n h.0 h.0 h.1, h.2))

-- Laws of pairs: when two are the same, and when nothing is wrong.
-- Assumes nothing.
use Rattle.std.specs.Prelude.{None, Some}
use mathlib.Core.Bool.{true, false, false≢true}
use mathlib.Core.Path.{◌≡◌, refl, sym, ap, ◌∙◌}
use mathlib.Mathlib.Data.Bool.Basic.{and_elim_left, and_elim_right}
use borrow.Author.Tests.{eqb-true, eq-eqb}
use Rattle.rules.specs.Pairs.{Wrong, Pair}
use Rattle.rules.specs.computed.Verdict.{same_pair, fits}

pub same_pair_true : (p q : Pair) → same_pair p q ≡ true → p ≡ q
same_pair_true p q e =
    let a : p.turn ≡ q.turn = eqb-true _ _ (search (and_elim_left, and_elim_right)) in
    let b : p.new ≡ q.new = eqb-true _ _ (search (and_elim_left, and_elim_right)) in
    let c : p.old ≡ q.old = eqb-true _ _ (search (and_elim_left, and_elim_right)) in
    λ i. record { turn = a i; new = b i; old = c i }

pub same_pair_is : (p q : Pair) → p ≡ q → same_pair p q ≡ true
same_pair_is p q e = rw (← e, eq-eqb p.turn p.turn refl, eq-eqb p.new p.new refl, eq-eqb p.old p.old refl)

pub fits_nothing : (m : Wrong) → fits m ≡ true → m ≡ None
fits_nothing None e = refl
fits_nothing (Some w) e = absurd (false≢true e)

pub fits_not : (m : Wrong) → fits m ≡ false → m ≡ None → ⊥
fits_not m e d = false≢true (sym e ∙ ap fits d)

-- `names::end_of` meets its contract: from `at` on, through the names that are left, the same is got to as from d through n.
-- Assumes nothing.
use mathlib.Core.Path.{◌≡◌, sym, ◌∙◌}
use Prim.Native.Nat.{◌+◌, ◌-◌}
use native.Mathlib.Omega.{arith}
use Rattle.names.proofs.Loops.{leads_none, leads_here, leads_on, followed_nowhere, followed_to}
use Rattle.names.proofs.end_of.Goals as goal

pub returns-then-link-lt-A_USE : goal.returns-then-link-lt-A_USE
returns-then-link-lt-A_USE c =
    followed_to _ _ _ _ _ (omega arith) (c.from-link.ensures ∙ sym (leads_here _ _ _ _ (omega arith) (omega arith)) ∙ c.loop.invariant.same)

pub loop-preserved : goal.loop-preserved
loop-preserved c = record {
  within = rw (c.from-at.ensures, c.from-link.ensures) (c.requires.followable.owned _ c.loop.invariant.within (omega arith));
  same =
      let less : c.args.n - (c.loop.counter + 1) ≡ c.args.n - c.loop.counter - 1 = omega arith in
      rw (less, c.from-at.ensures, c.from-link.ensures) (sym (leads_on _ _ _ _ (omega arith) (omega arith)) ∙ c.loop.invariant.same);
}

pub returns : goal.returns
returns c = followed_nowhere _ _ _ _ (sym (leads_none _ _ _ _ (omega arith)) ∙ c.loop.invariant.same)

-- One step of an entry: where it leads is a pair of nodes.
-- Assumes nothing.
use mathlib.Core.List.{List}
use mathlib.Core.Option.{some}
use mathlib.Core.Path.{◌≡◌, sym, ap, ◌∙◌}
use Prim.Native.Nat.{ℕ}
use Rattle.std.specs.Prelude.{Option, Some}
use Rattle.rules.specs.Pairs.{Pair, landed, onto}
use Rattle.rules.proofs.Steps.{Inside}
use Rattle.pairs.specs.Beside.{onward, StepsAs}
use Rattle.pairs.specs.declared.Onward.{Onward}
use Rattle.table.specs.declared.Node.{Node}
use Rattle.replace.specs.Taking.{Leading}
use Rattle.replace.specs.declared.entry.Entry.{Entry}

pub step_inside :
    {e : Entry} {x y : Node} {places : List ℕ} {s : ℕ} {r : Option Onward} {o : Onward} {q : Pair} → StepsAs x y places s r → r ≡ Some o
    → landed e.turn (onto o.left o.right o.turns) ≡ some q → Leading e x y places → Inside e.sizes.new e.sizes.old q
step_inside {e} {s = s} {q = q} S is d L =
    L.lands s q (ap (landed e.turn) (sym (S.is L.left_names L.right_names L.placed) ∙ ap onward is) ∙ d)

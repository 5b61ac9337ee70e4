-- The numbers that stand in an area, the first of them and those behind it.
-- Assumes nothing.
use mathlib.Core.List.{List, ◌∷◌}
use mathlib.Core.Path.{◌≡◌, ap, ◌∙◌}
use Prim.Native.Nat.{ℕ, suc}
use native.Mathlib.Nat.{add-zero}
use native.Mathlib.Omega.{arith}
use lib.ListN.{get_or}
use Rattle.flat.specs.Flat.{Holds}

module _ {a : List ℕ} {i n : ℕ} {ns : List ℕ} (h : Holds a i (n ∷ ns)) where
  pub held : get_or a i 0 ≡ n
  held = rw (add-zero i) at (h.each 0 (omega arith))

  pub held_behind : Holds a (suc i) ns
  held_behind = record { each = λ j l. ap (λ m. get_or a m 0) (omega arith) ∙ h.each (suc j) (omega arith) }

-- The sizes of the areas as the code has them, from the product of n and m.
-- Assumes nothing.
use mathlib.Core.Path.{◌≡◌, sym}
use Prim.Native.Nat.{ℕ, ◌*◌, ◌≤◌}
use native.Mathlib.Nat.{mul_assoc, mul-le-mul}
use Rattle.rules.specs.Numbers.{table_nodes_most}
use Rattle.rules.specs.Pairs.{turns_most}

pub pairs_few : {n m : ℕ} → n ≤ table_nodes_most → m ≤ table_nodes_most → n * m ≤ 16384
pairs_few a b = mul-le-mul a b

pub pairs_times : (n m : ℕ) → (2 * (n * m) ≡ turns_most * n * m) × (4 * (n * m) ≡ 4 * n * m) × (6 * (n * m) ≡ 6 * n * m)
pairs_times n m = (sym (mul_assoc 2 n m), sym (mul_assoc 4 n m), sym (mul_assoc 6 n m))

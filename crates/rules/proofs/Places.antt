-- The place of a pair's mark, over the node counts n and m: each pair of nodes has its own, and each place is a pair's. A place is three
-- digits, turn, new and old, to the bases 2, n and m. And the sizes of the lent areas.
-- Assumes nothing.
use mathlib.Core.Path.{◌≡◌, ◌∙◌}
use Prim.Native.Nat.{ℕ, ◌<◌, ◌≤◌, ◌+◌, ◌*◌, ◌/◌, ◌%◌}
use native.Mathlib.Decide.{ℕ_discrete}
use native.Mathlib.Nat.{add-mul, div-add-mod', div-lt_iff_lt-mul, mod-lt, mul-le-mul, mul-zero, zero-mul}
use native.Mathlib.Omega.{arith}
use lib.Arith.{digits_lt, digits_div, digits_mod}
use Rattle.rules.proofs.Steps.{Inside}
use Rattle.rules.specs.Numbers.{table_nodes_most}
use Rattle.rules.specs.Pairs.{Pair, turns_most}
use Rattle.table.specs.declared.Table.{Table}

-- `mark_place`, of the counts
abbrev pub place : ℕ → ℕ → Pair → ℕ
place n m p = p.turn * n * m + p.new * m + p.old

-- the pair whose mark stands at i
abbrev pub pair_in : ℕ → ℕ → ℕ → Pair
pair_in n m i = record { turn = i / m / n; new = i / m % n; old = i % m }

abbrev pub pair_at : Table → Table → ℕ → Pair
pair_at new old i = pair_in new.count old.count i

pub place_digits : (n m : ℕ) (p : Pair) → place n m p ≡ (p.turn * n + p.new) * m + p.old
place_digits n m p = rw (add-mul (p.turn * n) p.new m)

module _ {n m : ℕ} {p : Pair} (w : Inside n m p) where
  pub place_below : place n m p < turns_most * n * m
  place_below = rw (place_digits n m p) (digits_lt (digits_lt w.turn_below w.new_below) w.old_below)

  pub pair_at_place : pair_in n m (place n m p) ≡ p
  pair_at_place =
      let a = p.turn * n + p.new in
      rw (
        place_digits n m p,
        digits_div a w.old_below,
        digits_mod a w.old_below,
        digits_div p.turn w.new_below,
        digits_mod p.turn w.new_below,
      )

-- what is below a product is below no product with 0
factors_positive : (i n m : ℕ) → i < 2 * n * m → (0 < n) × (0 < m)
factors_positive i n m l = (left (ℕ_discrete n 0), right (ℕ_discrete m 0))
  where
    left : Dec (n ≡ 0) → 0 < n
    left (yes e) = absurd (omega (arith, rw (e, zero-mul m) at l))
    left (no e) = omega arith

    right : Dec (m ≡ 0) → 0 < m
    right (yes e) = absurd (omega (arith, rw (e, mul-zero (2 * n)) at l))
    right (no e) = omega arith

module _ (n m i : ℕ) (l : i < turns_most * n * m) where
  pub pair_at_within : Inside n m (pair_in n m i)
  pair_at_within =
      let f = factors_positive i n m l in
      record {
        turn_below = (div-lt_iff_lt-mul f.0).1 ((div-lt_iff_lt-mul f.1).1 l);
        new_below = mod-lt (i / m) f.0;
        old_below = mod-lt i f.1;
      }

  pub place_pair_at : place n m (pair_in n m i) ≡ i
  place_pair_at = place_digits n m (pair_in n m i) ∙ (rw (div-add-mod' (i / m) n, div-add-mod' i m))

-- scratch is twice as long as marks
pub scratch_twice : (n m : ℕ) → 4 * n * m ≡ turns_most * n * m + turns_most * n * m
scratch_twice n m =
    let e : 4 * n ≡ turns_most * n + turns_most * n = omega arith in
    rw (e, add-mul (turns_most * n) (turns_most * n) m)

-- the pairs of two tables are numbers of 16 bits
pub pairs_few : {n m : ℕ} → n ≤ table_nodes_most → m ≤ table_nodes_most → turns_most * n * m ≤ 32768
pairs_few {n} {m} a b = let l : turns_most * n ≤ 256 = omega arith in mul-le-mul l b

-- a place is a sum of small numbers
module _ {n m : ℕ} {p : Pair} (a : n ≤ table_nodes_most) (b : m ≤ table_nodes_most) (w : Inside n m p) where
  pub turn_part : p.turn * n ≤ 256
  turn_part = let l : p.turn ≤ turns_most = omega (arith, w.turn_below) in mul-le-mul l a

  pub turn_product : p.turn * n * m ≤ 32768
  turn_product = mul-le-mul turn_part b

  pub new_product : p.new * m ≤ 16384
  new_product = let l : p.new ≤ table_nodes_most = omega (arith, w.new_below) in mul-le-mul l b

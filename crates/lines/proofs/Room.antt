-- The room for the fields that are still to come, and what is behind them.
-- Assumes nothing.
use mathlib.Core.List.{List, ◌++◌}
use mathlib.Core.Path.{ap, sym, ◌∙◌}
use Prim.Native.Nat.{ℕ, ◌+◌, ◌<◌, ◌≤◌}
use native.Mathlib.Omega.{arith}
use lib.ListN.{length, length-append}
use Rattle.rules.specs.Line.{fields, line}
use Rattle.rules.proofs.LineLength.{line_parts}
use Rattle.lines.specs.Adding.{Adds}
use Rattle.lines.proofs.Adding.{adds_length, adds_then, adds_as, fields-append}

-- from place `at` on there is room for the fields ks and t bytes more
pub record Room (xs : List ℕ) (at : ℕ) (ks : List ℕ) (t : ℕ) : Type 0 where
  pub room : at + length (fields ks) + t ≤ length xs

-- behind the word of a line there is room for its fields and the line feed
pub room_begins : {xs ys w : List ℕ} {r : ℕ} (ks : List ℕ) → Adds xs 0 w ys r → length (line w ks) ≤ length xs → Room ys r ks 1
room_begins {w = w} ks A l = record { room = omega (arith, l, line_parts w ks, A.behind, adds_length A) }

pub word_room : (xs w ks : List ℕ) → length (line w ks) ≤ length xs → 0 + length w ≤ length xs
word_room xs w ks l = omega (arith, l, line_parts w ks)

module _ {xs : List ℕ} {at t : ℕ} where
  -- some of the fields at once, and what is left behind them
  pub room_some : (js ks : List ℕ) → Room xs at (js ++ ks) t → at + length (fields js) ≤ length xs
  room_some js ks R = omega (arith, R.room, ap length (fields-append js ks) ∙ length-append (fields js) (fields ks))

  pub room_behind : (js ks : List ℕ) {ys : List ℕ} {r : ℕ} → Room xs at (js ++ ks) t → Adds xs at (fields js) ys r → Room ys r ks t
  room_behind js ks R A =
      record { room = omega (arith, R.room, ap length (fields-append js ks) ∙ length-append (fields js) (fields ks), A.behind, adds_length A) }

  pub room_all : {ks : List ℕ} → Room xs at ks t → at + length (fields ks) ≤ length xs
  room_all R = omega (arith, R.room)

-- the line feed behind the fields
pub room_feed :
    {xs ys ks : List ℕ} {at r : ℕ} → Room xs at ks 1 → Adds xs at (fields ks) ys r → r < length ys
room_feed R A = omega (arith, R.room, A.behind, adds_length A)

pub adds_some :
    {xs ys zs : List ℕ} {at r s : ℕ} (js ks : List ℕ) → Adds xs at (fields js) ys r → Adds ys r (fields ks) zs s
    → Adds xs at (fields (js ++ ks)) zs s
adds_some js ks A B = adds_as (adds_then A B) (sym (fields-append js ks))

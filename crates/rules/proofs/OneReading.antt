-- A text has one reply: two replies that `Reads` allows coincide. Two trees are one tree; and of two refusals one goes before the other,
-- unless they have one number and one place.
-- Assumes nothing.
use mathlib.Core.List.{List}
use mathlib.Core.Logic.{inl, inr}
use mathlib.Core.Path.{◌≡◌}
use Prim.Native.Nat.{ℕ}
use Rattle.rules.specs.Refusals.{number}
use Rattle.rules.specs.Replies.{Reads, accepts, refuses}
use Rattle.rules.proofs.OneTree.{one_tree}
use Rattle.rules.proofs.Refusals.{goes_first_total, kind_one}
use Rattle.table.specs.declared.answers.Made.{Made}

pub one_reading : {s : List ℕ} {m n : Made} → Reads s m → Reads s n → m ≡ n
one_reading (accepts v h) (accepts w g) = cc (one_tree v w)
one_reading (accepts v h) (refuses {k} {p} f g) = absurd (h (number k) p f)
one_reading (refuses {k} {p} f g) (accepts w h) = absurd (h (number k) p f)
one_reading (refuses {k} {p} f h) (refuses {k = j} {p = q} g i) =
    elim (goes_first_total (number k) p (number j) q) [
      | inl e ↦ absurd (i (number k) p f e)
      | inr (inl e) ↦ absurd (h (number j) q g e)
      | inr (inr e) ↦ cc (kind_one k j e.0, e.1)
    ]

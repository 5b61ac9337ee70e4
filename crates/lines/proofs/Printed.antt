-- The printed line lies within its area.
-- Assumes nothing.
use mathlib.Core.List.{List}
use mathlib.Core.Path.{◌≡◌, sym, ap, ◌∙◌}
use Prim.Native.Nat.{ℕ, ◌≤◌}
use native.Mathlib.Omega.{arith}
use lib.ListN.{length, take, drop, length-append}
use lib.Seq.{length-take-le}
use Rattle.table.specs.declared.answers.Question.{Question}
use Rattle.rules.specs.Writing.{PrintsInto}

module _ {q : Question} {input before after : List ℕ} {r : ℕ} (P : PrintsInto q input before after r) where
  pub printed_within : r ≤ length after
  printed_within =
      omega (arith, P.long, ap length P.holds ∙ length-append P.printed (drop (length P.printed) before))

  pub printed_part : r ≡ length (take r after)
  printed_part = sym (length-take-le r after printed_within)

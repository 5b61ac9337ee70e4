-- Two replies that the two calls of "compatible" allow coincide: the first call's is a function, the second's is one by `one_verdict`.
-- Assumes nothing.
use mathlib.Core.List.{List}
use mathlib.Core.Option.{Option, some}
use mathlib.Core.Path.{◌≡◌, refl, sym, ap, ◌∙◌}
use Prim.Native.Nat.{ℕ}
use Rattle.rules.proofs.OneVerdict.{one_verdict}
use Rattle.rules.proofs.Replies.{made_not_refused}
use Rattle.rules.specs.Replies.{Areas, AsksCompatible, no_dual, then_verdict}
use Rattle.table.specs.declared.Table.{Table}
use Rattle.table.specs.declared.answers.Made.{Made}
use Rattle.rules.specs.Replies.{Answer}

module _ (new : Table) (new_names : List ℕ) (other : Table) (other_names : List ℕ) (before after after' : Areas) where
  pub one_compatible :
      {m n : Made} {v w : Option Answer} → AsksCompatible new new_names other other_names before after m v
      → AsksCompatible new new_names other other_names before after' n w → (after ≡ after') × (m ≡ n) × (v ≡ w)
  one_compatible (no_dual a q) (no_dual b r) = (q ∙ sym r, sym a ∙ b, refl)
  one_compatible (no_dual a q) (then_verdict b X) = absurd (made_not_refused (sym b ∙ a))
  one_compatible (then_verdict a X) (no_dual b r) = absurd (made_not_refused (sym a ∙ b))
  one_compatible (then_verdict {t} {v} a X) (then_verdict {t = u} {v = w} b Y) =
      let e : t ≡ u = ap (λ (m : Made). m.table) (sym a ∙ b) in
      let o = one_verdict new new_names u other_names before after after' (rw e at X) Y in
      (o.0, sym a ∙ b, ap some o.1)

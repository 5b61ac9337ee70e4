-- Two things that C may be told coincide, and so do the areas behind them.
-- Assumes nothing.
use mathlib.Core.List.{List, ◌++◌}
use mathlib.Core.Path.{◌≡◌, refl, sym, ap, ◌∙◌}
use Prim.Native.Nat.{ℕ}
use native.Mathlib.Omega.{arith}
use lib.ListN.{length, drop}
use Rattle.std.specs.Prelude.{Result}
use Rattle.table.specs.declared.answers.Question.{Question}
use Rattle.table.specs.declared.answers.Refusal.{Refusal}
use Rattle.rules.specs.Writing.{LineAreas}
use Rattle.rules.proofs.OneLine.{one_answer}
use Rattle.rules.proofs.OneWritten.{one_written, one_counts}
use Rattle.harness.specs.Told.{Told, a_line, too_short, Tells, TellsOwn, line_short, line_written}

one_told : {w : Result ℕ Refusal} {r s r' s' : ℕ} → Told w r s → Told w r' s' → (r ≡ r') × (s ≡ s')
one_told a_line a_line = (refl, refl)
one_told too_short too_short = (refl, refl)

pub one_tells :
    {q : Question} {new_text old_text : List ℕ} {before after after' : LineAreas} {r s r' s' : ℕ}
    → Tells q new_text old_text before after r s → Tells q new_text old_text before after' r' s' → (after ≡ after') × (r ≡ r') × (s ≡ s')
one_tells T T' =
    let o = one_written T.writes T'.writes in
    let t = one_told (rw o.1 at T.told) T'.told in
    (o.0, t.0, t.1)

pub one_tells_own :
    {q : Question} {new_text old_text before after after' : List ℕ} {r s r' s' : ℕ}
    → TellsOwn q new_text old_text before after r s → TellsOwn q new_text old_text before after' r' s' → (after ≡ after') × (r ≡ r') × (s ≡ s')
one_tells_own (line_short C l e) (line_short D k f) = (e ∙ sym f, refl, refl)
one_tells_own (line_short C l e) (line_written D k A f) =
    let c = one_counts C D in absurd (omega (arith, (rw (c.0, c.1) at l), k))
one_tells_own (line_written C l A e) (line_short D k f) =
    let c = one_counts C D in absurd (omega (arith, (rw (c.0, c.1) at l), k))
one_tells_own {before} (line_written C l A e) (line_written D k B f) =
    let p = one_answer A B in
    (e ∙ ap (λ (x : List ℕ). x ++ drop (length x) before) p ∙ sym f, ap length p, refl)

-- What a `?` hands on: the refusal that it got.
-- Assumes nothing.
use mathlib.Core.Path.{◌≡◌, ◌∙◌, ap}
use Rattle.std.specs.Prelude.{Result, Err}
use Rattle.std.specs.Result.{IsErrAnd}
use Rattle.std.proofs.lemmas.Result.{err_from_is_err_and}

pub handed_on : {T E : Type 0} {x : E} (r : Result T E) → IsErrAnd r (λ y. y ≡ x) → r ≡ Err x
handed_on r h = let p = err_from_is_err_and r h in p.1 ∙ ap (λ y. Err y) p.2

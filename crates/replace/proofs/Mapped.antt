-- What a Result was before its error was mapped.
-- Assumes nothing.
use mathlib.Core.Path.{◌≡◌, refl}
use Rattle.std.specs.Prelude.{Result, Ok, Err}
use Rattle.std.specs.Result.{MatchResult, IsErrAnd}

module _ {X E D : Type 0} (P : E → D → Type 0) where
  abbrev pub Mapped : Result X E → Result X D → Type 0
  Mapped r q = MatchResult r (λ x. q ≡ Ok x) (λ e. IsErrAnd q (P e))

  pub mapped_err : (r : Result X E) (q : Result X D) (d : D) → Mapped r q → q ≡ Err d → (e : E) × (r ≡ Err e) × P e d
  mapped_err (Ok y) q d m e = cc
  mapped_err (Err y) (Ok z) d m e = absurd m
  mapped_err (Err y) (Err z) d m e = (y, refl, let s : z ≡ d = cc in rw s at m)

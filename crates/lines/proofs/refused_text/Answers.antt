-- `lines::refused_text` meets its contract: 18 bytes are room for the line of any refusal.
-- Assumes nothing.
use mathlib.Core.Path.{refl}
use native.Mathlib.Omega.{arith}
use Rattle.rules.proofs.LineLength.{refused-length}
use Rattle.lines.specs.Asking.{too_short}
use Rattle.lines.proofs.Asking.{refusal_put}
use Rattle.lines.proofs.refused_text.Goals as goal

pub returns-then-line-lt-LINE_LEAST : goal.returns-then-line-lt-LINE_LEAST
returns-then-line-lt-LINE_LEAST c = rw c.too_short.ensures (too_short c.if-line-lt-LINE_LEAST.true refl)

pub put_refused-requires : goal.put_refused-requires
put_refused-requires c =
    omega (arith, c.if-line-lt-LINE_LEAST.false, refused-length _ _ _ c.requires.0 c.requires.1 c.requires.2)

pub returns : goal.returns
returns c =
    refusal_put c.if-line-lt-LINE_LEAST.false
    (omega (arith, c.if-line-lt-LINE_LEAST.false, refused-length _ _ _ c.requires.0 c.requires.1 c.requires.2)) c.put_refused.ensures

-- `lines::writing::put_digits` meets its contract: by the number's last digit.
-- Assumes nothing.
use native.Mathlib.Omega.{arith}
use mathlib.Core.Path.{sym, ap}
use lib.ListN.{length}
use Rattle.rules.proofs.Digits.{digits_one, digits_more}
use Rattle.lines.proofs.Adding.{adds_then, adds_as, digits_longer, room_byte}
use Rattle.lines.proofs.writing.+put_digits.Goals as goal

pub put_byte-requires : goal.put_byte-requires
put_byte-requires t c = let e = ap length (digits_one c.args.k c.if-k-lt10.true) in omega (arith, e)

pub returns-then-k-lt10 : goal.returns-then-k-lt10
returns-then-k-lt10 t c = adds_as c.put_byte.ensures (sym (digits_one c.args.k c.if-k-lt10.true))

pub put_digits-next-requires : goal.put_digits-next-requires
put_digits-next-requires t c =
    (omega (arith, c.decreases), omega (arith, c.requires, digits_longer c.args.k c.if-k-lt10.false))

pub put_byte-requires-2 : goal.put_byte-requires-2
put_byte-requires-2 t c = room_byte c.put_digits-next.ensures (omega (arith, c.requires, digits_longer c.args.k c.if-k-lt10.false))

pub returns : goal.returns
returns t c = adds_as (adds_then c.put_digits-next.ensures c.put_byte-2.ensures) (sym (digits_more c.args.k c.if-k-lt10.false))

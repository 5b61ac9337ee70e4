-- `lines::writing::put_field` meets its contract: a space, and the number.
-- Assumes nothing.
use Prim.Native.Nat.{suc}
use native.Mathlib.Omega.{arith}
use Rattle.lines.proofs.Adding.{adds_then, adds_as, room_next, field_longer, field_is}
use Rattle.rules.specs.Line.{digits}
use Rattle.lines.proofs.writing.put_field.Goals as goal

pub put_byte-next-requires : goal.put_byte-next-requires
put_byte-next-requires c = omega (arith, c.requires, field_longer c.args.k)

pub put_digits-requires : goal.put_digits-requires
put_digits-requires c = room_next c.put_byte-next.ensures (digits (suc c.args.k) c.args.k) (omega (arith, c.requires, field_longer c.args.k))

pub returns : goal.returns
returns c = adds_as (adds_then c.put_byte-next.ensures c.put_digits.ensures) (field_is c.args.k)

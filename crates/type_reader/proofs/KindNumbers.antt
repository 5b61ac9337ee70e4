-- A node's kind as the number that is stored, in the order of the crate `table`.
-- Assumes nothing.
use mathlib.Core.Path.{◌≡◌, refl, ap, ◌∙◌}
use denote.Enum.Declared.{tag_of}
use Prim.Native.Nat.{ℕ, ◌<◌}
use native.Mathlib.Omega.{arith}
use Rattle.cursor.specs.Takes.{end_kind}
use Rattle.flat.specs.Flat.{message_number, choice_number}
use Rattle.rules.specs.Notation.{Way, into, out}
use Rattle.rules.specs.Numbering.{message_kind, choice_kind}
use Rattle.rules.proofs.Machine.{open_byte}
use Rattle.rules.specs.Pairs.{kind_number}
use Rattle.table.specs.contracts.Kind.{the_type}
use Rattle.table.specs.declared.Kind.{Kind}
use Rattle.table.specs.declared.Kind.TheVariants.{End, Receive, Send, Branch, Choose}

-- a kind `as` a number
pub kind_tag : (k : Kind) → tag_of the_type k ≡ kind_number k
kind_tag End = refl
kind_tag Receive = refl
kind_tag Send = refl
kind_tag Branch = refl
kind_tag Choose = refl

message_numbers : (d : Way) → kind_number (message_kind d) ≡ message_number d
message_numbers into = refl
message_numbers out = refl

choice_numbers : (d : Way) → kind_number (choice_kind d) ≡ choice_number d
choice_numbers into = refl
choice_numbers out = refl

pub message_stored : {k : Kind} (d : Way) → k ≡ message_kind d → kind_number k ≡ message_number d
message_stored d e = ap kind_number e ∙ message_numbers d

pub choice_stored : {k : Kind} (d : Way) → k ≡ choice_kind d → kind_number k ≡ choice_number d
choice_stored d e = ap kind_number e ∙ choice_numbers d

-- a bracket is a byte
pub open_small : {o : ℕ} (d : Way) → o ≡ open_byte d → o < end_kind
open_small into e = omega arith
open_small out e = omega arith

-- Two kinds are the same as their numbers are.
-- Assumes nothing.
use denote.Enum.Bare.{sameb}
use denote.Enum.Declared.{tag_of}
use lib.Dec.{eqb}
use mathlib.Core.Path.{◌≡◌, refl, ap₂}
use Rattle.rules.specs.Pairs.{kind_number}
use Rattle.table.specs.contracts.Kind.{the_type}
use Rattle.table.specs.declared.Kind.{Kind}
use Rattle.table.specs.declared.Kind.TheVariants.{End, Receive, Send, Branch, Choose}

tag_is_number : (k : Kind) → tag_of the_type k ≡ kind_number k
tag_is_number End = refl
tag_is_number Receive = refl
tag_is_number Send = refl
tag_is_number Branch = refl
tag_is_number Choose = refl

pub same_kinds : (a b : Kind) → sameb the_type a b ≡ eqb (kind_number a) (kind_number b)
same_kinds a b = ap₂ eqb (tag_is_number a) (tag_is_number b)

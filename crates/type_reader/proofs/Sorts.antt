-- Which kinds of token are a sort.
-- Assumes nothing.
use mathlib.Core.Bool.{Bool, true, false, false≢true}
use mathlib.Core.Path.{◌≡◌, refl}
use Prim.Native.Nat.{ℕ, ◌-◌, ◌<◌}
use borrow.Author.Tests.{leb-false, ltb-true}
use lib.Dec.{leb}
use denote.Enum.Declared.{tag_of}
use Rattle.cursor.specs.Takes.{number, reserved_kind, word_kind}
use Rattle.cursor.specs.declared.Symbol.TheVariants as symbols
use Rattle.flat.specs.Flat.{sort_number}
use Rattle.table.specs.contracts.Sort.{the_type}
use Rattle.table.specs.declared.Sort.{Sort}
use Rattle.table.specs.declared.Sort.TheVariants.{String, Float, Boolean, Void}
use Rattle.type_reader.specs.Leaves.{is_sort}

pub sort_between : (k : ℕ) → is_sort k ≡ true → (reserved_kind < k) × (k < word_kind)
unfolding is_sort
sort_between k e = go (leb k reserved_kind) refl
  where
    go : (b : Bool) → leb k reserved_kind ≡ b → (reserved_kind < k) × (k < word_kind)
    go true l = let z : false ≡ true = rw (is_sort, l) at e in absurd (false≢true z)
    go false l = (leb-false k reserved_kind l, ltb-true k word_kind (rw (is_sort, l) at e))

-- and the word of a sort is one
pub sort_word : (x : Sort) → (is_sort (number (symbols.Sort x)) ≡ true) × (number (symbols.Sort x) - reserved_kind - 1 ≡ sort_number x)
unfolding is_sort
sort_word String = (refl, refl)
sort_word Float = (refl, refl)
sort_word Boolean = (refl, refl)
sort_word Void = (refl, refl)

-- a sort `as` a number
pub sort_tag : (x : Sort) → tag_of the_type x ≡ sort_number x
sort_tag String = refl
sort_tag Float = refl
sort_tag Boolean = refl
sort_tag Void = refl

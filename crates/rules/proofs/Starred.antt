-- The rows that document 01 marks *, and its worked example: one list, one statement.
-- Assumes nothing.
use mathlib.Core.List.{List, [], ◌∷◌, ◌++◌}
use Prim.Native.Nat.{ℕ}
use Prim.Native.String.{String}
use Rattle.rules.proofs.Agreement.{reads_reading}
use Rattle.rules.proofs.Computes.{computes}
use Rattle.rules.proofs.LineAgreement.{prints_printed}
use Rattle.rules.specs.Basics.{bytes}
use Rattle.rules.specs.Line.{Prints}
use Rattle.table.specs.declared.answers.Question.TheVariants.{MayReplace}
use Rattle.rules.specs.Replies.{Reads, refused}
use mathlib.Core.Path.{◌≡◌, refl}
use Rattle.rules.specs.Refusals.{number}
use Rattle.table.specs.declared.answers.RefusalKind.{RefusalKind}
use Rattle.table.specs.declared.answers.RefusalKind.TheVariants as kind

pub data Row : Type 0 where
  -- new, old, and the line
  compared : String → String → String → Row
  -- a text, and its refusal's number and place
  read : String → ℕ → ℕ → Row

-- a text's row says what the declared reading replies, and a line's row what the declared verdict prints
abbrev pub Holds : Row → Type 0
Holds (compared new old line) = Prints MayReplace (bytes new ++ (0 ∷ bytes old)) (bytes line)
Holds (read text n p) = (k : RefusalKind) × (number k ≡ n) × Reads (bytes text) (refused k p)

abbrev pub AllHold : List Row → Type 0
AllHold [] = Unit {0}
AllHold (r ∷ rs) = Holds r × AllHold rs

abbrev pub R : String
R = "R = +{sum: ![string]; &{ok: ?(float); R | bad: R} | stop: end} ."

abbrev pub N : String
N = "N = +{sum: ![string]; &{ok: ?(float); N | late: N} | stop: end} ."

abbrev pub M : String
M = "M = +{sum: ![string]; &{ok: ?(float); M} | stop: end | reset: M} ."

abbrev pub P : String
P = "P = ![+{a: end}]; end ."

abbrev pub Q : String
Q = "Q = ![+{a: end | b: end}]; end ."

pub starred : List Row
starred =
    compared R R "yes 5\n"
    ∷ compared N R "no 23 1 2 2 0 0 4\n"
    ∷ compared M R "yes 5\n"
    ∷ compared R M "no 23 2 0 0 0\n"
    ∷ compared P Q "yes 4\n"
    ∷ compared Q P "no 23 1 1 1 1 0\n"
    ∷ compared "A = end ." "B = ?(); end ." "no 20 0 0 0 0\n"
    ∷ compared "A = ?(); end ." "B = ?(void); end ." "no 21 0 0 0 0\n"
    ∷ compared "A = ?(string); A ." "B = ?(string); ?(string); B ." "yes 2\n"
    ∷ read "" 2 0
    ∷ read "A = A ." 9 0
    ∷ read "A = B ." 8 4
    ∷ []

pub starred_hold : AllHold starred
unfolding computes starred
starred_hold =
    (prints_printed _ _, (prints_printed _ _, (prints_printed _ _, (prints_printed _ _, (prints_printed _ _, (prints_printed _ _, (prints_printed _ _, (prints_printed _ _, (prints_printed _ _, ((kind.Unexpected, refl, reads_reading _), ((kind.LeadsRound, refl, reads_reading _), ((kind.NeverDefined, refl, reads_reading _), tt))))))))))))

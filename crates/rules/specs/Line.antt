-- Document 01, "The printed verdict"; the same line is printed where compatible is asked.
-- Assumes nothing.
use Rattle.std.specs.Prelude.{true, false, List, [], ◌∷◌, ◌++◌, ◌≡◌, ℕ, zero, suc, ◌+◌, ◌/◌, ◌%◌, eqb, ltb, take, Ok}
use Rattle.rules.specs.Basics.{bytes}
use Rattle.rules.specs.Dual.{dual}
use Rattle.rules.specs.Refusals.{number}
use Rattle.rules.specs.Replies.{Reads, Areas, Replaces, refused, made}
use Rattle.table.specs.declared.Table.{Table}
use Rattle.table.specs.declared.answers.RefusalKind.{RefusalKind}
use Rattle.table.specs.declared.answers.Question.{Question}
use Rattle.table.specs.declared.answers.Question.TheVariants.{MayReplace, IsCompatible}
use Rattle.table.specs.declared.answers.Found.{Found}
use Rattle.table.specs.declared.answers.Verdict.TheVariants as verdict

-- "reads the new text, one byte 0, the old text"; "Without a byte 0 the second text is empty; further zero bytes belong to the second."
unfoldable pub first_text : List ℕ → List ℕ
first_text [] = []
first_text (b ∷ s) = elim (eqb b 0) [ true ↦ [] | false ↦ b ∷ first_text s ]

unfoldable pub second_text : List ℕ → List ℕ
second_text [] = []
second_text (b ∷ s) = elim (eqb b 0) [ true ↦ s | false ↦ second_text s ]

-- a number in decimal, at most n digits of it
unfoldable pub digits : ℕ → ℕ → List ℕ
digits zero k = []
digits (suc n) k = elim (ltb k 10) [ true ↦ (48 + k) ∷ [] | false ↦ digits n (k / 10) ++ ((48 + k % 10) ∷ []) ]

-- "Fields are parted by one space"
unfoldable pub field : ℕ → List ℕ
field k = bytes " " ++ digits (suc k) k

unfoldable pub fields : List ℕ → List ℕ
fields [] = []
fields (k ∷ ks) = field k ++ fields ks

-- "and a line feed ends the line"
abbrev pub line : List ℕ → List ℕ → List ℕ
line w ks = w ++ fields ks ++ bytes "\n"

-- "`yes` and the mark count"
abbrev pub yes_line : ℕ → List ℕ
yes_line count = line (bytes "yes") (count ∷ [])

-- "or `no`, reason, detail, new node, old node, turn, then the steps"
abbrev pub no_line : Found → List ℕ → List ℕ
no_line f steps = line (bytes "no") (f.reason ∷ f.detail ∷ f.new ∷ f.old ∷ f.turn ∷ steps)

-- "or `refused`, number, text (1 or 2), place"
abbrev pub refused_line : ℕ → ℕ → ℕ → List ℕ
refused_line number which place = line (bytes "refused") (number ∷ which ∷ place ∷ [])

-- the table that new is held against, from that of the second text: "New is compatible with other if new may replace the dual of other."
abbrev pub against : Question → Table → Table
against MayReplace old = old
against IsCompatible other = dual other

module _ (q : Question) (new_text old_text : List ℕ) (before after : Areas) where
  -- The line for two texts, with what the areas that are lent for the verdict hold before and after it: "The first text's refusal goes
  -- first." A table goes with its text as its name bytes.
  pub data Answers : List ℕ → Type 0 where
    first_refused :
        {k : RefusalKind} {p : ℕ} → Reads new_text (refused k p) → after ≡ before → Answers (refused_line (number k) 1 p)
    second_refused :
        {new : Table} {k : RefusalKind} {p : ℕ} → Reads new_text (made new) → Reads old_text (refused k p) → after ≡ before
        → Answers (refused_line (number k) 2 p)
    yes :
        {new old : Table} {count : ℕ} → Reads new_text (made new) → Reads old_text (made old)
        → Replaces new new_text (against q old) old_text before after (Ok (verdict.Yes count)) → Answers (yes_line count)
    no :
        {new old : Table} {found : Found} → Reads new_text (made new) → Reads old_text (made old)
        → Replaces new new_text (against q old) old_text before after (Ok (verdict.No found))
        → Answers (no_line found (take found.steps after.path))

-- The line printed for an input, whatever areas the program lends for the verdict.
pub record Prints (q : Question) (input l : List ℕ) : Type 0 where
  pub before : Areas
  pub after : Areas
  pub answers : Answers q (first_text input) (second_text input) before after l

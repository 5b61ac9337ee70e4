-- Two wrong answers for each promise but a verdict's, and that the promise rules them out (a verdict's are in Hollow). On the way, the
-- declared reading of the empty text.
-- Assumes nothing.
use mathlib.Core.Bool.{true, false≢true}
use mathlib.Core.List.{List, [], ◌∷◌, ◌++◌}
use mathlib.Core.Option.{Option, some}
use mathlib.Core.Path.{◌≡◌, refl, sym, ap, ◌∙◌}
use Prim.Native.Nat.{ℕ}
use Prim.Native.String.{String}
use native.Mathlib.Omega.{arith}
use lib.ListN.{take}
use Rattle.rules.proofs.Agreement.{reads_reading}
use Rattle.rules.proofs.Computes.{computes}
use Rattle.rules.proofs.Examples.{A}
use Rattle.rules.proofs.Hollow.{table}
use Rattle.rules.proofs.LineAgreement.{no_areas}
use Rattle.rules.proofs.OneLine.{one_line}
use Rattle.rules.proofs.OneReading.{one_reading}
use Rattle.rules.proofs.Replies.{made_not_refused, refused_one}
use Rattle.rules.proofs.Starred.{R}
use Rattle.rules.specs.Basics.{bytes}
use Rattle.rules.specs.Formed.{well_formed}
use Rattle.rules.specs.Line.{Answers, Prints, first_refused, second_refused, yes, no, line, fields}
use Rattle.table.specs.declared.answers.Question.{Question}
use Rattle.rules.specs.Replies.{Reads, made, refused, dual_reply, Areas, AsksCompatible, no_dual, then_verdict}
use Rattle.rules.specs.Tables.{blank_table, node_at, item_at}
use Rattle.table.specs.declared.Item.TheVariants.{Session}
use Rattle.table.specs.declared.Table.{Table}
use Rattle.table.specs.declared.answers.Made.{Made}
use Rattle.rules.specs.Replies.{Answer}
use Rattle.rules.specs.Refusals.{number}
use Rattle.table.specs.declared.answers.RefusalKind.{RefusalKind}
use Rattle.table.specs.declared.answers.RefusalKind.TheVariants as kind

-- Reading. The empty text is refused with 2 at 0 ..
pub reads_empty : Reads [] (refused kind.Unexpected 0)
unfolding computes
reads_empty = reads_reading []

-- .. so that a program that accepts it is wrong;
pub empty_accepted : (t : Table) → Reads [] (made t) → ⊥
empty_accepted t r = made_not_refused (one_reading r reads_empty)

-- and so is one that calls the name of `A = A .` undefined, where it leads round.
abbrev pub own_name : String
own_name = "A = A ."

own_name_round : Reads (bytes own_name) (refused kind.LeadsRound 0)
unfolding computes
own_name_round = reads_reading (bytes own_name)

pub own_name-undefined : (p : ℕ) → Reads (bytes own_name) (refused kind.NeverDefined p) → ⊥
own_name-undefined p r = omega (arith, ap number (refused_one (one_reading r own_name_round)).0)

-- Well formed: a table with no node is not, nor is one whose name bytes end before its labels do.
pub no-node_formed : well_formed blank_table [] ≡ true → ⊥
unfolding computes
no-node_formed e = false≢true e

pub names_short_formed : well_formed (table R) (bytes "R = +{sum") ≡ true → ⊥
unfolding computes
names_short_formed e = false≢true e

-- The dual of A: its session item is not turned with the rest, and 2 nodes are not too many.
pub item_turned : item_at (node_at (dual_reply (table A) (bytes A)).table 0) 0 ≡ Session 0 → ⊥
unfolding computes
item_turned e = let z : ◌≡◌ {A = ℕ} 2 0 = cc in omega arith

pub dual-refused : (k : RefusalKind) (p : ℕ) → dual_reply (table A) (bytes A) ≡ refused k p → ⊥
unfolding computes
dual-refused k p e = made_not_refused e

-- Compatible: the verdict is not asked of the other table itself, nor where the dual was refused.
pub not_the_dual : (before after : Areas) (v : Option Answer) → AsksCompatible (table A) (bytes A) (table A) (bytes A) before after (made (table A)) v → ⊥
unfolding computes
not_the_dual before after v r = by_reply r refl
  where
    by_reply : {m : Made} {w : Option Answer} → AsksCompatible (table A) (bytes A) (table A) (bytes A) before after m w → m ≡ made (table A) → ⊥
    by_reply (no_dual e q) d = made_not_refused (sym d)
    by_reply (then_verdict e X) d = let z : ◌≡◌ {A = ℕ} 4 2 = ap (λ (m : Made). m.table.count) (e ∙ d) in omega arith

pub asked_all_the_same : (before after : Areas) (m : Made) (v : Answer) → AsksCompatible (table A) (bytes A) blank_table [] before after m (some v) → ⊥
unfolding computes
asked_all_the_same before after m v (then_verdict e X) = made_not_refused (sym e)

-- The printed line: of two refused texts the first is named; and a line feed is last in every line.
pub first_named : {q : Question} {l : List ℕ} → Prints q (0 ∷ []) l → l ≡ bytes "refused 2 1 0\n"
unfolding computes
first_named {q} r = one_line r (record { before = no_areas; after = no_areas; answers = first_refused reads_empty refl })

fed : (w ks : List ℕ) → (k : List ℕ) × (line w ks ≡ k ++ bytes "\n")
fed w ks = (w ++ fields ks, refl)

pub line_feed_last : {q : Question} {new old : List ℕ} {before after : Areas} {l : List ℕ} → Answers q new old before after l → (k : List ℕ) × (l ≡ k ++ bytes "\n")
line_feed_last (first_refused {k} {p} a e) = fed (bytes "refused") (number k ∷ 1 ∷ p ∷ [])
line_feed_last (second_refused {k = k} {p = p} a b e) = fed (bytes "refused") (number k ∷ 2 ∷ p ∷ [])
line_feed_last (yes {count = c} a b d) = fed (bytes "yes") (c ∷ [])
line_feed_last {after = r} (no {found = f} a b d) =
    fed (bytes "no") (f.reason ∷ f.detail ∷ f.new ∷ f.old ∷ f.turn ∷ take f.steps r.path)

-- Areas that are long enough for the largest tables of texts are long enough for any, so that in them a line is always written: for 64 and
-- 64 nodes, or for 64 and 128 where the second table is a dual.
-- Assumes nothing.
use mathlib.Core.List.{List}
use mathlib.Core.Path.{refl}
use Prim.Native.Nat.{ℕ, ◌*◌, ◌≤◌}
use native.Mathlib.Nat.{mul-le-mul}
use native.Mathlib.Omega.{arith}
use Rattle.rules.proofs.OneWritten.{not_short}
use Rattle.rules.proofs.ReadTables.{read_few}
use Rattle.rules.proofs.TextDual.{blank-against, against_few}
use Rattle.rules.specs.Numbers.{text_nodes_most, table_nodes_most}
use Rattle.rules.specs.Pairs.{turns_most}
use Rattle.rules.specs.Replies.{Reads, accepts, refuses}
use Rattle.rules.specs.Line.{against, first_text, second_text}
use Rattle.table.specs.declared.answers.Question.{Question}
use Rattle.table.specs.declared.answers.Question.TheVariants.{MayReplace, IsCompatible}
use Rattle.rules.specs.Writing.{LineAreas, Counts, Lengths, lengths, AllLong, WritesLine, refuses as refuses_area, writes, PrintsInto}
use Rattle.table.specs.declared.answers.Made.{Made}
use Rattle.std.specs.Prelude.{Ok, Err}
use Rattle.table.specs.declared.answers.Refusal.{Refusal}

-- the most nodes that the second table can have
abbrev pub against_most : Question → ℕ
against_most MayReplace = text_nodes_most
against_most IsCompatible = table_nodes_most

new_few : {s : List ℕ} {m : Made} → Reads s m → m.table.count ≤ text_nodes_most
new_few (accepts w f) = read_few (accepts w f)
new_few (refuses f g) = omega arith

old_few : {s : List ℕ} {m : Made} (q : Question) → Reads s m → (against q m.table).count ≤ against_most q
old_few MayReplace r = new_few r
old_few IsCompatible (accepts w f) = against_few (accepts w f) IsCompatible
old_few IsCompatible (refuses f g) = omega (arith, blank-against IsCompatible)

-- so many nodes there are at most
pub counts_few :
    {q : Question} {new_text old_text : List ℕ} {n m : ℕ} → Counts q new_text old_text n m → (n ≤ text_nodes_most) × (m ≤ against_most q)
counts_few {q} C = (rw C.new_count (new_few C.first_read), rw C.old_count (old_few q C.second_read))

-- fewer nodes have fewer pairs, whatever stands for each
pub fewer_pairs : {n m n' m' : ℕ} (k : ℕ) → n' ≤ n → m' ≤ m → k * n' * m' ≤ k * n * m
fewer_pairs {n} {n'} k a b = let l : k * n' ≤ k * n = mul-le-mul (omega arith) a in mul-le-mul l b

-- areas for so many nodes are long enough for fewer
pub fewer_long : {n m n' m' : ℕ} {k : Lengths} → n' ≤ n → m' ≤ m → AllLong n m k → AllLong n' m' k
fewer_long a b L =
    record {
      marks_long = omega (arith, fewer_pairs turns_most a b, L.marks_long);
      path_long = omega (arith, fewer_pairs turns_most a b, L.path_long);
      scratch_long = omega (arith, fewer_pairs 4 a b, L.scratch_long);
      line_long = omega (arith, fewer_pairs 6 a b, L.line_long);
    }

module _ {q : Question} {new_text old_text : List ℕ} {before after : LineAreas} where
  -- no area is refused
  pub own_enough :
      {r : Refusal} → AllLong text_nodes_most (against_most q) (lengths before) → WritesLine q new_text old_text before after (Err r) → ⊥
  own_enough L (refuses_area C s e) =
      let few = counts_few C in
      not_short (fewer_long few.0 few.1 L) s

pub printed_into :
    {q : Question} (input : List ℕ) {before after : LineAreas} {r : ℕ}
    → WritesLine q (first_text input) (second_text input) before after (Ok r) → PrintsInto q input before.line after.line r
printed_into input {before} {after} (writes {l = l} C L A e) =
    record { printed = l; prints = record { before = before.lent; after = after.lent; answers = A }; long = refl; holds = e }

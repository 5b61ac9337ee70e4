-- In areas for the largest texts a line is always written, and it is the printed one of the input.
-- Assumes nothing.
use Rattle.std.proofs.Common.{List, ℕ, Result, Ok, Err, arith}
use Rattle.rules.specs.Numbers.{text_nodes_most, table_nodes_most}
use Rattle.rules.specs.Line.{first_text, second_text}
use Rattle.rules.specs.Writing.{LineAreas, Lengths, lengths, AllLong, WritesLine, PrintsInto}
use Rattle.rules.proofs.OwnAreas.{against_most, fewer_long, own_enough, printed_into}
use Rattle.table.specs.declared.answers.Question.{Question}
use Rattle.table.specs.declared.answers.Question.TheVariants.{MayReplace, IsCompatible}
use Rattle.table.specs.declared.answers.Refusal.{Refusal}
use Rattle.printer.specs.Lengths.{LengthOf}

-- what is enough for a dual is enough for a text
enough : {k : Lengths} (q : Question) → AllLong text_nodes_most table_nodes_most k → AllLong text_nodes_most (against_most q) k
enough IsCompatible L = L
enough MayReplace L = fewer_long (omega arith) (omega arith) L

pub prints_into :
    {q : Question} (input : List ℕ) {before after : LineAreas} {r : ℕ} (w : Result ℕ Refusal)
    → WritesLine q (first_text input) (second_text input) before after w → AllLong text_nodes_most table_nodes_most (lengths before)
    → LengthOf w r → PrintsInto q input before.line after.line r
prints_into input (Ok n) W L e = rw e (printed_into input W)
prints_into {q} input (Err f) W L e = absurd (own_enough (enough q L) W)

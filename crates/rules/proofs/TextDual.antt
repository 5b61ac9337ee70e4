-- Of a text's table there is always a dual, and it is well formed with the text: neither 10 nor 13 can occur.
-- Assumes nothing.
use mathlib.Core.Bool.{Bool, true, false}
use mathlib.Core.List.{List}
use mathlib.Core.Path.{◌≡◌, refl, ◌∙◌}
use Prim.Native.Nat.{ℕ, ◌≤◌, ◌+◌}
use native.Mathlib.Omega.{arith}
use Rattle.rules.proofs.DualFormed.{dual_formed}
use Rattle.rules.proofs.Means.{dual_given}
use Rattle.rules.proofs.ReadTables.{read_formed, read_few}
use Rattle.rules.proofs.Remade.{dual_size}
use Rattle.rules.specs.Numbers.{table_nodes_most}
use Rattle.rules.specs.Tables.{blank_table}
use Rattle.rules.specs.Dual.{dual, dual_count, hands_over}
use Rattle.rules.specs.Formed.{well_formed}
use Rattle.rules.specs.Line.{against}
use Rattle.table.specs.declared.answers.Question.{Question}
use Rattle.table.specs.declared.answers.Question.TheVariants.{MayReplace, IsCompatible}
use Rattle.rules.specs.Replies.{Reads, made, dual_reply}
use Rattle.table.specs.declared.Table.{Table}

twice_most : (b : Bool) (n : ℕ) → dual_count b n ≤ n + n
twice_most true n = omega arith
twice_most false n = omega arith

-- beside a refusal there are no nodes, turned round or not
pub blank-against : (q : Question) → (against q blank_table).count ≡ 0
blank-against MayReplace = refl
blank-against IsCompatible = dual_size blank_table refl ∙ none (hands_over blank_table)
  where
    none : (b : Bool) → dual_count b 0 ≡ 0
    none true = refl
    none false = refl

module _ {s : List ℕ} {t : Table} (r : Reads s (made t)) where
  count_few : dual_count (hands_over t) t.count ≤ table_nodes_most
  count_few = omega (arith, twice_most (hands_over t) t.count, read_few r)

  pub text_dual_given : dual_reply t s ≡ made (dual t)
  text_dual_given = dual_given t s (read_formed r) count_few

  -- what new is held against has at most 128 nodes, and is well formed
  pub against_few : (q : Question) → (against q t).count ≤ table_nodes_most
  against_few MayReplace = omega (arith, read_few r)
  against_few IsCompatible = rw (dual_size t refl) count_few

  pub against_formed : (q : Question) → well_formed (against q t) s ≡ true
  against_formed MayReplace = read_formed r
  against_formed IsCompatible = dual_formed t s (read_formed r) (against_few IsCompatible)

-- What fitting tells of the nodes: both are there, also in the arrays.
-- Assumes nothing.
use borrow.Author.Tests.{ltb-true}
use mathlib.Core.Bool.{true}
use mathlib.Core.List.{List}
use mathlib.Core.Path.{◌≡◌}
use mathlib.Mathlib.Data.Bool.Basic.{and_elim_left, and_elim_right}
use Prim.Native.Nat.{ℕ, ◌<◌, ◌≤◌}
use native.Mathlib.Omega.{arith}
use Rattle.rules.specs.Numbers.{table_nodes_most}
use Rattle.rules.specs.Formed.{well_formed}
use Rattle.rules.specs.Replies.{found_fits}
use Rattle.rules.proofs.Formed.{formed}
use Rattle.table.specs.declared.Table.{Table}
use Rattle.table.specs.declared.answers.Found.{Found}

-- a well-formed table has at most as many nodes as its array
pub few_nodes : (t : Table) (names : List ℕ) → well_formed t names ≡ true → t.count ≤ table_nodes_most
few_nodes t names e = (formed {t = t} {names = names} e).few_nodes

module _ (new : Table) (new_names : List ℕ) (old : Table) (old_names : List ℕ) (f : Found) where
  pub nodes_there : found_fits new new_names old old_names f ≡ true → (f.new < table_nodes_most) × (f.old < table_nodes_most)
  unfolding found_fits
  nodes_there e =
      let new_there : f.new < new.count = ltb-true _ _ (search (and_elim_left, and_elim_right)) in
      let old_there : f.old < old.count = ltb-true _ _ (search (and_elim_left, and_elim_right)) in
      let new_few = few_nodes new new_names (search (and_elim_left, and_elim_right) depth 9) in
      let old_few = few_nodes old old_names (search (and_elim_left, and_elim_right) depth 9) in
      (omega arith, omega arith)

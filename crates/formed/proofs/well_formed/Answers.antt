-- `formed::well_formed` meets its contract: `all` asks it of each node.
-- Assumes nothing.
use mathlib.Core.List.{List}
use mathlib.Core.Path.{◌≡◌, refl, ◌∙◌}
use Prim.Native.Nat.{ℕ, ◌≤◌}
use lib.ListN.{length, take, length-take}
use lib.Seq.{get_or-take}
use Rattle.std.proofs.Common.{rules, arith}
use Rattle.std.proofs.lemmas.Grind.{common_steps}
use Rattle.std.proofs.lemmas.Iterator.{YieldsList-from_slice}
use Rattle.std.proofs.lemmas.Iterator.Search.{all_from_yields_List}
use Rattle.rules.specs.Basics.{every}
use Rattle.rules.specs.Tables.{node_at, no_node}
use Rattle.rules.specs.Formed.{node_formed, well_formed}
use Rattle.table.specs.declared.Node.{Node}
use Rattle.table.specs.declared.Table.{Table}
use Rattle.words.proofs.Every.{list_all_every}
use Rattle.formed.proofs.well_formed.Goals as goal

pub returns-then-t-n : goal.returns-then-t-n
unfolding well_formed
returns-then-t-n c =
    let t : Table = c.args.t in
    let names : List ℕ = c.args.names.now in
    let few : t.count ≤ 128 = grind (arith, common_steps) in
    let nodes : List Node = take t.count t.nodes in
    let e : c.all.result ≡ every t.count (λ i. node_formed t.count names (node_at t i)) =
    all_from_yields_List (node_formed t.count names) _ _ _ c.all.ensures.ran (YieldsList-from_slice nodes cc) (λ x b q k. search rules)
    ∙ list_all_every (node_formed t.count names) nodes no_node t.count (λ i. node_formed t.count names (node_at t i)) (let h : length nodes ≡ t.count = simp length-take (omega arith) in h) (λ i l. rw (get_or-take t.count t.nodes i no_node l) refl) in
    grind (arith, common_steps)

pub returns-else-t-n : goal.returns-else-t-n
unfolding well_formed
returns-else-t-n c = grind (arith, common_steps)

-- Equal up to unused room is an equivalence, for any counts whatever; and labels that count are spelled alike.
-- Assumes nothing.
use mathlib.Core.List.{List}
use mathlib.Core.Path.{◌≡◌, refl, sym, ap, ◌∙◌}
use Prim.Native.Nat.{ℕ, ◌<◌}
use native.Mathlib.Omega.{arith}
use Rattle.rules.specs.Tables.{SameNode, SameTable, node_at, label_count, spelling, spelling_at}
use Rattle.table.specs.declared.Node.{Node}
use Rattle.table.specs.declared.Table.{Table}

pub same_node_refl : (x : Node) → SameNode x x
same_node_refl x =
    record { kind = refl; items = refl; each_item = λ i l. refl; labels = refl; each_label = λ i l. refl; goes_on = refl }

pub same_node_sym : {x y : Node} → SameNode x y → SameNode y x
same_node_sym S =
    record {
      kind = sym S.kind;
      items = sym S.items;
      each_item = λ i l. sym (S.each_item i (omega (arith, S.items)));
      labels = sym S.labels;
      each_label = λ i l. sym (S.each_label i (omega (arith, S.labels)));
      goes_on = sym S.goes_on;
    }

pub same_node_trans : {x y z : Node} → SameNode x y → SameNode y z → SameNode x z
same_node_trans S T =
    record {
      kind = S.kind ∙ T.kind;
      items = S.items ∙ T.items;
      each_item = λ i l. S.each_item i l ∙ T.each_item i (omega (arith, S.items));
      labels = S.labels ∙ T.labels;
      each_label = λ i l. S.each_label i l ∙ T.each_label i (omega (arith, S.labels));
      goes_on = S.goes_on ∙ T.goes_on;
    }

pub same_node_spelling : {x y : Node} (names : List ℕ) → SameNode x y → (i : ℕ) → i < label_count x → spelling_at x names i ≡ spelling_at y names i
same_node_spelling names S i l = ap (spelling names) (S.each_label i l)

pub same_table_refl : (t : Table) → SameTable t t
same_table_refl t = record { count = refl; start = refl; each = λ i l. same_node_refl (node_at t i) }

pub same_table_sym : {t u : Table} → SameTable t u → SameTable u t
same_table_sym S =
    record { count = sym S.count; start = sym S.start; each = λ i l. same_node_sym (S.each i (omega (arith, S.count))) }

pub same_table_trans : {t u v : Table} → SameTable t u → SameTable u v → SameTable t v
same_table_trans S T =
    record {
      count = S.count ∙ T.count;
      start = S.start ∙ T.start;
      each = λ i l. same_node_trans (S.each i l) (T.each i (omega (arith, S.count)));
    }

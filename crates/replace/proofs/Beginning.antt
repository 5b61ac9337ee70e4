-- What is known of an entry's two nodes before its steps are taken.
-- Assumes nothing.
use mathlib.Core.List.{List}
use mathlib.Core.Path.{◌≡◌, refl}
use Prim.Native.Nat.{ℕ, zero, suc}
use native.Mathlib.Omega.{arith}
use Rattle.std.specs.Prelude.{None}
use Rattle.rules.specs.Pairs.{left_in, right_in, mismatch_of}
use Rattle.rules.proofs.Formed.{FormedNode}
use Rattle.rules.proofs.Steps.{nodes_land}
use Rattle.pairs.specs.Beside.{Listed, ChooserPlaced}
use Rattle.table.specs.declared.Node.{Node}
use Rattle.replace.specs.Taking.{Leading, Formed}
use Rattle.replace.specs.declared.entry.Side.{Side}
use Rattle.replace.specs.declared.entry.Entry.{Entry}

pub formed_listed : {n : ℕ} {names : List ℕ} {x : Node} → FormedNode n names x → Listed names x
formed_listed f =
    record { few_items = f.message.few_items; few_labels = f.choice.few_labels; once = f.choice.label_once }

-- nothing is wrong with the two nodes
pub pair_leading :
    {e : Entry} {x y : Side} {places : List ℕ} → Formed e x y → mismatch_of x.node.now x.names.now y.node.now y.names.now ≡ None
    → ChooserPlaced x.node.now.kind x.node.now x.names.now y.node.now y.names.now places → Leading e x.node.now y.node.now places
pair_leading {e} {x} {y} F fits placed =
    record {
      left_names = x.names.now;
      right_names = y.names.now;
      left_listed = formed_listed F.left;
      right_listed = formed_listed F.right;
      placed = placed;
      lands = λ s q d. (nodes_land e.turn_below F.left F.right fits s q d).0;
    }

-- in turn 0 the new table's node is the left one, in turn 1 the old one's
module _ {A : Type 0} (a b : A) where
  pub straight : (u : ℕ) → u ≡ 0 → (left_in u a b ≡ a) × (right_in u a b ≡ b)
  straight zero e = (refl, refl)
  straight (suc u) e = absurd (omega arith)

  pub turned : (u : ℕ) → (u ≡ 0 → ⊥) → (left_in u a b ≡ b) × (right_in u a b ≡ a)
  turned zero e = absurd (e refl)
  turned (suc u) e = (refl, refl)

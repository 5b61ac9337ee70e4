-- What is made of a node and of a table, as the functions make it; and that the nodes of a well formed table fit.
-- Assumes nothing.
use borrow.Author.Tests.{lt-ltb, le-ltb}
use mathlib.Core.Bool.{Bool, true, false}
use mathlib.Core.List.{List, append-nil}
use mathlib.Core.Path.{◌≡◌, refl, sym, ap, ◌∙◌}
use Prim.Native.Nat.{ℕ, ◌+◌, ◌-◌, ◌<◌, ◌≤◌}
use native.Mathlib.Nat.{add-sub_cancel_left}
use native.Mathlib.Omega.{arith}
use lib.Dec.{ltb}
use Rattle.rules.specs.Basics.{listed, fill}
use Rattle.rules.specs.Numbers.{table_nodes_most}
use Rattle.rules.specs.Tables.{blank_node, node_at}
use Rattle.rules.specs.Formed.{well_formed}
use Rattle.rules.specs.Dual.{hands_over, turned_node, original_node, dual_nodes, dual_count, dual}
use Rattle.rules.specs.Replies.{refused, dual_reply}
use Rattle.rules.proofs.Filling.{listed_equal, listed-append}
use Rattle.rules.proofs.Formed.{formed}
use Rattle.rules.proofs.Means.{dual_large, dual_given}
use Rattle.dual.specs.Making.{NodesFit}
use Rattle.table.specs.declared.Node.{Node}
use Rattle.table.specs.declared.Table.{Table}
use Rattle.std.specs.Prelude.{Ok}
use Rattle.table.specs.declared.answers.RefusalKind.TheVariants as kind
use Rattle.table.specs.declared.answers.Made.{Made}

-- the nodes of a dual with its originals, by their numbers
module _ (t : Table) where
  abbrev turned : ℕ → Node
  turned i = turned_node t.count (node_at t i)

  abbrev original : ℕ → Node
  original i = original_node t.count (node_at t i)

  unfoldable pub node_of_both : ℕ → Node
  node_of_both i = elim (ltb i t.count) [ true ↦ turned i | false ↦ original (i - t.count) ]

  in_first : (i : ℕ) → i < t.count → node_of_both i ≡ turned i
  unfolding node_of_both
  in_first i l = rw (node_of_both, lt-ltb i t.count l) refl

  in_second : (i : ℕ) → node_of_both (t.count + i) ≡ original i
  unfolding node_of_both
  in_second i = rw (node_of_both, le-ltb (t.count + i) t.count (omega arith), add-sub_cancel_left t.count i) refl

  -- they are the nodes of the dual, with the originals and without
  pub nodes_there : (b : Bool) {n : ℕ} → n ≡ dual_count b t.count → fill table_nodes_most blank_node (listed n node_of_both) ≡ dual_nodes b t
  nodes_there true e =
      ap (fill table_nodes_most blank_node)
      (ap (λ (n : ℕ). listed n node_of_both) e
      ∙ sym (listed-append t.count t.count turned original node_of_both in_first (λ i l. in_second i)))
  nodes_there false e =
      ap (fill table_nodes_most blank_node)
      (listed_equal _ t.count node_of_both turned e (λ i l. in_first i (omega (arith, e))) ∙ sym (append-nil (listed t.count turned)))

-- a well formed table
module _ (t : Table) (names : List ℕ) (f : well_formed t names ≡ true) where
  pub formed_fit : NodesFit t
  formed_fit =
      let w = formed f in
      record {
        few = w.few_nodes;
        each =
            λ i l.
            let x = w.each i l in
            record {
              items =
                  record {
                    few = x.message.few_items;
                    each = λ j m k e. omega (arith, w.few_nodes, x.message.item_links j k m e);
                  };
              labels =
                  record {
                    few = x.choice.few_labels;
                    each = λ j m. omega (arith, w.few_nodes, x.choice.label_links j m);
                  };
              goes_on = omega (arith, w.few_nodes, x.message.goes_on);
            };
      }

  -- what is answered, from what was found of the table
  pub dual_refusal :
      {b : Bool} {n : ℕ} {r : Made} → b ≡ hands_over t → n ≡ dual_count b t.count → table_nodes_most < n
      → r ≡ refused kind.DualTooLarge t.count → r ≡ dual_reply t names
  dual_refusal e q l p =
      let many : table_nodes_most < dual_count (hands_over t) t.count = rw (← e, ← q) l in p ∙ sym (dual_large t names f many)

  pub dual_answer :
      {b : Bool} {ns : List Node} {n : ℕ} → b ≡ hands_over t → ns ≡ dual_nodes b t → n ≡ dual_count b t.count → n ≤ table_nodes_most
      → record { table = record { nodes = ns; count = n; start = t.start }; answer = Ok tt } ≡ dual_reply t names
  unfolding dual
  dual_answer {b} e p q l =
      let few : dual_count (hands_over t) t.count ≤ table_nodes_most = rw (← e, ← q) l in
      rw (p, q, e) (sym (dual_given t names f few))

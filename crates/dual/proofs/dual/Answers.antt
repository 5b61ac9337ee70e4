-- `dual::dual` meets its contract: 10, then 13, then the dual.
-- Assumes nothing.
use mathlib.Core.Path.{sym, ap, ◌∙◌}
use Prim.Native.Nat.{ℕ}
use native.Mathlib.Omega.{arith}
use Rattle.rules.specs.Replies.{refused}
use Rattle.table.specs.declared.answers.RefusalKind.TheVariants as kind
use Rattle.rules.proofs.Means.{dual_not_formed}
use Rattle.dual.proofs.Nodes.{formed_fit, dual_refusal, dual_answer}
use Rattle.dual.proofs.dual.Goals as goal

pub returns-then-not-well_formed : goal.returns-then-not-well_formed
returns-then-not-well_formed c =
    c.refused.ensures ∙ sym (dual_not_formed _ _ (sym c.well_formed-2.ensures ∙ c.if-not-well_formed.true))

pub hands_over-both-requires : goal.hands_over-both-requires
hands_over-both-requires c = (formed_fit _ _ (sym c.well_formed-2.ensures ∙ c.if-not-well_formed.false)).few

pub returns-then-count-gt-NODES_MOST : goal.returns-then-count-gt-NODES_MOST
returns-then-count-gt-NODES_MOST c =
    dual_refusal _ _
    (sym c.well_formed-2.ensures ∙ c.if-not-well_formed.false)
    c.hands_over-both.ensures c.dual_count-count.ensures (omega arith)
    (c.refused-then-count-gt-NODES_MOST.ensures ∙ ap (λ (n : ℕ). refused kind.DualTooLarge n) c.from-n.ensures)

pub dual_nodes-requires : goal.dual_nodes-requires
dual_nodes-requires c = (
  formed_fit _ _ (sym c.well_formed-2.ensures ∙ c.if-not-well_formed.false),
  omega (arith, c.dual_count-count.ensures),
)

pub returns : goal.returns
returns c =
    dual_answer _ _
    (sym c.well_formed-2.ensures ∙ c.if-not-well_formed.false)
    c.hands_over-both.ensures c.dual_nodes.ensures c.dual_count-count.ensures (omega arith)

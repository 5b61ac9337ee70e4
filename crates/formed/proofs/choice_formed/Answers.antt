-- `formed::choice_formed` meets its contract: `all` asks it of each label.
-- Assumes nothing.
use mathlib.Core.Bool.{false}
use mathlib.Core.Path.{◌≡◌}
use Rattle.std.proofs.Common.{rules, arith}
use Rattle.std.proofs.lemmas.Grind.{common_steps}
use Rattle.rules.specs.Basics.{every}
use Rattle.rules.specs.Tables.{label_at, label_count}
use Rattle.rules.specs.Formed.{label_formed, label_new, choice_formed}
use Rattle.rules.proofs.FormedTests.{choice_formed-label}
use Rattle.words.proofs.Every.{every_by_all}
use Rattle.formed.proofs.choice_formed.Goals as goal
use Rattle.formed.proofs.choice_formed.Goals.{then-contains, else-contains}

pub returns-then-all : goal.returns-then-all
unfolding choice_formed
returns-then-all c =
    let e : c.all-then-all.result ≡ every c.label_count-count.result (label_new c.args.x.now c.args.names.now) =
    every_by_all _ _ _ _ _ c.all-then-all.ensures.ran (λ x b q k. search rules) in
    elim c.if-contains.branch [
      | then-contains w ↦
          let d : w.all.result ≡ every c.label_count-count.result (λ i. label_formed c.args.n c.args.names.now (label_at c.args.x.now i)) =
          every_by_all _ _ _ _ _ w.all.ensures.ran (λ x b q k. search rules) in
          grind (arith, common_steps)
      | else-contains w ↦ grind (arith, common_steps)
    ]

pub returns-else-all : goal.returns-else-all
unfolding choice_formed
returns-else-all c =
    elim c.if-contains.branch [
      | then-contains w ↦
          let d : w.all.result ≡ every c.label_count-count.result (λ i. label_formed c.args.n c.args.names.now (label_at c.args.x.now i)) =
          every_by_all _ _ _ _ _ w.all.ensures.ran (λ x b q k. search rules) in
          let f : every (label_count c.args.x.now) (λ i. label_formed c.args.n c.args.names.now (label_at c.args.x.now i)) ≡ false = cc in
          let g : choice_formed c.args.n c.args.names.now c.args.x.now ≡ false = choice_formed-label c.args.n c.args.names.now c.args.x.now f in
          cc
      | else-contains w ↦ grind (arith, common_steps)
    ]

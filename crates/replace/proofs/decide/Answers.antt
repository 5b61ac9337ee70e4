-- `replace::decide` meets its contract: the search and the answer to its end, in the areas' first parts.
-- Assumes nothing.
use mathlib.Core.Path.{◌∙◌}
use Rattle.rules.proofs.Formed.{formed}
use Rattle.replace.proofs.States.{sizes_asked}
use Rattle.replace.proofs.Longer.{marks_part, path_part, explore_asks, conclude_asks, replaces_concluded}
use Rattle.replace.proofs.decide.Goals as goal

pub new-sizes-requires : goal.new-sizes-requires
new-sizes-requires c = sizes_asked (formed c.requires.new_formed) (formed c.requires.old_formed)

pub explore-ended-requires : goal.explore-ended-requires
explore-ended-requires c = explore_asks c.requires c.new-sizes.ensures c.pair_count-size.ensures

pub conclude-requires : goal.conclude-requires
conclude-requires c = conclude_asks c.requires c.new-sizes.ensures c.pair_count-size.ensures c.explore-ended.ensures

pub returns : goal.returns
returns c =
    replaces_concluded c.requires c.new-sizes.ensures c.pair_count-size.ensures c.explore-ended.ensures
    (c.conclude.auto.marks ∙ c.explore-ended.auto.marks ∙ marks_part c.requires c.new-sizes.ensures c.pair_count-size.ensures)
    (c.conclude.auto.path ∙ path_part c.requires c.new-sizes.ensures c.pair_count-size.ensures) c.conclude.ensures

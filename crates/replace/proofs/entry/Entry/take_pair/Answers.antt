-- `replace::entry::Entry::take_pair` meets its contract: nothing is written where something is wrong, else every step is taken.
-- Assumes nothing.
use Rattle.replace.proofs.Beginning.{formed_listed, pair_leading}
use Rattle.replace.proofs.entry.Entry.take_pair.Goals as goal

pub compare-requires : goal.compare-requires
compare-requires c = (formed_listed c.requires.1.left, formed_listed c.requires.1.right)

pub expand-requires : goal.expand-requires
expand-requires c = (c.requires.0, pair_leading c.requires.1 c.in_ok-places.ensures.0 c.in_ok-places.ensures.1)

pub returns : goal.returns
returns c = (c.in_ok-places.ensures.0, c.expand.ensures.is _ _ c.in_ok-places.ensures.1)

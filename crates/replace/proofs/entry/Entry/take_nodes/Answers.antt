-- `replace::entry::Entry::take_nodes` meets its contract, in turn 0 and in turn 1.
-- Assumes nothing.
use Rattle.replace.proofs.Beginning.{straight, turned}
use Rattle.replace.proofs.entry.Entry.take_nodes.Goals as goal

pub take_pair-requires : goal.take_pair-requires
take_pair-requires c =
    let s = straight c.args.new c.args.old _ c.if-self-eq0.true in (c.requires.0, rw (s.0, s.1) at c.requires.1)

pub take_pair-requires-else-self-eq0 : goal.take_pair-requires-else-self-eq0
take_pair-requires-else-self-eq0 c =
    let s = turned c.args.new c.args.old _ c.if-self-eq0.false in (c.requires.0, rw (s.0, s.1) at c.requires.1)

pub returns-then-self-eq0 : goal.returns-then-self-eq0
returns-then-self-eq0 c =
    let s = straight c.args.new c.args.old _ c.if-self-eq0.true in rw (s.0, s.1) c.take_pair.ensures

pub returns-else-self-eq0 : goal.returns-else-self-eq0
returns-else-self-eq0 c =
    let s = turned c.args.new c.args.old _ c.if-self-eq0.false in rw (s.0, s.1) c.take_pair-else-self-eq0.ensures

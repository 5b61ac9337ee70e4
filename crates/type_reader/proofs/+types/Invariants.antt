-- The bytes left of the text fall at every call; of two calls at one place the deeper one is later in a fixed order.
-- Assumes nothing.
use Rattle.std.proofs.Common.{◌*◌, ◌+◌, ◌-◌, length}
use Rattle.type_reader.proofs.ItemTurns as items
use Rattle.type_reader.proofs.LabelTurns as labels
use Rattle.type_reader.proofs.+types.Given as goal

abbrev pub decreases-read_choice : goal.decreases-read_choice
decreases-read_choice l = 4 * (length l.s.now - l.t.at)

abbrev pub decreases-read_item : goal.decreases-read_item
decreases-read_item l = 4 * (length l.s.now - l.t.at) + 2

abbrev pub decreases-read_items : goal.decreases-read_items
decreases-read_items l = 4 * (length l.s.now - l.c.at) + 3

abbrev pub decreases-read_label : goal.decreases-read_label
decreases-read_label l = 4 * (length l.s.now - l.t.at) + 2

abbrev pub decreases-read_labels : goal.decreases-read_labels
decreases-read_labels l = 4 * (length l.s.now - l.c.at) + 3

abbrev pub decreases-read_message : goal.decreases-read_message
decreases-read_message l = 4 * (length l.s.now - l.t.at)

abbrev pub decreases-read_type : goal.decreases-read_type
decreases-read_type l = 4 * (length l.s.now - l.t.at) + 1

abbrev pub invariant-read_items-loop-c1 : goal.invariant-read_items-loop-c1
invariant-read_items-loop-c1 l = items.Turning l.s l.initial.areas.nodes l.initial.areas.uses l.areas.nodes l.areas.uses l.closing l.deep l.node l.initial.t l.t l.n

abbrev pub decreases-read_items-loop-c1 : goal.decreases-read_items-loop-c1
decreases-read_items-loop-c1 l = length l.s - l.t.at

abbrev pub invariant-read_labels-loop-c1 : goal.invariant-read_labels-loop-c1
invariant-read_labels-loop-c1 l = labels.Turning l.s l.initial.areas.nodes l.initial.areas.uses l.areas.nodes l.areas.uses l.deep l.node l.initial.from l.from l.n

abbrev pub decreases-read_labels-loop-c1 : goal.decreases-read_labels-loop-c1
decreases-read_labels-loop-c1 l = length l.s - l.from.at

-- `table_maker::Numbers::node_from` meets its contract, by the number that says the kind.
-- Assumes nothing.
use mathlib.Core.Path.{sym, ◌∙◌}
use native.Mathlib.Omega.{arith}
use Rattle.table_maker.proofs.KindNumbers.{end_number, message_number, choice_number, from_end, from_message, from_choice}
use Rattle.table_maker.proofs.Numbers.node_from.Goals as goal

pub message_from-requires : goal.message_from-requires
message_from-requires c =
    let n = message_number c.kind_of.ensures c.in-Receive.is in (omega arith, c.requires.1.message n.0 n.1)

pub choice_from-requires : goal.choice_from-requires
choice_from-requires c = (omega arith, c.requires.1.choice (choice_number c.kind_of.ensures c.in-Branch.is))

pub returns-in-End : goal.returns-in-End
returns-in-End c = sym (from_end _ _ _ _ (end_number c.kind_of.ensures c.in-End.is))

pub returns-in-Receive : goal.returns-in-Receive
returns-in-Receive c =
    let n = message_number c.kind_of.ensures c.in-Receive.is in
    c.message_from.ensures ∙ sym (from_message _ _ _ _ n.0 n.1)

pub returns-in-Branch : goal.returns-in-Branch
returns-in-Branch c = c.choice_from.ensures ∙ sym (from_choice _ _ _ _ (choice_number c.kind_of.ensures c.in-Branch.is))

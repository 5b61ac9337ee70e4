-- `reader::resolve` meets its contract: 8, then 9, then the table.
-- Assumes nothing.
use mathlib.Core.Path.{refl, ◌∙◌}
use Rattle.rules.specs.Numbers.{text_most}
use Rattle.names.proofs.Named.{named_undefined, named_followable, named_round, named_resolved, named_table, zeros_within}
use Rattle.table_maker.proofs.Rows.{table_ok}
use Rattle.table_maker.proofs.FromText.{table_made}
use Rattle.reader.proofs.resolve.Goals as goal

pub returns-in-Some : goal.returns-in-Some
returns-in-Some c = rw (c.refused.ensures, c.from.ensures) (named_undefined c.requires.1 c.find_owners.ensures c.in-Some.u c.in-Some.is)

pub find_ends-requires : goal.find_ends-requires
find_ends-requires c =
    record { followable = named_followable c.requires.1 c.find_owners.ensures c.in_default.is; ends_len = refl }

pub table_from-requires : goal.table_from-requires
table_from-requires c =
    table_ok c.requires.1
    (named_resolved c.requires.1 c.find_owners.ensures c.in_default.is c.find_ends.ensures c.in_default-find_ends.is (zeros_within text_most))

pub returns-in-Some-find_ends : goal.returns-in-Some-find_ends
returns-in-Some-find_ends c =
    rw (c.refused-in-Some-find_ends.ensures, c.from-in-Some-find_ends.ensures)
    (named_round c.requires.1 c.find_owners.ensures c.in_default.is c.find_ends.ensures c.in-Some-find_ends.d c.in-Some-find_ends.is)

pub returns : goal.returns
returns c =
    let r = named_resolved c.requires.1 c.find_owners.ensures c.in_default.is c.find_ends.ensures c.in_default-find_ends.is (zeros_within text_most) in
    rw (c.table_from.ensures ∙ table_made c.requires.1 r)
    (named_table c.requires.1 c.find_owners.ensures c.in_default.is c.find_ends.ensures c.in_default-find_ends.is)

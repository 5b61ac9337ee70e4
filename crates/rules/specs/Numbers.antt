-- Document 01, "Numbers".
-- Assumes nothing.
use Rattle.std.specs.Prelude.{ℕ}

-- "Text at most 4,096 bytes"
abbrev pub text_most : ℕ
text_most = 4096

-- "96 definitions"
abbrev pub definitions_most : ℕ
definitions_most = 96

-- "64 nodes in a text"
abbrev pub text_nodes_most : ℕ
text_nodes_most = 64

-- "16 labels in a choice"
abbrev pub labels_most : ℕ
labels_most = 16

-- "4 items in a message"
abbrev pub items_most : ℕ
items_most = 4

-- "16 brackets `(`, `[`, `{` open at once"
abbrev pub brackets_most : ℕ
brackets_most = 16

-- "A table has at most 128 nodes." (The arrays of the crate `table` have this length, and the two before.)
abbrev pub table_nodes_most : ℕ
table_nodes_most = 128

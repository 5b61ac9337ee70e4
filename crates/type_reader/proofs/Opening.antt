-- A node begins, and its bracket is opened.
-- Assumes nothing.
use mathlib.Core.List.{List}
use Prim.Native.Nat.{ℕ}
use Rattle.std.specs.Prelude.{Ok, Err}
use Rattle.cursor.specs.declared.Cursor.{Cursor}
use Rattle.cursor.specs.declared.Taken.{Taken}
use Rattle.table.specs.declared.answers.Refusal.{Refusal}
use Rattle.type_reader.specs.declared.Past.{Past}
use Rattle.type_reader.specs.Leaves.{got, Begun, begun, not_begun, Opened, NodeOpened, node_opened, node_too_many, node_not_opened}

module _ {s : List ℕ} {t : Taken} {b deep : ℕ} where
  pub open_full : {no : Refusal} → Begun t (Err no) → NodeOpened s t b deep (Err no)
  open_full (not_begun l) = node_too_many l

  pub open_refused : {p : Past} {no : Refusal} → Begun t (Ok p) → Opened s p.next b deep (Err no) → NodeOpened s t b deep (Err no)
  open_refused (begun l) h = node_not_opened l h

  pub open_past : {p : Past} {c : Cursor} → Begun t (Ok p) → Opened s p.next b deep (Ok c) → NodeOpened s t b deep (got p.value c)
  open_past (begun l) h = node_opened l h

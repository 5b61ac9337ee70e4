-- `end` begins a node and ends it.
-- Assumes nothing.
use mathlib.Core.List.{List}
use mathlib.Core.Path.{◌≡◌}
use Prim.Native.Nat.{ℕ}
use Rattle.cursor.specs.declared.Taken.{Taken}
use Rattle.flat.specs.Flat.{end_number}
use Rattle.type_reader.specs.declared.Past.{Past}
use Rattle.type_reader.specs.Leaves.{Begun, begun, not_begun, Ended, ended, not_ended, stored_head}
use Rattle.std.specs.Prelude.{Ok, Err}
use Rattle.table.specs.declared.answers.Refusal.{Refusal}

pub end_refused : {t : Taken} {a a' : List ℕ} {no : Refusal} → Begun t (Err no) → Ended t a a' (Err no)
end_refused (not_begun l) = not_ended l

pub end_past : {t : Taken} {a a' : List ℕ} {p : Past} → Begun t (Ok p) → a' ≡ stored_head a p.value end_number 0 0 → Ended t a a' (Ok p)
end_past (begun l) d = ended l d

-- The definitions read so far are the beginning of a text: whatever text stands behind them, all together is one, and stands in the areas.
-- Assumes nothing.
use mathlib.Core.List.{List, []}
use mathlib.Core.Path.{◌≡◌, refl, sym, ap, ◌∙◌}
use Prim.Native.Nat.{ℕ, ◌+◌, ◌*◌, ◌≤◌}
use native.Mathlib.Nat.{zero-add}
use native.Mathlib.Omega.{arith}
use lib.ListN.{length}
use Rattle.rules.specs.Tokens.{Token, symbols, tokens}
use Rattle.rules.specs.Notation.{Ty, Text, last_definition, definition, write_text, Writes}
use Rattle.rules.specs.Numbering.{behind, behind_text, definition_count}
use Rattle.rules.proofs.TokensBehind.{tokens_behind}
use Rattle.cursor.specs.Takes.{Takes}
use Rattle.cursor.specs.declared.Cursor.{Cursor}
use Rattle.cursor.specs.declared.Taken.{Taken}
use Rattle.flat.specs.Flat.{room, row, used, used_text, raw_row, raw_text, Holds, Stored, StoredText, Kept}
use Rattle.type_reader.proofs.Standing.{kept_then, kept_same}
use Rattle.type_reader.proofs.Frames.{stored_same, used_more}
use Rattle.type_reader.proofs.Messages.{holds_from}
use Rattle.type_reader.proofs.Lists.{holds_then}
use Rattle.rules.proofs.Links.{behind_more}
use Rattle.reader.specs.Defining.{PastDefinition}

-- the text x of the bytes s stands in the areas, with m definitions, k nodes and u uses
pub record Whole (s a b d : List ℕ) (x : Text) (m k u : ℕ) : Type 0 where
  pub writes : Writes s x
  pub count : definition_count x ≡ m
  pub nodes : behind_text x 0 ≡ k
  pub uses : used_text x 0 ≡ u
  pub rows : Holds d 0 (raw_text x 0 0)
  pub stored : StoredText a b x 0 0

-- n definitions were read, and a text may follow at the cursor c
pub record Open (s a b d : List ℕ) (n : ℕ) (c : Cursor) : Type 0 where
  pub with_rest : Text → Text
  pub whole :
      (x : Text) (a' b' d' : List ℕ) → Kept a a' (c.nodes * room) → Kept b b' c.uses → Kept d d' (n * row)
      → symbols (tokens_behind s c.at) ≡ write_text x → Holds d' (n * row) (raw_text x c.nodes c.uses)
      → StoredText a' b' x c.nodes c.uses
      → Whole s a' b' d' (with_rest x) (n + definition_count x) (behind_text x c.nodes) (used_text x c.uses)

pub all_behind : (s : List ℕ) → tokens_behind s 0 ≡ tokens s
unfolding tokens_behind tokens
all_behind s = refl

pub open_first : (s a b d : List ℕ) → Open s a b d 0 (record { at = 0; nodes = 0; uses = 0 })
open_first s a b d =
    record {
      with_rest = λ x. x;
      whole = λ x a' b' d' ka kb kd e h st.
          record {
            writes = record { written = sym e ∙ ap symbols (all_behind s) };
            count = sym (zero-add (definition_count x));
            nodes = refl;
            uses = refl;
            rows = h;
            stored = st;
          };
    }

row_kept : {d d' : List ℕ} (i n : ℕ) (xs : List ℕ) → Holds d i xs → Kept d d' n → i + length xs ≤ n → Holds d' i xs
row_kept i n xs h k l = record { each = λ j e. k.each (i + j) (omega arith) ∙ h.each j e }

-- one definition more
module _ {s a b d a₁ b₁ d₁ : List ℕ} {n : ℕ} {c c₁ : Cursor} {t : Taken} {w : Token} {x : Ty} (k : Takes s c t) (o : Open s a b d n c) (p : PastDefinition s a b d a₁ b₁ d₁ t (tokens_behind s c.at) n w x c₁) where
  nodes_one : c₁.nodes ≡ behind x c.nodes
  nodes_one = p.nodes ∙ ap (λ i. behind x i) k.nodes

  uses_one : c₁.uses ≡ used x c.uses
  uses_one = p.uses ∙ ap (λ i. used x i) k.uses

  module _ {a' b' d' : List ℕ} (ka : Kept a₁ a' (c₁.nodes * room)) (kb : Kept b₁ b' c₁.uses) (kd : Kept d₁ d' ((n + 1) * row)) where
    nodes_kept : Kept a a' (c.nodes * room)
    nodes_kept = kept_then (rw k.nodes at p).kept ka (omega (arith, nodes_one, behind_more x c.nodes))

    uses_kept : Kept b b' c.uses
    uses_kept = kept_then (rw k.uses at p).kept_uses kb (omega (arith, uses_one, used_more x c.uses))

    rows_kept : Kept d d' (n * row)
    rows_kept = kept_then p.kept_rows kd (omega arith)

    type_stored : Stored a' b' x c.nodes c.uses
    type_stored =
        stored_same a₁ b₁ a' b' x c.nodes c.uses (rw (k.nodes, k.uses) at p).stored
        (kept_same (c.nodes * room) (behind x c.nodes * room) (rw nodes_one at ka) (omega arith))
        (kept_same c.uses (used x c.uses) (rw uses_one at kb) (omega arith))

    row_stored : Holds d' (n * row) (raw_row w x c.nodes c.uses [])
    row_stored = row_kept (n * row) ((n + 1) * row) _ (rw (k.nodes, k.uses) at p).holds kd (omega arith)

  pub open_next : Open s a₁ b₁ d₁ (n + 1) c₁
  open_next =
      record {
        with_rest = λ y. o.with_rest (definition w x y);
        whole = λ y a' b' d' ka kb kd e h st.
            let h₁ = rw (nodes_one, uses_one) at h in
            let st₁ = rw (nodes_one, uses_one) at st in
            let z = o.whole (definition w x y) a' b' d' (nodes_kept ka kb kd) (uses_kept ka kb kd) (rows_kept ka kb kd) (cc (p.written, e))
            (holds_then (n * row) (raw_row w x c.nodes c.uses []) (raw_text y (behind x c.nodes) (used x c.uses)) (row_stored ka kb kd) (holds_from (n * row + 3) h₁ (omega arith)))
            (type_stored ka kb kd, st₁) in
            record {
              writes = z.writes;
              count = z.count ∙ omega arith;
              nodes = rw nodes_one z.nodes;
              uses = rw uses_one z.uses;
              rows = z.rows;
              stored = z.stored;
            };
      }

  kept_here : {l : List ℕ} {m : ℕ} → Kept l l m
  kept_here = record { each = λ i e. refl }

  pub closed_next : symbols (tokens_behind s c₁.at) ≡ [] → Whole s a₁ b₁ d₁ (o.with_rest (last_definition w x)) (n + 1) c₁.nodes c₁.uses
  closed_next e =
      let ka : Kept a₁ a₁ (c₁.nodes * room) = kept_here in
      let kb : Kept b₁ b₁ c₁.uses = kept_here in
      let kd : Kept d₁ d₁ ((n + 1) * row) = kept_here in
      let z = o.whole (last_definition w x) a₁ b₁ d₁ (nodes_kept ka kb kd) (uses_kept ka kb kd) (rows_kept ka kb kd) (cc (p.written, e)) (row_stored ka kb kd) (type_stored ka kb kd) in
      record {
        writes = z.writes;
        count = z.count;
        nodes = rw nodes_one z.nodes;
        uses = rw uses_one z.uses;
        rows = z.rows;
        stored = z.stored;
      }

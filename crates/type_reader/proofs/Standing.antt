-- Where a type is to be read, and what the cursor counts behind a byte that is taken.
-- Assumes nothing.
use mathlib.Core.Bool.{true, false}
use mathlib.Core.List.{List, ◌∷◌}
use mathlib.Core.Path.{◌≡◌, refl, ◌∙◌}
use Prim.Native.Char.{code}
use Prim.Native.Nat.{ℕ, ◌<◌, ◌≤◌}
use native.Mathlib.Omega.{arith}
use lib.ListN.{length}
use Rattle.rules.specs.Basics.{first}
use Rattle.rules.specs.Tokens.{Token, Symbol, one_byte}
use Rattle.rules.specs.Notation.{Way, into, out, message_sign, choice_sign, opening}
use Rattle.rules.specs.Refusals.{Begins, an_item, a_label, nothing_new, one_of, entries_after}
use Rattle.rules.proofs.Machine.{Expect, a_type, Stack, on, look, step, in_message, in_choice, open_byte}
use Rattle.rules.proofs.Reached.{Reached}
use Rattle.rules.proofs.OneToken.{counted, opens_symbol, closes_symbol, begins_symbol, next_symbol}
use Rattle.cursor.specs.Takes.{Ahead, reserved_kind}
use Rattle.cursor.specs.declared.Cursor.{Cursor}
use Rattle.cursor.specs.declared.Taken.{Taken}
use Rattle.flat.specs.Flat.{Kept}
use Rattle.type_reader.specs.Leaves.{Got, Signed, signed, Opened, opened}
use Rattle.type_reader.specs.Answers.{Acts, first_spelled, TypeRoom, TypeGot, TypeRead, message_byte, choice_byte}
use Rattle.std.specs.Prelude.{Ok}
use Rattle.type_reader.proofs.Signs.{Plain, Opening}
use Rattle.type_reader.proofs.Frames.{Same}

-- all that a reader of types is told of where it stands
pub record Standing (s : List ℕ) (t : Taken) (deep : ℕ) : Type 0 where
  pub ts : List Token
  pub x : Expect
  pub J : Stack
  pub K : Stack
  pub nx : Begins
  pub ns : List (List ℕ)
  pub bs : List (List (List ℕ))
  pub ahead : Ahead s t ts
  pub acts : Acts (x ∷ J) (a_type ∷ K) ts
  pub reached : Reached s ts (x ∷ J) (counted nx t.next.nodes ns bs)
  pub fits : TypeRoom nx bs
  pub depth : length bs ≡ deep

-- what is counted in brackets inside the type
abbrev pub inside : {s : List ℕ} {t : Taken} {deep : ℕ} → Standing s t deep → List (List (List ℕ))
inside z = entries_after z.nx (first_spelled z.ts) z.bs

pub type_read :
    {s a b a' b' : List ℕ} {t : Taken} {deep : ℕ} {r : Got}
    → ((z : Standing s t deep) → TypeGot s a b a' b' t z.ts z.K z.nx z.ns z.bs r) → TypeRead s a b a' b' t deep r
type_read f =
    record {
      told = λ ts x J K nx ns bs h acts r fits q.
          f (record { ts = ts; x = x; J = J; K = K; nx = nx; ns = ns; bs = bs; ahead = h; acts = acts; reached = r; fits = fits; depth = q });
    }

-- the signs of messages and choices begin nodes, and brackets open
pub record NodeSign (y : Symbol) : Type 0 where
  pub no_opening : opens_symbol y ≡ false
  pub no_closing : closes_symbol y ≡ false
  pub begins : begins_symbol y ≡ true
  pub goes_on : next_symbol y ≡ nothing_new

pub message_begins : (d : Way) → NodeSign (one_byte (message_byte d))
unfolding one_of first
message_begins into = record { no_opening = refl; no_closing = refl; begins = refl; goes_on = refl }
message_begins out = record { no_opening = refl; no_closing = refl; begins = refl; goes_on = refl }

pub choice_begins : (d : Way) → NodeSign (one_byte (choice_byte d))
unfolding one_of first
choice_begins into = record { no_opening = refl; no_closing = refl; begins = refl; goes_on = refl }
choice_begins out = record { no_opening = refl; no_closing = refl; begins = refl; goes_on = refl }

pub message_step : (d : Way) (K : Stack) → step (a_type ∷ K) (one_byte (message_byte d)) ≡ on (in_message d K)
unfolding step look
message_step into K = refl
message_step out K = refl

pub choice_step : (d : Way) (K : Stack) → step (a_type ∷ K) (one_byte (choice_byte d)) ≡ on (in_choice K)
unfolding step look
choice_step into K = refl
choice_step out K = refl

pub message_signs : (d : Way) → (message_sign d ≡ one_byte (message_byte d)) × (opening d ≡ one_byte (open_byte d))
message_signs into = (refl, refl)
message_signs out = (refl, refl)

pub choice_signs : (d : Way) → choice_sign d ≡ one_byte (choice_byte d)
choice_signs into = refl
choice_signs out = refl

pub message_bytes : (d : Way) → message_byte d < reserved_kind
message_bytes into = omega arith
message_bytes out = omega arith

pub choice_bytes : (d : Way) → choice_byte d < reserved_kind
choice_bytes into = omega arith
choice_bytes out = omega arith

pub open_items : (d : Way) → Opening (open_byte d)
unfolding one_of first
open_items into = record { byte = omega arith; opening = refl; no_node = refl }
open_items out = record { byte = omega arith; opening = refl; no_node = refl }

pub items_next : (d : Way) → next_symbol (one_byte (open_byte d)) ≡ an_item
unfolding one_of first
items_next into = refl
items_next out = refl

pub open_labels : Opening (code "{")
unfolding one_of first
open_labels = record { byte = omega arith; opening = refl; no_node = refl }

pub labels_next : next_symbol (one_byte (code "{")) ≡ a_label
unfolding one_of first
labels_next = refl

pub semicolon : Plain (code ";")
unfolding one_of first
semicolon = record { byte = omega arith; no_opening = refl; no_closing = refl; no_node = refl }

pub semicolon_next : next_symbol (one_byte (code ";")) ≡ nothing_new
unfolding one_of first
semicolon_next = refl

pub colon : Plain (code ":")
unfolding one_of first
colon = record { byte = omega arith; no_opening = refl; no_closing = refl; no_node = refl }

pub colon_next : next_symbol (one_byte (code ":")) ≡ nothing_new
unfolding one_of first
colon_next = refl

-- a byte that is taken counts no node and no use
pub opened_counts : {s : List ℕ} {c : Cursor} {b deep : ℕ} {c' : Cursor} → Opened s c b deep (Ok c') → (c'.nodes ≡ c.nodes) × (c'.uses ≡ c.uses)
opened_counts (opened k e l) = (k.nodes, k.uses)

pub signed_counts : {s : List ℕ} {c : Cursor} {b : ℕ} {c' : Cursor} → Signed s c b (Ok c') → (c'.nodes ≡ c.nodes) × (c'.uses ≡ c.uses)
signed_counts (signed k e) = (k.nodes, k.uses)

-- areas one behind the other
pub kept_then : {a b c : List ℕ} {n m : ℕ} → Kept a b n → Kept b c m → n ≤ m → Kept a c n
kept_then h k l = record { each = λ i p. k.each i (omega arith) ∙ h.each i p }

pub kept_same : {a b : List ℕ} {n : ℕ} (from to : ℕ) → Kept a b n → to ≤ n → Same a b from to
kept_same from to h l = record { each = λ i p q. h.each i (omega arith) }

pub same_then : {a b c : List ℕ} {from to : ℕ} → Same a b from to → Same b c from to → Same a c from to
same_then h k = record { each = λ i p q. k.each i p q ∙ h.each i p q }

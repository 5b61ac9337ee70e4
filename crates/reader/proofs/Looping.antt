-- The loop over the definitions: what holds before each, and what it ends with.
-- Assumes nothing.
use mathlib.Core.Bool.{Bool, true, false}
use mathlib.Core.List.{List, [], ◌∷◌}
use mathlib.Core.Path.{◌≡◌, refl, sym, ap, ◌∙◌}
use Prim.Native.Nat.{ℕ, ◌+◌, ◌*◌, ◌<◌, ◌≤◌}
use native.Mathlib.Omega.{arith}
use borrow.Author.Tests.{ltb-true, lt-ltb}
use lib.Dec.{ltb}
use lib.ListN.{length}
use Rattle.rules.specs.Words.{reserved_words}
use Rattle.rules.specs.Tokens.{Token, Symbol, word, reserved_word, one_byte, symbol, symbols}
use Rattle.rules.specs.Notation.{Text}
use Rattle.rules.specs.Numbers.{text_most, definitions_most}
use Rattle.rules.specs.Refusals.{number, a_definition}
use Rattle.rules.specs.Replies.{Reads, refused}
use Rattle.rules.specs.computed.Reading.{reading}
use Rattle.rules.proofs.Agreement.{reads_reading}
use Rattle.rules.proofs.Machine.{start}
use Rattle.rules.proofs.Reached.{Reached, Refuses, reached_start, reached_text}
use Rattle.rules.proofs.OneToken.{counted}
use Rattle.rules.proofs.TokensBehind.{tokens_behind}
use Rattle.cursor.specs.Takes.{Ahead, Takes, kind, reserved_kind, end_kind, kind_of}
use Rattle.cursor.specs.declared.Cursor.{Cursor}
use Rattle.cursor.specs.declared.Taken.{Taken}
use Rattle.flat.specs.Flat.{row, words_of, Parsed}
use Rattle.flat.proofs.Rows.{row-length}
use Rattle.type_reader.specs.Leaves.{Moved, got, Signed, signed, not_signed}
use Rattle.type_reader.specs.Answers.{Ready}
use Rattle.type_reader.proofs.Safe.{onward_taken}
use Rattle.table.specs.declared.answers.Refusal.{Refusal}
use Rattle.table.specs.declared.answers.RefusalKind.TheVariants as kinds
use Rattle.std.specs.Prelude.{Ok, Err}
use Rattle.type_reader.specs.declared.Past.{Past}
use Rattle.reader.specs.Defining.{rows_room, stored_definition, Starts, at_first, further, DefinitionGot, DefinitionRead, TextGot, Sound}
use Rattle.reader.specs.Defining as defining
use Rattle.reader.proofs.Texts.{Whole, Open, all_behind, open_first, open_next, closed_next}

-- n definitions were read, c is the cursor behind them and t the token that it takes
pub record Looping (s a b d : List ℕ) (c : Cursor) (n : ℕ) (t : Taken) : Type 0 where
  pub ready : Ready s a b c
  pub taken : Takes s c t
  pub rows : length d ≡ rows_room
  pub few : n ≤ definitions_most
  pub reached : Reached s (tokens_behind s c.at) [] (counted a_definition c.nodes (words_of s d 0 n) [])
  pub open_text : Open s a b d n c
  pub closed : symbols (tokens_behind s c.at) ≡ [] → (x : Text) × Whole s a b d x n c.nodes c.uses

-- no symbol has the number of the end
no_end : (y : Symbol) → kind y ≡ end_kind → ⊥
unfolding kind
no_end (word w) e = omega arith
no_end (reserved_word i) e = go (ltb i (length reserved_words)) refl
  where
    go : (q : Bool) → ltb i (length reserved_words) ≡ q → ⊥
    go true q = let z : reserved_kind + i ≡ end_kind = rw (kind, q) at e in omega (arith, ltb-true i (length reserved_words) q)
    go false q = let z : 263 ≡ end_kind = rw (kind, q) at e in omega arith
no_end (one_byte b) e = go (ltb b reserved_kind) refl
  where
    go : (q : Bool) → ltb b reserved_kind ≡ q → ⊥
    go true q = let z : b ≡ end_kind = rw (kind, q) at e in omega (arith, ltb-true b reserved_kind q)
    go false q = let z : 263 ≡ end_kind = rw (kind, q) at e in omega arith

nothing_left : {s : List ℕ} {t : Taken} (ts : List Token) → Ahead s t ts → kind_of t ≡ end_kind → ts ≡ []
nothing_left [] h e = refl
nothing_left (u ∷ k) h e = absurd (no_end (symbol u) (sym h.is ∙ e))

starts_further : {s : List ℕ} {t : Taken} (ts : List Token) → Ahead s t ts → (kind_of t ≡ end_kind → ⊥) → Starts [] ts
starts_further [] h n = absurd (n h.is)
starts_further (u ∷ k) h n = further

abbrev origin : Cursor
origin = record { at = 0; nodes = 0; uses = 0 }

-- what a definition tells, at the start of the text and further on
pub first_got : {s a b d a₁ b₁ d₁ : List ℕ} {t : Taken} {r : Moved} → Takes s origin t → DefinitionRead s a b d a₁ b₁ d₁ t 0 r → DefinitionGot s a b d a₁ b₁ d₁ t (tokens_behind s 0) 0 r
first_got {s} {d = d} k f =
    f.told (tokens_behind s 0) start k.ahead at_first (rw (k.nodes, all_behind s) (reached_start s))

pub later_got :
    {s a b d a₁ b₁ d₁ : List ℕ} {c : Cursor} {n : ℕ} {t : Taken} {r : Moved} → Looping s a b d c n t → (kind_of t ≡ end_kind → ⊥)
    → DefinitionRead s a b d a₁ b₁ d₁ t n r → DefinitionGot s a b d a₁ b₁ d₁ t (tokens_behind s c.at) n r
later_got {s} {c = c} g e f =
    f.told (tokens_behind s c.at) [] g.taken.ahead (starts_further (tokens_behind s c.at) g.taken.ahead e) (rw g.taken.nodes g.reached)

pub text_refused : {s a b d a₁ b₁ d₁ : List ℕ} {t : Taken} {ts : List Token} {n : ℕ} {no : Refusal} → DefinitionGot s a b d a₁ b₁ d₁ t ts n (Err no) → TextGot s a₁ b₁ d₁ (Err no)
text_refused (defining.refused z) = defining.refused z

pub record Within (s a b d : List ℕ) (from : ℕ) (c : Cursor) : Type 0 where
  pub further : from < c.at
  pub ready : Ready s a b c
  pub rows : length d ≡ rows_room

pub sound_within : {s a b d : List ℕ} {from : ℕ} {c : Cursor} → Sound s a b d from (Ok c) → Within s a b d from c
sound_within (defining.past f r l) = record { further = f; ready = r; rows = l }

pub loop_next :
    {s a b d a₁ b₁ d₁ : List ℕ} {c c₁ : Cursor} {n : ℕ} {t t₂ : Taken} → Takes s c t → Open s a b d n c
    → DefinitionGot s a b d a₁ b₁ d₁ t (tokens_behind s c.at) n (Ok c₁) → Ready s a₁ b₁ c₁ → length d₁ ≡ rows_room → Takes s c₁ t₂
    → Looping s a₁ b₁ d₁ c₁ (n + 1) t₂
loop_next k o (defining.past w x p) r m k₂ =
    record {
      ready = r;
      taken = k₂;
      rows = m;
      few = omega (arith, p.few);
      reached = p.reached;
      open_text = open_next k o p;
      closed = λ e. (_, closed_next k o p e);
    }

pub loop_first :
    {s a b d a₁ b₁ d₁ : List ℕ} {c₁ : Cursor} {t t₂ : Taken} → Takes s origin t → DefinitionRead s a b d a₁ b₁ d₁ t 0 (Ok c₁)
    → Ready s a₁ b₁ c₁ → length d₁ ≡ rows_room → Takes s c₁ t₂ → Looping s a₁ b₁ d₁ c₁ 1 t₂
loop_first {s} {a} {b} {d} k f r m k₂ = loop_next k (open_first s a b d) (first_got k f) r m k₂

-- the end of the text
pub loop_ended : {s a b d : List ℕ} {c : Cursor} {n : ℕ} {t : Taken} → Looping s a b d c n t → kind_of t ≡ end_kind → TextGot s a b d (got n c)
loop_ended {s} {c = c} g e =
    let z : tokens_behind s c.at ≡ [] = nothing_left (tokens_behind s c.at) g.taken.ahead e in
    let (x, w) = g.closed (ap symbols z) in
    let r = g.reached in
    defining.past x
    (record {
      short = g.ready.short;
      writes = w.writes;
      clear = (reached_text (rw z at r)).1;
      definitions = sym w.count;
      few_definitions = g.few;
      node_count = sym w.nodes;
      few_nodes = g.ready.few_nodes;
      use_count = sym w.uses;
      few_uses = omega (arith, g.ready.few_uses, g.ready.inside, g.ready.short);
      rows = w.rows;
      stored = w.stored;
    })

-- Where the answers of a definition lead.
pub sound_signed :
    {s a b d : List ℕ} {from k : ℕ} {c : Cursor} {r : Moved} → Ready s a b c → Signed s c k r → k < end_kind → from ≤ c.at → length d ≡ rows_room
    → Sound s a b d from r
sound_signed h (not_signed k e) l m q = defining.refused
sound_signed h (signed {t} k e) l m q = let o = onward_taken h k e l in defining.past {c = t.next} (omega (arith, o.further)) o.ready q

pub origin_ready : {s a b : List ℕ} → length s ≤ text_most → length a ≡ text_most → length b ≡ text_most → Ready s a b origin
origin_ready l e f = record { short = l; inside = omega arith; few_nodes = omega arith; few_uses = omega arith; room_nodes = e; room_uses = f }

-- the answer of all definitions, taken apart
pub text_past : {s a b d : List ℕ} {p : Past} → TextGot s a b d (Ok p) → (x : Text) × Parsed s a b d p.value p.next.nodes p.next.uses x
text_past (defining.past x p) = (x, p)

pub text_refuses : {s a b d : List ℕ} {no : Refusal} → TextGot s a b d (Err no) → Refuses s (number no.kind) no.place
text_refuses (defining.refused z) = z

-- "text over 4,096 bytes"
pub too_long : (s : List ℕ) → text_most < length s → Reads s (refused kinds.TextTooLong 0)
unfolding reading
too_long s l = let r = reads_reading s in rw (reading, lt-ltb text_most (length s) l) at r

pub rows_stay : (d d' : List ℕ) (n : ℕ) (t : Taken) (link : ℕ) → length d ≡ rows_room → d' ≡ stored_definition d n t link → length d' ≡ rows_room
rows_stay d d' n t link e st = rw st (row-length d (n * row) t.at t.len link ∙ e)

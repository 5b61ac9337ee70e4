-- Where the cursor is after each step: on, within the text and the areas.
-- Assumes nothing.
use mathlib.Core.Bool.{true, false}
use mathlib.Core.List.{List}
use mathlib.Core.Logic.{inl, inr}
use mathlib.Core.Path.{◌≡◌, refl, ap, ◌∙◌}
use Prim.Native.Nat.{ℕ, ◌+◌, ◌-◌, ◌*◌, ◌<◌, ◌≤◌}
use native.Mathlib.Omega.{arith}
use lib.ListN.{length, set, length-set}
use Rattle.rules.specs.Words.{word_most}
use Rattle.rules.specs.Numbers.{text_most, text_nodes_most, brackets_most, items_most}
use Rattle.cursor.specs.Takes.{Takes, reserved_kind, end_kind, kind_of}
use Rattle.cursor.specs.declared.Cursor.{Cursor}
use Rattle.cursor.specs.declared.Taken.{Taken}
use Rattle.table.specs.declared.Sort.{Sort}
use Rattle.flat.specs.Flat.{room, list_from, row, a_use, end_number, sort_number}
use Rattle.flat.proofs.Rows.{row-length}
use Rattle.type_reader.specs.declared.Past.{Past}
use Rattle.type_reader.specs.Leaves.{Got, Moved, got, Signed, signed, Opened, opened, NodeOpened, node_opened}
use Rattle.type_reader.specs.Leaves.{behind_node, Used, used_name, long_name, Ended, not_ended, stored_head, stored_label, ItemBegun, is_sort}
use Rattle.type_reader.specs.Leaves as leaves
use Rattle.type_reader.specs.Answers.{Ready, TokenReady, Sound, refused, past, SoundOn, past_on}
use Rattle.std.specs.Prelude.{Option, Some, None, Ok}
use Rattle.type_reader.proofs.Frames.{head_length}
use Rattle.type_reader.proofs.Sorts.{sort_between}

pub ready_areas : {s a b a' b' : List ℕ} {c : Cursor} → Ready s a b c → length a' ≡ length a → length b' ≡ length b → Ready s a' b' c
ready_areas r e f =
    record { short = r.short; inside = r.inside; few_nodes = r.few_nodes; few_uses = r.few_uses; room_nodes = e ∙ r.room_nodes; room_uses = f ∙ r.room_uses }

pub take_ready : {s a b : List ℕ} {c : Cursor} {t : Taken} → Ready s a b c → Takes s c t → TokenReady s a b t
take_ready {s} {a} {b} {c} {t} r k =
    let inside = k.within r.inside in
    let from = k.from in
    let onward = k.onward in
    let uses = k.uses in
    let few = r.few_uses in
    record {
      ready = record { short = r.short; inside = inside; few_nodes = rw k.nodes r.few_nodes; few_uses = omega arith; room_nodes = r.room_nodes; room_uses = r.room_uses };
      order = onward;
      uses_before = omega arith;
      some_byte = k.some_byte;
    }

-- a token of a known kind has a byte
pub token_long : {s a b : List ℕ} {t : Taken} {k : ℕ} → TokenReady s a b t → kind_of t ≡ k → k < end_kind → 0 < t.len
token_long r e l = elim r.some_byte [ inl f ↦ absurd (omega arith) | inr m ↦ m ]

pub record Onward (s a b : List ℕ) (from : Cursor) (c : Cursor) : Type 0 where
  pub ready : Ready s a b c
  pub further : from.at < c.at
  pub nodes : c.nodes ≡ from.nodes

pub onward_taken : {s a b : List ℕ} {c : Cursor} {t : Taken} {k : ℕ} → Ready s a b c → Takes s c t → kind_of t ≡ k → k < end_kind → Onward s a b c t.next
onward_taken r k e l =
    let q = take_ready r k in
    record { ready = q.ready; further = omega (arith, token_long q e l, q.order, k.from); nodes = k.nodes }

pub signed_onward : {s a b : List ℕ} {c c' : Cursor} {k : ℕ} → Ready s a b c → Signed s c k (Ok c') → k < end_kind → Onward s a b c c'
signed_onward r (signed k e) l = onward_taken r k e l

-- a node whose bracket was opened, taken apart
pub record NodeNow (s : List ℕ) (t : Taken) (o deep : ℕ) (p : Past) : Type 0 where
  pub few : t.next.nodes < text_nodes_most
  pub number : p.value ≡ t.next.nodes
  pub opened : Opened s (behind_node t.next) o deep (Ok p.next)

pub node_now : {s : List ℕ} {t : Taken} {o deep : ℕ} {p : Past} → NodeOpened s t o deep (Ok p) → NodeNow s t o deep p
node_now (node_opened l h) = record { few = l; number = refl; opened = h }

opened_onward :
    {s a b : List ℕ} {c c' : Cursor} {k deep : ℕ} → Ready s a b c → Opened s c k deep (Ok c') → k < end_kind
    → Onward s a b c c' × (deep < brackets_most)
opened_onward r (opened k e m) l = (onward_taken r k e l, m)

begun_ready : {s a b : List ℕ} {t : Taken} → TokenReady s a b t → t.next.nodes < text_nodes_most → Ready s a b (behind_node t.next)
begun_ready r l =
    let q = r.ready in
    record { short = q.short; inside = q.inside; few_nodes = omega arith; few_uses = q.few_uses; room_nodes = q.room_nodes; room_uses = q.room_uses }

-- behind the bracket
pub record NodeReady (s a b : List ℕ) (t : Taken) (deep : ℕ) (p : Past) : Type 0 where
  pub ready : Ready s a b p.next
  pub number : p.value ≡ t.next.nodes
  pub few : p.value < text_nodes_most
  pub further : t.at < p.next.at
  pub nodes : p.next.nodes ≡ p.value + 1
  pub shallow : deep < brackets_most

pub node_ready :
    {s a b : List ℕ} {t : Taken} {o deep : ℕ} {p : Past} → TokenReady s a b t → o < end_kind → NodeOpened s t o deep (Ok p)
    → NodeReady s a b t deep p
node_ready r l h =
    let n = node_now h in
    let o = opened_onward (begun_ready r n.few) n.opened l in
    record {
      ready = o.0.ready;
      number = n.number;
      few = omega (arith, n.few, n.number);
      further = omega (arith, r.order, o.0.further);
      nodes = omega (arith, o.0.nodes, n.number);
      shallow = o.1;
    }

-- an answer that leads on, taken apart
pub record SoundPast (s a b : List ℕ) (from nodes : ℕ) (p : Past) : Type 0 where
  pub further : from < p.next.at
  pub more : nodes ≤ p.next.nodes
  pub small : p.value < a_use + text_most
  pub ready : Ready s a b p.next

pub sound_past : {s a b : List ℕ} {from nodes : ℕ} {p : Past} → Sound s a b from nodes (Ok p) → SoundPast s a b from nodes p
sound_past (past f m v r) = record { further = f; more = m; small = v; ready = r }

-- the same of an answer with no value
pub record SoundMoved (s a b : List ℕ) (from nodes : ℕ) (c : Cursor) : Type 0 where
  pub further : from < c.at
  pub more : nodes ≤ c.nodes
  pub ready : Ready s a b c

pub sound_moved : {s a b : List ℕ} {from nodes : ℕ} {c : Cursor} → SoundOn s a b from nodes (Ok c) → SoundMoved s a b from nodes c
sound_moved (past_on f m r) = record { further = f; more = m; ready = r }

pub sound_on : {s a b : List ℕ} {from nodes from' nodes' : ℕ} {r : Got} → Sound s a b from nodes r → from' ≤ from → nodes' ≤ nodes → Sound s a b from' nodes' r
sound_on refused l m = refused
sound_on (past {v} {c} f n w r) l m = past {v = v} {c = c} (omega arith) (omega arith) w r

pub sound_used : {s a b b' : List ℕ} {t : Taken} {r : Got} → TokenReady s a b t → 0 < t.len → Used t b b' r → Sound s a b' t.at t.next.nodes r
sound_used {b = b} {t = t} q l (used_name m e) =
    let z = q.ready in
    let u = q.uses_before in
    let o = q.order in
    let i = z.inside in
    let h = z.short in
    past {v = a_use + t.next.uses} {c = leaves.behind_use t.next} (omega arith) (omega arith) (omega arith)
    (record { short = z.short; inside = z.inside; few_nodes = z.few_nodes; few_uses = omega arith; room_nodes = z.room_nodes; room_uses = rw e (length-set b t.next.uses t.at ∙ z.room_uses) })
sound_used q l (long_name m) = refused

pub sound_ended : {s a a' b : List ℕ} {t : Taken} {r : Got} → TokenReady s a b t → 0 < t.len → Ended t a a' r → Sound s a' b t.at t.next.nodes r
sound_ended {a = a} {t = t} q l (leaves.ended m e) =
    let z = q.ready in
    let o = q.order in
    past {v = t.next.nodes} {c = behind_node t.next} (omega arith) (omega arith) (omega arith)
    (record {
      short = z.short;
      inside = z.inside;
      few_nodes = omega arith;
      few_uses = z.few_uses;
      room_nodes = rw e (head_length a t.next.nodes end_number 0 0 ∙ z.room_nodes);
      room_uses = z.room_uses;
    })
sound_ended q l (not_ended m) = refused

-- an item that begins: a sort, or a type
pub record SortIs (t : Taken) (n : ℕ) (x : Sort) : Type 0 where
  pub short : t.len ≤ word_most
  pub few : n < items_most
  pub sort : is_sort (kind_of t) ≡ true
  pub number : kind_of t - reserved_kind - 1 ≡ sort_number x
  pub known : kind_of t < end_kind

pub record TypeIs (t : Taken) (n : ℕ) : Type 0 where
  pub few : n < items_most
  pub no_sort : is_sort (kind_of t) ≡ false

pub item_few : {t : Taken} {n : ℕ} {i : Option Sort} → ItemBegun t n (Ok i) → n < items_most
item_few (leaves.a_sort l m e v) = m
item_few (leaves.a_type b l m e) = m

sort_now : {t : Taken} {n : ℕ} {x : Sort} → ItemBegun t n (Ok (Some x)) → SortIs t n x
sort_now {t} (leaves.a_sort l m e v) =
    let b = sort_between (kind_of t) e in
    record { short = l; few = m; sort = e; number = v; known = omega arith }

pub sort_is : {t : Taken} {n : ℕ} {x : Sort} {i : Option Sort} → ItemBegun t n (Ok i) → i ≡ Some x → SortIs t n x
sort_is h f = sort_now (rw f at h)

type_now : {t : Taken} {n : ℕ} → ItemBegun t n (Ok None) → TypeIs t n
type_now (leaves.a_type b l m e) = record { few = m; no_sort = e }

pub type_is : {t : Taken} {n : ℕ} {i : Option Sort} → ItemBegun t n (Ok i) → i ≡ None → TypeIs t n
type_is h f = type_now (rw f at h)

-- an answer that leads on, put together
pub sound_step : {s a b : List ℕ} {c c' : Cursor} {v : ℕ} → Onward s a b c c' → v < a_use + text_most → Sound s a b c.at c.nodes (got v c')
sound_step {c' = c'} {v = v} o l = past {v = v} {c = c'} o.further (omega (arith, o.nodes)) l o.ready

pub sound_stored :
    {s a a' b : List ℕ} {from nodes node : ℕ} (kind n link : ℕ) {c : Cursor} → from < c.at → nodes ≤ c.nodes → node < text_nodes_most → Ready s a b c
    → a' ≡ stored_head a node kind n link → Sound s a' b from nodes (got node c)
sound_stored {a = a} {node = node} kind n link {c} f m few r st =
    past {v = node} {c = c} f m (omega arith) (ready_areas r (rw st (head_length a node kind n link)) refl)

-- the same after a number, or a label's row, was written
pub sound_number :
    {s a b : List ℕ} {from nodes : ℕ} (i v : ℕ) {c : Cursor} → from < c.at → nodes ≤ c.nodes → Ready s a b c
    → SoundOn s (set a i v) b from nodes (Ok c)
sound_number {a = a} i v {c} f m r = past_on {c = c} f m (ready_areas r (length-set a i v) refl)

pub sound_row :
    {s a a' b : List ℕ} {from nodes : ℕ} (node n : ℕ) (t : Taken) (link : ℕ) {c : Cursor} → from < c.at → nodes ≤ c.nodes → Ready s a b c
    → a' ≡ stored_label a node n t link → SoundOn s a' b from nodes (Ok c)
sound_row {a = a} node n t link {c} f m r st =
    past_on {c = c} f m
    (ready_areas r (rw st (row-length a (node * room + list_from + n * row) t.at t.len link)) refl)

-- the cursor behind a label, or a sort, is the one behind its token
pub label_ready : {s a b : List ℕ} {t : Taken} {c : Cursor} → TokenReady s a b t → c ≡ t.next → Ready s a b c
label_ready r e = rw e r.ready

pub label_inside : {s a b : List ℕ} {t : Taken} {c : Cursor} → TokenReady s a b t → c ≡ t.next → c.at ≤ length s
label_inside r e = (label_ready r e).inside

pub label_places : {c d : Cursor} → c ≡ d → (c.at ≡ d.at) × (c.nodes ≡ d.nodes)
label_places e = (ap (λ (c : Cursor). c.at) e, ap (λ (c : Cursor). c.nodes) e)

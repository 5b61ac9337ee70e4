-- What the readers of types, items and labels answer: told for every stack of what is expected and every count of what was seen, where they
-- may stand.
-- Assumes nothing.
use Rattle.std.specs.Prelude.{List, [], ◌∷◌, ◌⊎◌, ◌≡◌, ℕ, suc, ◌+◌, ◌*◌, ◌<◌, ◌≤◌, length, Ok, Err}
use Prim.Native.Char.{code}
use Rattle.rules.specs.Tokens.{Token, Symbol, word, reserved_word, symbol, symbols}
use Rattle.rules.specs.Notation.{Way, into, out, Ty, Items, Labels, sign, sort_position, write_type, write_items, write_labels}
use Rattle.rules.specs.Numbers.{text_most, text_nodes_most, labels_most, items_most}
use Rattle.rules.specs.Numbering.{behind, behind_items, behind_labels, message_kind, choice_kind}
use Rattle.rules.specs.Refusals.{number, Begins, a_label, an_item, nothing_new, innermost, entries_after}
use Rattle.rules.proofs.Machine.{Expect, Stack, step}
use Rattle.rules.proofs.Machine as expect
use Rattle.rules.proofs.Reached.{Reached, Refuses}
use Rattle.rules.proofs.OneToken.{counted}
use Rattle.rules.proofs.TokensBehind.{tokens_behind}
use Rattle.cursor.specs.Takes.{Ahead, end_kind, kind_of}
use Rattle.cursor.specs.declared.Cursor.{Cursor}
use Rattle.cursor.specs.declared.Taken.{Taken}
use Rattle.flat.specs.Flat.{room, list_from, row, a_use, a_session, sort_number, used, used_items, used_labels, raw, raw_row}
use Rattle.flat.specs.Flat.{raw_items, raw_labels, items_long, labels_long, Holds, Stored, StoredItems, StoredLabels, Kept, KeptBut, words_of}
use Rattle.table.specs.declared.Kind.{Kind}
use Rattle.table.specs.declared.Sort.{Sort}
use Rattle.table.specs.declared.answers.Refusal.{Refusal}
use Rattle.type_reader.specs.Leaves.{Got, Moved, got}

-- the text is short, the areas have their room, and the cursor is within both
pub record Ready (s a b : List ℕ) (c : Cursor) : Type 0 where
  pub short : length s ≤ text_most
  pub inside : c.at ≤ length s
  pub few_nodes : c.nodes ≤ text_nodes_most
  pub few_uses : c.uses ≤ c.at
  pub room_nodes : length a ≡ text_most
  pub room_uses : length b ≡ text_most

-- the same behind a token, which has a byte where it is not the end
pub record TokenReady (s a b : List ℕ) (t : Taken) : Type 0 where
  pub ready : Ready s a b t.next
  pub order : t.next.at ≡ t.at + t.len
  pub uses_before : t.next.uses ≤ t.at
  pub some_byte : (kind_of t ≡ end_kind) ⊎ (0 < t.len)

-- where an answer leads: on, within the text and the areas
pub data Sound (s a b : List ℕ) (from nodes : ℕ) : Got → Type 0 where
  refused : {no : Refusal} → Sound s a b from nodes (Err no)
  past : {v : ℕ} {c : Cursor} → from < c.at → nodes ≤ c.nodes → v < a_use + text_most → Ready s a b c → Sound s a b from nodes (got v c)

-- the same of an answer with no value
pub data SoundOn (s a b : List ℕ) (from nodes : ℕ) : Moved → Type 0 where
  refused_on : {no : Refusal} → SoundOn s a b from nodes (Err no)
  past_on : {c : Cursor} → from < c.at → nodes ≤ c.nodes → Ready s a b c → SoundOn s a b from nodes (Ok c)

-- the first token leads from J to where it leads from L
abbrev pub Acts : Stack → Stack → List Token → Type 0
Acts J L [] = Unit {0}
Acts J L (t ∷ ts) = step J (symbol t) ≡ step L (symbol t)

abbrev pub first_spelled : List Token → List ℕ
first_spelled [] = []
first_spelled (t ∷ ts) = t.spelled

-- a type begins behind a sign, or as an item where there is room for one
pub data TypeRoom : Begins → List (List (List ℕ)) → Type 0 where
  alone : {bs : List (List (List ℕ))} → TypeRoom nothing_new bs
  as_item : {bs : List (List (List ℕ))} → length (innermost bs) < items_most → TypeRoom an_item bs

-- Areas before and after: nodes in a and then a', uses in b and then b'.
module _ (s a b a' b' : List ℕ) where
  -- the type x was read at t: its tokens stand first in ts, and it is kept in the areas
  pub record PastType (t : Taken) (ts : List Token) (K : Stack) (nx : Begins) (ns : List (List ℕ)) (bs : List (List (List ℕ))) (x : Ty) (v : ℕ) (c : Cursor) : Type 0 where
    pub written : symbols ts ≡ write_type x (symbols (tokens_behind s c.at))
    pub reached : Reached s (tokens_behind s c.at) K (counted nothing_new c.nodes ns (entries_after nx (first_spelled ts) bs))
    pub link : v ≡ raw x t.next.nodes t.next.uses
    pub nodes : c.nodes ≡ behind x t.next.nodes
    pub uses : c.uses ≡ used x t.next.uses
    pub stored : Stored a' b' x t.next.nodes t.next.uses
    pub kept : Kept a a' (t.next.nodes * room)
    pub kept_uses : Kept b b' t.next.uses

  pub data TypeGot (t : Taken) (ts : List Token) (K : Stack) (nx : Begins) (ns : List (List ℕ)) (bs : List (List (List ℕ))) : Got → Type 0 where
    refused : {no : Refusal} → Refuses s (number no.kind) no.place → TypeGot t ts K nx ns bs (Err no)
    past : {v : ℕ} {c : Cursor} (x : Ty) → PastType t ts K nx ns bs x v c → TypeGot t ts K nx ns bs (got v c)

  pub record TypeRead (t : Taken) (deep : ℕ) (r : Got) : Type 0 where
    pub told :
        (ts : List Token) (e : Expect) (J K : Stack) (nx : Begins) (ns : List (List ℕ)) (bs : List (List (List ℕ)))
        → Ahead s t ts → Acts (e ∷ J) (expect.a_type ∷ K) ts → Reached s ts (e ∷ J) (counted nx t.next.nodes ns bs) → TypeRoom nx bs
        → length bs ≡ deep → TypeGot t ts K nx ns bs r

  -- A list was read: what is left of it at the cursor c, of which the numbers `cells` stand from `from` on in the room of its node that ends at
  -- `to`; `k` and `u` count the nodes and uses before it, `k'` and `u'` those behind it.
  pub record PastList (K : Stack) (ns : List (List ℕ)) (bs : List (List (List ℕ))) (k u k' u' from to : ℕ) (cells : List ℕ) (Store : Type 0) (c : Cursor) : Type 0 where
    pub reached : Reached s (tokens_behind s c.at) K (counted nothing_new c.nodes ns bs)
    pub nodes : c.nodes ≡ k'
    pub uses : c.uses ≡ u'
    pub holds : Holds a' from cells
    pub stored : Store
    pub kept : KeptBut a a' from to (k * room)
    pub kept_uses : Kept b b' u

  abbrev pub PastItems : Stack → List (List ℕ) → List (List (List ℕ)) → ℕ → ℕ → ℕ → ℕ → Items → Cursor → Type 0
  PastItems K ns bs k u node n xs c =
      PastList K ns bs k u (behind_items xs k) (used_items xs u) (node * room + list_from + n) (node * room + room) (raw_items xs k u)
      (StoredItems a' b' xs k u) c

  -- the tokens that were read are the items xs, and what closes them
  pub data ItemsGot (Wrote : Items → List Symbol → Type 0) (K : Stack) (ns : List (List ℕ)) (bs : List (List (List ℕ))) (k u node n : ℕ) : Got → Type 0 where
    refused : {no : Refusal} → Refuses s (number no.kind) no.place → ItemsGot Wrote K ns bs k u node n (Err no)
    past :
        {v : ℕ} {c : Cursor} (xs : Items) → Wrote xs (symbols (tokens_behind s c.at)) → v ≡ n + items_long xs → v ≤ items_most
        → PastItems K ns bs k u node n xs c → ItemsGot Wrote K ns bs k u node n (got v c)

  -- the items of the node, behind its opening bracket
  pub record ItemsRead (d : Way) (c : Cursor) (deep node : ℕ) (r : Got) : Type 0 where
    pub told :
        (K : Stack) (ns : List (List ℕ)) (bs : List (List (List ℕ)))
        → Reached s (tokens_behind s c.at) (expect.some_items d ∷ K) (counted an_item c.nodes ns ([] ∷ bs)) → suc (length bs) ≡ deep
        → ItemsGot (λ xs k. symbols (tokens_behind s c.at) ≡ write_items d xs k) K ns bs c.nodes c.uses node 0 r

  -- one item, the first of the tokens ts: its number `cell` stands behind n others, and those behind it may follow
  abbrev pub PastItem : Way → List Token → Stack → List (List ℕ) → List (List ℕ) → List (List (List ℕ)) → ℕ → ℕ → ℕ → ℕ → ℕ → ℕ → ℕ → Type 0 → Cursor → Type 0
  PastItem d ts K ns es bs k u node n k' u' cell Store c =
      PastList (expect.more_items d ∷ K) ns ((first_spelled ts ∷ es) ∷ bs) k u k' u' (node * room + list_from + n) (node * room + room) (cell ∷ [])
      Store c

  pub data ItemGot (d : Way) (ts : List Token) (K : Stack) (ns es : List (List ℕ)) (bs : List (List (List ℕ))) (k u node n : ℕ) : Moved → Type 0 where
    refused : {no : Refusal} → Refuses s (number no.kind) no.place → ItemGot d ts K ns es bs k u node n (Err no)
    past_sort :
        {c : Cursor} (y : Sort) → symbols ts ≡ reserved_word (sort_position y) ∷ symbols (tokens_behind s c.at)
        → PastItem d ts K ns es bs k u node n k u (sort_number y) (Unit {0}) c → ItemGot d ts K ns es bs k u node n (Ok c)
    past_session :
        {c : Cursor} (x : Ty) → symbols ts ≡ write_type x (symbols (tokens_behind s c.at))
        → PastItem d ts K ns es bs k u node n (behind x k) (used x u) (a_session + raw x k u) (Stored a' b' x k u) c
        → ItemGot d ts K ns es bs k u node n (Ok c)

  pub record ItemRead (t : Taken) (deep node n : ℕ) (r : Moved) : Type 0 where
    pub few : {c : Cursor} → r ≡ Ok c → n < items_most
    pub told :
        (d : Way) (ts : List Token) (e : Expect) (J K : Stack) (ns es : List (List ℕ)) (bs : List (List (List ℕ)))
        → Ahead s t ts → Acts (e ∷ J) (expect.an_item d ∷ K) ts
        → Reached s ts (e ∷ J) (counted an_item t.next.nodes ns (es ∷ bs)) → length es ≡ n → suc (length bs) ≡ deep
        → ItemGot d ts K ns es bs t.next.nodes t.next.uses node n r

  abbrev pub PastLabels : Stack → List (List ℕ) → List (List (List ℕ)) → ℕ → ℕ → ℕ → ℕ → Labels → Cursor → Type 0
  PastLabels K ns bs k u node n ls c =
      PastList K ns bs k u (behind_labels ls k) (used_labels ls u) (node * room + list_from + n * row) (node * room + room)
      (raw_labels ls k u) (StoredLabels a' b' ls k u) c

  pub data LabelsGot (ts : List Token) (K : Stack) (ns : List (List ℕ)) (bs : List (List (List ℕ))) (k u node n : ℕ) : Got → Type 0 where
    refused : {no : Refusal} → Refuses s (number no.kind) no.place → LabelsGot ts K ns bs k u node n (Err no)
    past :
        {v : ℕ} {c : Cursor} (ls : Labels) → symbols ts ≡ write_labels ls (symbols (tokens_behind s c.at)) → v ≡ n + labels_long ls
        → v ≤ labels_most → PastLabels K ns bs k u node n ls c → LabelsGot ts K ns bs k u node n (got v c)

  -- the labels of the node, behind its opening brace
  pub record LabelsRead (c : Cursor) (deep node : ℕ) (r : Got) : Type 0 where
    pub told :
        (K : Stack) (ns : List (List ℕ)) (bs : List (List (List ℕ)))
        → Reached s (tokens_behind s c.at) (expect.a_label ∷ K) (counted a_label c.nodes ns ([] ∷ bs)) → suc (length bs) ≡ deep
        → LabelsGot (tokens_behind s c.at) K ns bs c.nodes c.uses node 0 r

  -- one label, which is w and has the type x: its row stands behind n others, and those behind it may follow
  abbrev pub PastLabel : Stack → List (List ℕ) → List (List (List ℕ)) → ℕ → ℕ → ℕ → ℕ → Token → Ty → Cursor → Type 0
  PastLabel K ns bs k u node n w x c =
      PastList (expect.more_labels ∷ K) ns (words_of s a' (node * room + list_from) (n + 1) ∷ bs) k u (behind x k) (used x u)
      (node * room + list_from + n * row) (node * room + room) (raw_row w x k u []) (Stored a' b' x k u) c

  pub data LabelGot (ts : List Token) (K : Stack) (ns : List (List ℕ)) (bs : List (List (List ℕ))) (k u node n : ℕ) : Moved → Type 0 where
    refused : {no : Refusal} → Refuses s (number no.kind) no.place → LabelGot ts K ns bs k u node n (Err no)
    past :
        {c : Cursor} (w : Token) (x : Ty) → symbols ts ≡ word w ∷ sign ":" ∷ write_type x (symbols (tokens_behind s c.at))
        → PastLabel K ns bs k u node n w x c → LabelGot ts K ns bs k u node n (Ok c)

  pub record LabelRead (t : Taken) (deep node n : ℕ) (r : Moved) : Type 0 where
    pub few : {c : Cursor} → r ≡ Ok c → n < labels_most
    pub told :
        (ts : List Token) (K : Stack) (ns : List (List ℕ)) (bs : List (List (List ℕ)))
        → Ahead s t ts
        → Reached s ts (expect.a_label ∷ K) (counted a_label t.next.nodes ns (words_of s a (node * room + list_from) n ∷ bs))
        → suc (length bs) ≡ deep → LabelGot ts K ns bs t.next.nodes t.next.uses node n r

-- the byte of a message's sign, and of a choice's
abbrev pub message_byte : Way → ℕ
message_byte into = code "?"
message_byte out = code "!"

abbrev pub choice_byte : Way → ℕ
choice_byte into = code "&"
choice_byte out = code "+"

-- t is the sign of a message of that kind, and of a choice of it
pub record MessageSign (t : Taken) (k : Kind) : Type 0 where
  pub way : Way
  pub byte : kind_of t ≡ message_byte way
  pub kind : k ≡ message_kind way

pub record ChoiceSign (t : Taken) (k : Kind) : Type 0 where
  pub way : Way
  pub byte : kind_of t ≡ choice_byte way
  pub kind : k ≡ choice_kind way

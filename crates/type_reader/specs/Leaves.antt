-- What each step of the readers answers, by the token that it takes: one case for each answer.
-- Assumes nothing.
use Rattle.std.specs.Prelude.{Bool, true, false, List, ◌≡◌, ℕ, ◌+◌, ◌-◌, ◌*◌, ◌<◌, ◌≤◌, eqb, leb, ltb, set, Option, Some, None, Result, Ok, Err}
use Prim.Native.Char.{code}
use Rattle.rules.specs.Basics.{part, same}
use Rattle.rules.specs.Words.{word_most}
use Rattle.rules.specs.Numbers.{text_nodes_most, labels_most, items_most, brackets_most}
use Rattle.rules.specs.Replies.{refusal}
use Rattle.cursor.specs.Takes.{Takes, reserved_kind, word_kind, end_kind, kind_of}
use Rattle.cursor.specs.declared.Cursor.{Cursor}
use Rattle.cursor.specs.declared.Taken.{Taken}
use Rattle.flat.specs.Flat.{word_of, stored_row, room, list_from, row, a_use, end_number, sort_number}
use Rattle.table.specs.declared.Sort.{Sort}
use Rattle.table.specs.declared.answers.Refusal.{Refusal}
use Rattle.table.specs.declared.answers.RefusalKind.TheVariants as kind
use Rattle.type_reader.specs.declared.Past.{Past}

-- What is answered: a value and the cursor behind what was read, the cursor alone, or a refusal.
abbrev pub Got : Type 0
Got = Result Past Refusal

abbrev pub Moved : Type 0
Moved = Result Cursor Refusal

abbrev pub got : ℕ → Cursor → Got
got v c = Ok (record { value = v; next = c })

-- the symbol of the number b
pub data Signed (s : List ℕ) (c : Cursor) (b : ℕ) : Moved → Type 0 where
  signed : {t : Taken} → Takes s c t → kind_of t ≡ b → Signed s c b (Ok t.next)
  not_signed : {t : Taken} → Takes s c t → (kind_of t ≡ b → ⊥) → Signed s c b (Err (refusal kind.Unexpected t.at))

-- the opening bracket b, where `deep` are open
pub data Opened (s : List ℕ) (c : Cursor) (b deep : ℕ) : Moved → Type 0 where
  opened : {t : Taken} → Takes s c t → kind_of t ≡ b → deep < brackets_most → Opened s c b deep (Ok t.next)
  too_deep : {t : Taken} → Takes s c t → kind_of t ≡ b → brackets_most ≤ deep → Opened s c b deep (Err (refusal kind.BracketTooMany t.at))
  not_opened : {t : Taken} → Takes s c t → (kind_of t ≡ b → ⊥) → Opened s c b deep (Err (refusal kind.Unexpected t.at))

-- the cursor behind a token that begins a node, and behind a use
abbrev pub behind_node : Cursor → Cursor
behind_node c = record { at = c.at; nodes = c.nodes + 1; uses = c.uses }

abbrev pub behind_use : Cursor → Cursor
behind_use c = record { at = c.at; nodes = c.nodes; uses = c.uses + 1 }

pub data Begun (t : Taken) : Got → Type 0 where
  begun : t.next.nodes < text_nodes_most → Begun t (got t.next.nodes (behind_node t.next))
  not_begun : text_nodes_most ≤ t.next.nodes → Begun t (Err (refusal kind.OneTooMany t.at))

-- the node whose sign is t, and its opening bracket b, where `deep` are open: the cursor is behind the bracket
pub data NodeOpened (s : List ℕ) (t : Taken) (b deep : ℕ) : Got → Type 0 where
  node_opened :
      {c : Cursor} → t.next.nodes < text_nodes_most → Opened s (behind_node t.next) b deep (Ok c)
      → NodeOpened s t b deep (got t.next.nodes c)
  node_too_many : text_nodes_most ≤ t.next.nodes → NodeOpened s t b deep (Err (refusal kind.OneTooMany t.at))
  node_not_opened :
      {no : Refusal} → t.next.nodes < text_nodes_most → Opened s (behind_node t.next) b deep (Err no) → NodeOpened s t b deep (Err no)

-- a name where a type stands; b and after are the area of the uses
pub data Used (t : Taken) (b after : List ℕ) : Got → Type 0 where
  used_name : t.len ≤ word_most → after ≡ set b t.next.uses t.at → Used t b after (got (a_use + t.next.uses) (behind_use t.next))
  long_name : word_most < t.len → Used t b after (Err (refusal kind.WordTooLong t.at))

-- a node's kind, its count and its continuation
abbrev pub stored_head : List ℕ → ℕ → ℕ → ℕ → ℕ → List ℕ
stored_head a node kind n link = set (set (set a (node * room) kind) (node * room + 1) n) (node * room + 2) link

pub data Ended (t : Taken) (a after : List ℕ) : Got → Type 0 where
  ended :
      t.next.nodes < text_nodes_most → after ≡ stored_head a t.next.nodes end_number 0 0
      → Ended t a after (got t.next.nodes (behind_node t.next))
  not_ended : text_nodes_most ≤ t.next.nodes → Ended t a after (Err (refusal kind.OneTooMany t.at))

-- the bytes with which a type begins
unfoldable pub begins_type : ℕ → Bool
begins_type k =
    elim (eqb k (code "?")) [
      | true ↦ true
      | false ↦ elim (eqb k (code "!")) [ true ↦ true | false ↦ elim (eqb k (code "&")) [ true ↦ true | false ↦ eqb k (code "+") ] ]
    ]

unfoldable pub begins_item : ℕ → Bool
begins_item k = elim (ltb k reserved_kind) [ true ↦ begins_type k | false ↦ ltb k end_kind ]

-- "the four reserved words other than `end`"
unfoldable pub is_sort : ℕ → Bool
is_sort k = elim (leb k reserved_kind) [ true ↦ false | false ↦ ltb k word_kind ]

-- what the item is that begins at t, behind n others: the sort of its word, or a type
pub data ItemBegun (t : Taken) (n : ℕ) : Result (Option Sort) Refusal → Type 0 where
  no_item : begins_item (kind_of t) ≡ false → ItemBegun t n (Err (refusal kind.Unexpected t.at))
  long_item : begins_item (kind_of t) ≡ true → word_most < t.len → ItemBegun t n (Err (refusal kind.WordTooLong t.at))
  item_too_many : begins_item (kind_of t) ≡ true → t.len ≤ word_most → items_most ≤ n → ItemBegun t n (Err (refusal kind.OneTooMany t.at))
  a_sort :
      {x : Sort} → t.len ≤ word_most → n < items_most → is_sort (kind_of t) ≡ true → kind_of t - reserved_kind - 1 ≡ sort_number x
      → ItemBegun t n (Ok (Some x))
  a_type :
      begins_item (kind_of t) ≡ true → t.len ≤ word_most → n < items_most → is_sort (kind_of t) ≡ false → ItemBegun t n (Ok None)

-- whether row j of those from i on in the area a is the word t
abbrev pub word_at : List ℕ → List ℕ → ℕ → ℕ → Taken → Bool
word_at s a i j t = same (word_of s a i j) (part s t.at t.len)

-- the label t, behind n others whose rows stand in the area a from i on
pub data Labelled (s a : List ℕ) (i : ℕ) (t : Taken) (n : ℕ) : Moved → Type 0 where
  no_label : (kind_of t ≡ word_kind → ⊥) → Labelled s a i t n (Err (refusal kind.Unexpected t.at))
  long_label : kind_of t ≡ word_kind → word_most < t.len → Labelled s a i t n (Err (refusal kind.WordTooLong t.at))
  label_too_many : kind_of t ≡ word_kind → t.len ≤ word_most → labels_most ≤ n → Labelled s a i t n (Err (refusal kind.OneTooMany t.at))
  label_twice :
      kind_of t ≡ word_kind → t.len ≤ word_most → n < labels_most
      → (j : ℕ) → j < n → word_at s a i j t ≡ true → Labelled s a i t n (Err (refusal kind.LabelTwice t.at))
  labelled :
      kind_of t ≡ word_kind → t.len ≤ word_most → n < labels_most → ((j : ℕ) → j < n → word_at s a i j t ≡ false)
      → Labelled s a i t n (Ok t.next)

abbrev pub stored_label : List ℕ → ℕ → ℕ → Taken → ℕ → List ℕ
stored_label a node n t link = stored_row a (node * room + list_from + n * row) t.at t.len link

-- How a tree is kept as plain numbers in two areas: a room of 64 numbers for each node, and the place of each use of a name.
-- Assumes nothing.
use Rattle.std.specs.Prelude.{List, [], ◌∷◌, ◌++◌, ◌⊎◌, ◌≡◌, ℕ, zero, suc, ◌+◌, ◌*◌, ◌<◌, ◌≤◌, length, get_or, set}
use Rattle.rules.specs.Basics.{part, same, first}
use Rattle.rules.specs.Tokens.{Token, tokens}
use Rattle.rules.specs.Notation.{Way, into, out, Ty, ended, name, message, choice, Items, no_items, sort, session, Labels, last_label, label, Text, last_definition, definition}
use Rattle.rules.specs.Notation.{Writes}
use Rattle.rules.specs.Numbers.{text_most, definitions_most, text_nodes_most, labels_most, items_most}
use Rattle.rules.specs.Numbering.{behind, behind_items, behind_text, to_name, definition_count, follow, or_zero, link, start_type}
use Rattle.rules.specs.Refusals.{unseen, used_names}
use Rattle.rules.proofs.Reached.{Clear}
use Rattle.table.specs.declared.Sort.{Sort}
use Rattle.table.specs.declared.Sort.TheVariants.{String, Float, Boolean, Void}

-- a node's room, where its list begins in it, and a row: a label's, or a definition's, place, length and link
abbrev pub room : ℕ
room = 64

abbrev pub list_from : ℕ
list_from = 3

abbrev pub row : ℕ
row = 3

-- the number of the next use behind a tree, if u is that of the next use at its beginning
abbrev mutual
  pub used : Ty → ℕ → ℕ
  used ended u = u
  used (name w) u = u + 1
  used (message d xs x) u = used x (used_items xs u)
  used (choice d ls) u = used_labels ls u

  pub used_items : Items → ℕ → ℕ
  used_items no_items u = u
  used_items (sort s xs) u = used_items xs u
  used_items (session x xs) u = used_items xs (used x u)

  pub used_labels : Labels → ℕ → ℕ
  used_labels (last_label w x) u = used x u
  used_labels (label w x ls) u = used_labels ls (used x u)

abbrev pub used_text : Text → ℕ → ℕ
used_text (last_definition w x) u = used x u
used_text (definition w x ds) u = used_text ds (used x u)

-- a link: a node's number, or 64 and the number of a use
abbrev pub a_use : ℕ
a_use = 64

abbrev pub raw : Ty → ℕ → ℕ → ℕ
raw ended k u = k
raw (name w) k u = a_use + u
raw (message d xs x) k u = k
raw (choice d ls) k u = k

-- an item: a sort's number, or 4 and a link
abbrev pub a_session : ℕ
a_session = 4

abbrev pub sort_number : Sort → ℕ
sort_number String = 0
sort_number Float = 1
sort_number Boolean = 2
sort_number Void = 3

abbrev pub raw_items : Items → ℕ → ℕ → List ℕ
raw_items no_items k u = []
raw_items (sort s xs) k u = sort_number s ∷ raw_items xs k u
raw_items (session x xs) k u = (a_session + raw x k u) ∷ raw_items xs (behind x k) (used x u)

-- the row of a label or a definition, and those behind it
abbrev pub raw_row : Token → Ty → ℕ → ℕ → List ℕ → List ℕ
raw_row w x k u ns = w.at ∷ length w.spelled ∷ raw x k u ∷ ns

abbrev pub raw_labels : Labels → ℕ → ℕ → List ℕ
raw_labels (last_label w x) k u = raw_row w x k u []
raw_labels (label w x ls) k u = raw_row w x k u (raw_labels ls (behind x k) (used x u))

abbrev pub raw_text : Text → ℕ → ℕ → List ℕ
raw_text (last_definition w x) k u = raw_row w x k u []
raw_text (definition w x ds) k u = raw_row w x k u (raw_text ds (behind x k) (used x u))

abbrev pub items_long : Items → ℕ
items_long no_items = 0
items_long (sort s xs) = 1 + items_long xs
items_long (session x xs) = 1 + items_long xs

abbrev pub labels_long : Labels → ℕ
labels_long (last_label w x) = 1
labels_long (label w x ls) = 1 + labels_long ls

-- the kinds, in the order of the crate `table`
abbrev pub end_number : ℕ
end_number = 0

abbrev pub message_number : Way → ℕ
message_number into = 1
message_number out = 2

abbrev pub choice_number : Way → ℕ
choice_number into = 3
choice_number out = 4

-- the numbers xs stand in the area a from i on
pub record Holds (a : List ℕ) (i : ℕ) (xs : List ℕ) : Type 0 where
  pub each : (j : ℕ) → j < length xs → get_or a (i + j) 0 ≡ get_or xs j 0

-- a tree whose first node is number k and whose first use is number u stands in the areas: nodes in a, uses in b
module _ (a b : List ℕ) where
  abbrev mutual
    pub Stored : Ty → ℕ → ℕ → Type 0
    Stored ended k u = Holds a (k * room) (end_number ∷ [])
    Stored (name w) k u = Holds b u (w.at ∷ [])
    Stored (message d xs x) k u =
        Holds a (k * room) (message_number d ∷ items_long xs ∷ raw x (behind_items xs (suc k)) (used_items xs u) ∷ [])
        × Holds a (k * room + list_from) (raw_items xs (suc k) u) × (items_long xs ≤ items_most) × StoredItems xs (suc k) u
        × Stored x (behind_items xs (suc k)) (used_items xs u)
    Stored (choice d ls) k u =
        Holds a (k * room) (choice_number d ∷ labels_long ls ∷ []) × Holds a (k * room + list_from) (raw_labels ls (suc k) u)
        × (labels_long ls ≤ labels_most) × StoredLabels ls (suc k) u

    pub StoredItems : Items → ℕ → ℕ → Type 0
    StoredItems no_items k u = Unit {0}
    StoredItems (sort s xs) k u = StoredItems xs k u
    StoredItems (session x xs) k u = Stored x k u × StoredItems xs (behind x k) (used x u)

    pub StoredLabels : Labels → ℕ → ℕ → Type 0
    StoredLabels (last_label w x) k u = Stored x k u
    StoredLabels (label w x ls) k u = Stored x k u × StoredLabels ls (behind x k) (used x u)

  abbrev pub StoredText : Text → ℕ → ℕ → Type 0
  StoredText (last_definition w x) k u = Stored x k u
  StoredText (definition w x ds) k u = Stored x k u × StoredText ds (behind x k) (used x u)

-- what an area has below n stays
pub record Kept (a b : List ℕ) (n : ℕ) : Type 0 where
  pub each : (i : ℕ) → i < n → get_or b i 0 ≡ get_or a i 0

-- and so it does but for what stands from `from` to `to`
pub record KeptBut (a b : List ℕ) (from to n : ℕ) : Type 0 where
  pub each : (i : ℕ) → i < n → (i < from) ⊎ (to ≤ i) → get_or b i 0 ≡ get_or a i 0

-- the word of row n, of the rows from i on, and of n rows all, the last first
abbrev pub word_of : List ℕ → List ℕ → ℕ → ℕ → List ℕ
word_of s a i n = part s (get_or a (i + n * row) 0) (get_or a (i + n * row + 1) 0)

abbrev pub words_of : List ℕ → List ℕ → ℕ → ℕ → List (List ℕ)
words_of s a i zero = []
words_of s a i (suc n) = word_of s a i n ∷ words_of s a i n

-- a row, written
abbrev pub stored_row : List ℕ → ℕ → ℕ → ℕ → ℕ → List ℕ
stored_row a i at long link = set (set (set a i at) (i + 1) long) (i + 2) link

-- of n words in rows, the first that is w
unfoldable pub word_found : List ℕ → List ℕ → ℕ → List ℕ → ℕ
word_found s rows n w = first n (λ i. same (part s (get_or rows (i * row) 0) (get_or rows (i * row + 1) 0)) w)

-- The text x of the bytes s has been read: no refusal from 1 to 7 applies, and its tree stands in the areas, nodes in a, uses in b, and
-- the rows of its n definitions in d.
pub record Parsed (s a b d : List ℕ) (n nodes uses : ℕ) (x : Text) : Type 0 where
  pub short : length s ≤ text_most
  pub writes : Writes s x
  pub clear : Clear unseen (tokens s)
  pub definitions : n ≡ definition_count x
  pub few_definitions : n ≤ definitions_most
  pub node_count : nodes ≡ behind_text x 0
  pub few_nodes : nodes ≤ text_nodes_most
  pub use_count : uses ≡ used_text x 0
  pub few_uses : uses ≤ text_most
  pub rows : Holds d 0 (raw_text x 0 0)
  pub stored : StoredText a b x 0 0

-- The names of the text x have been followed: each use, by its number, to the definition that it names, and each definition to the node that
-- it leads to.
pub record Resolved (x : Text) (owners ends : List ℕ) : Type 0 where
  pub within : (i : ℕ) → get_or owners i 0 < definitions_most
  pub each :
      (before after : List Token) (w : Token) → used_names x ≡ before ++ (w ∷ after)
      → get_or ends (get_or owners (length before) 0) 0 ≡ or_zero (follow x (definition_count x) (to_name w.spelled))
  pub first : get_or ends 0 0 ≡ link x (start_type x) 0

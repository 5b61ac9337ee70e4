-- A text has one tree: what is written tells the tree and what is written behind it. A first symbol tells which type or which sort begins,
-- so two trees that are written alike are alike at their roots; below, by induction on both.
-- Assumes nothing.
use mathlib.Core.Bool.{true, false}
use mathlib.Core.List.{List, [], ◌∷◌}
use mathlib.Core.Path.{◌≡◌, refl}
use Prim.Native.Char.{code}
use Prim.Native.Nat.{ℕ}
use native.Mathlib.Omega.{arith}
use lib.Dec.{eqb}
use lib.ListN.{get_or}
use Rattle.rules.specs.Basics.{bytes, first}
use Rattle.rules.specs.Tokens.{Symbol, word, reserved_word, one_byte}
use Rattle.rules.specs.Notation.{Way, into, out, Ty, ended, name, message, choice, Items, no_items, sort, session, Labels, last_label, label, Text, last_definition, definition, sign, write_type, parted, write_items, write_labels, write_text, Writes}
use Rattle.rules.specs.Refusals.{one_of}
use Rattle.table.specs.declared.Sort.{Sort}
use Rattle.table.specs.declared.Sort.TheVariants.{String, Float, Boolean, Void}

-- which type a tree is at its root
data Root : Type 0 where
  an_end a_name : Root
  a_message a_choice : Way → Root

abbrev root : Ty → Root
root ended = an_end
root (name w) = a_name
root (message d xs x) = a_message d
root (choice d ls) = a_choice d

-- what a first symbol tells: which type starts, or which sort, or neither
data Start : Type 0 where
  a_type : Root → Start
  a_sort : Sort → Start
  neither : Start

abbrev tells : List Symbol → Start
tells [] = neither
tells (word w ∷ k) = a_type a_name
tells (reserved_word i ∷ k) = get_or (a_type an_end ∷ a_sort String ∷ a_sort Float ∷ a_sort Boolean ∷ a_sort Void ∷ []) i neither
tells (one_byte b ∷ k) =
    get_or (a_type (a_message into) ∷ a_type (a_message out) ∷ a_type (a_choice into) ∷ a_type (a_choice out) ∷ [])
    (first 4 (λ i. eqb b (get_or (bytes "?!&+") i 0))) neither

type_tells : (x : Ty) (k : List Symbol) → tells (write_type x k) ≡ a_type (root x)
unfolding first
type_tells ended k = refl
type_tells (name w) k = refl
type_tells (message into xs x) k = refl
type_tells (message out xs x) k = refl
type_tells (choice into ls) k = refl
type_tells (choice out ls) k = refl

abbrev starts : Items → Start
starts no_items = neither
starts (sort s xs) = a_sort s
starts (session x xs) = a_type (root x)

items_tell : (d : Way) (xs : Items) (k : List Symbol) → tells (write_items d xs k) ≡ starts xs
unfolding first
items_tell into no_items k = refl
items_tell out no_items k = refl
items_tell d (sort String xs) k = refl
items_tell d (sort Float xs) k = refl
items_tell d (sort Boolean xs) k = refl
items_tell d (sort Void xs) k = refl
items_tell d (session x xs) k = type_tells x (parted xs (write_items d xs k))

-- the items behind a first one are written as a list's items are, but for a comma in front
abbrev past_comma : List Symbol → List Symbol
past_comma [] = []
past_comma (s ∷ k) = elim (one_of (bytes ",") s) [ true ↦ k | false ↦ s ∷ k ]

rest_items : (d : Way) (xs : Items) (k : List Symbol) → past_comma (parted xs (write_items d xs k)) ≡ write_items d xs k
unfolding first one_of
rest_items into no_items k = refl
rest_items out no_items k = refl
rest_items d (sort s xs) k = refl
rest_items d (session x xs) k = refl

rest_same :
    (d : Way) (xs ys : Items) (k l : List Symbol) → parted xs (write_items d xs k) ≡ parted ys (write_items d ys l)
    → write_items d xs k ≡ write_items d ys l
rest_same d xs ys k l h = cc (rest_items d xs k, rest_items d ys l)

-- a tree, and what is written behind it
data Written (A : Type 0) : Type 0 where
  before : A → List Symbol → Written A

mutual
  type_same : (x y : Ty) (k l : List Symbol) → write_type x k ≡ write_type y l → before x k ≡ before y l
  type_same ended ended k l h = cc
  type_same ended (name v) k l h = cc
  type_same ended (message e ys y) k l h = cc (type_tells (message e ys y) l)
  type_same ended (choice e ms) k l h = cc (type_tells (choice e ms) l)
  type_same (name w) ended k l h = cc
  type_same (name w) (name v) k l h = cc
  type_same (name w) (message e ys y) k l h = cc (type_tells (message e ys y) l)
  type_same (name w) (choice e ms) k l h = cc (type_tells (choice e ms) l)
  type_same (message d xs x) ended k l h = cc (type_tells (message d xs x) k)
  type_same (message d xs x) (name v) k l h = cc (type_tells (message d xs x) k)
  type_same (message d xs x) (message e ys y) k l h =
      let p : d ≡ e = cc (type_tells (message d xs x) k, type_tells (message e ys y) l) in
      let q = items_same xs ys d (sign ";" ∷ write_type x k) (sign ";" ∷ write_type y l) (cc) in
      let r = type_same x y k l (cc) in
      cc
  type_same (message d xs x) (choice e ms) k l h = cc (type_tells (message d xs x) k, type_tells (choice e ms) l)
  type_same (choice d ls) ended k l h = cc (type_tells (choice d ls) k)
  type_same (choice d ls) (name v) k l h = cc (type_tells (choice d ls) k)
  type_same (choice d ls) (message e ys y) k l h = cc (type_tells (choice d ls) k, type_tells (message e ys y) l)
  type_same (choice d ls) (choice e ms) k l h =
      let p : d ≡ e = cc (type_tells (choice d ls) k, type_tells (choice e ms) l) in
      let q = labels_same ls ms k l (cc) in
      cc

  items_same : (xs ys : Items) (d : Way) (k l : List Symbol) → write_items d xs k ≡ write_items d ys l → before xs k ≡ before ys l
  items_same no_items no_items d k l h = cc
  items_same no_items (sort t ys) d k l h = cc (items_tell d no_items k, items_tell d (sort t ys) l)
  items_same no_items (session y ys) d k l h = cc (items_tell d no_items k, items_tell d (session y ys) l)
  items_same (sort s xs) no_items d k l h = cc (items_tell d (sort s xs) k, items_tell d no_items l)
  items_same (sort s xs) (sort t ys) d k l h =
      let p : s ≡ t = cc (items_tell d (sort s xs) k, items_tell d (sort t ys) l) in
      let q = items_same xs ys d k l (rest_same d xs ys k l (cc)) in
      cc
  items_same (sort s xs) (session y ys) d k l h = cc (items_tell d (sort s xs) k, items_tell d (session y ys) l)
  items_same (session x xs) no_items d k l h = cc (items_tell d (session x xs) k, items_tell d no_items l)
  items_same (session x xs) (sort t ys) d k l h = cc (items_tell d (session x xs) k, items_tell d (sort t ys) l)
  items_same (session x xs) (session y ys) d k l h =
      let p = type_same x y (parted xs (write_items d xs k)) (parted ys (write_items d ys l)) h in
      let q = items_same xs ys d k l (rest_same d xs ys k l (cc)) in
      cc

  labels_same : (ls ms : Labels) (k l : List Symbol) → write_labels ls k ≡ write_labels ms l → before ls k ≡ before ms l
  labels_same (last_label w x) (last_label v y) k l h = let p = type_same x y (sign "}" ∷ k) (sign "}" ∷ l) (cc) in cc
  labels_same (last_label w x) (label v y ms) k l h =
      let p = type_same x y (sign "}" ∷ k) (sign "|" ∷ write_labels ms l) (cc) in
      let q : code "}" ≡ code "|" = cc in
      absurd (omega arith)
  labels_same (label w x ls) (last_label v y) k l h =
      let p = type_same x y (sign "|" ∷ write_labels ls k) (sign "}" ∷ l) (cc) in
      let q : code "|" ≡ code "}" = cc in
      absurd (omega arith)
  labels_same (label w x ls) (label v y ms) k l h =
      let p = type_same x y (sign "|" ∷ write_labels ls k) (sign "|" ∷ write_labels ms l) (cc) in
      let q = labels_same ls ms k l (cc) in
      cc

text_tells : (x : Text) → tells (write_text x) ≡ a_type a_name
text_tells (last_definition w x) = refl
text_tells (definition w x ds) = refl

text_same : (x y : Text) → write_text x ≡ write_text y → x ≡ y
text_same (last_definition w x) (last_definition v y) h = let p = type_same x y (sign "." ∷ []) (sign "." ∷ []) (cc) in cc
text_same (last_definition w x) (definition v y es) h =
    let p = type_same x y (sign "." ∷ []) (sign "." ∷ write_text es) (cc) in
    cc (text_tells es)
text_same (definition w x ds) (last_definition v y) h =
    let p = type_same x y (sign "." ∷ write_text ds) (sign "." ∷ []) (cc) in
    cc (text_tells ds)
text_same (definition w x ds) (definition v y es) h =
    let p = type_same x y (sign "." ∷ write_text ds) (sign "." ∷ write_text es) (cc) in
    let q = text_same ds es (cc) in
    cc

pub one_tree : {s : List ℕ} {x y : Text} → Writes s x → Writes s y → x ≡ y
one_tree {x} {y} v w = text_same x y (cc)

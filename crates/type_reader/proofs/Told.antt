-- What each function of the cycle of readers tells, from what the functions that it calls tell: the laws of the files beside this one, over
-- answers as they come.
-- Assumes nothing.
use mathlib.Core.List.{List}
use mathlib.Core.Path.{◌≡◌}
use Prim.Native.Char.{code}
use Prim.Native.Nat.{ℕ, ◌+◌, ◌*◌, ◌<◌, ◌≤◌}
use lib.ListN.{length, set}
use Rattle.rules.specs.Notation.{Way}
use Rattle.rules.specs.Numbers.{text_most, text_nodes_most}
use Rattle.rules.proofs.Machine.{open_byte, close_byte}
use Rattle.cursor.specs.Takes.{Takes, kind_of}
use Rattle.cursor.specs.declared.Cursor.{Cursor}
use Rattle.cursor.specs.declared.Taken.{Taken}
use Rattle.flat.specs.Flat.{room, list_from, a_session, sort_number, message_number, choice_number}
use Rattle.type_reader.specs.declared.Past.{Past}
use Rattle.type_reader.specs.Leaves.{Moved, got, Signed, Opened, NodeOpened, ItemBegun, Labelled, behind_node, stored_head, stored_label}
use Rattle.type_reader.specs.Answers.{TokenReady, TypeRead, ItemsRead, ItemRead, LabelRead, LabelsRead, message_byte, choice_byte}
use Rattle.std.specs.Prelude.{Option, Some, None, Ok, Err}
use Rattle.table.specs.declared.Sort.{Sort}
use Rattle.table.specs.declared.answers.Refusal.{Refusal}
use Rattle.type_reader.proofs.Messages.{message_unopened, message_items_refused, message_semicolon_refused, message_type_refused, message_done}
use Rattle.type_reader.proofs.Choices.{choice_unopened, choice_labels_refused, choice_done}
use Rattle.type_reader.proofs.Items.{item_refused, item_sort, item_type_refused, item_type}
use Rattle.type_reader.proofs.Labelled.{fresh_label, label-refused, label_colon_refused, label_type_refused, label_done}
use Rattle.type_reader.proofs.Safe.{node_now, sort_is, type_is}

opens :
    {s : List ℕ} {t : Taken} {o deep : ℕ} {p : Past} → NodeOpened s t o deep (Ok p) → {x : ℕ} → o ≡ x
    → Opened s (behind_node t.next) x deep (Ok p.next)
opens g q = rw q at (node_now g).opened

colon_at :
    {s a : List ℕ} {t : Taken} {i n : ℕ} {c₁ : Cursor} → Labelled s a i t n (Ok c₁) → {r : Moved} → Signed s c₁ (code ":") r
    → Signed s t.next (code ":") r
colon_at g h = rw (fresh_label g).1 at h

-- a message, or a choice
module _ {s a b : List ℕ} {t : Taken} {deep : ℕ} (short : length s ≤ text_most) {o : ℕ} where
  module _ {no : Refusal} (g₁ : NodeOpened s t o deep (Err no)) {a' b' : List ℕ} where
    pub message_told₁ : (d : Way) → kind_of t ≡ message_byte d → o ≡ open_byte d → TypeRead s a b a' b' t deep (Err no)
    message_told₁ d k q = message_unopened short d k (rw q at g₁)

    pub choice_told₁ : (d : Way) → kind_of t ≡ choice_byte d → o ≡ code "{" → TypeRead s a b a' b' t deep (Err no)
    choice_told₁ d k q = choice_unopened short d k (rw q at g₁)

  module _ {p₁ : Past} (g₁ : NodeOpened s t o deep (Ok p₁)) where
    module _ {closing : ℕ} {a₁ b₁ : List ℕ} where
      pub message_told₂ :
          {no : Refusal} → ((d : Way) → closing ≡ close_byte d → ItemsRead s a b a₁ b₁ d p₁.next (deep + 1) p₁.value (Err no))
          → (d : Way) → kind_of t ≡ message_byte d → o ≡ open_byte d → closing ≡ close_byte d → TypeRead s a b a₁ b₁ t deep (Err no)
      message_told₂ g₃ d k q x = message_items_refused short d k (node_now g₁).few (opens g₁ q) (g₃ d x)

      module _ {p₃ : Past} (g₃ : (d : Way) → closing ≡ close_byte d → ItemsRead s a b a₁ b₁ d p₁.next (deep + 1) p₁.value (Ok p₃)) where
        pub message_told₃ :
            {no : Refusal} → Signed s p₃.next (code ";") (Err no) → {a' b' : List ℕ} (d : Way) → kind_of t ≡ message_byte d → o ≡ open_byte d
            → closing ≡ close_byte d → TypeRead s a b a' b' t deep (Err no)
        message_told₃ g₄ d k q x = message_semicolon_refused short d k (node_now g₁).few (opens g₁ q) (g₃ d x) g₄

        module _ {c₄ : Cursor} (g₄ : Signed s p₃.next (code ";") (Ok c₄)) {t₅ : Taken} (k₅ : Takes s c₄ t₅) {a₂ b₂ : List ℕ} where
          pub message_told₄ :
              {no : Refusal} → TypeRead s a₁ b₁ a₂ b₂ t₅ deep (Err no) → (d : Way) → kind_of t ≡ message_byte d → o ≡ open_byte d
              → closing ≡ close_byte d → TypeRead s a b a₂ b₂ t deep (Err no)
          message_told₄ g₅ d k q x = message_type_refused short d k (node_now g₁).few (opens g₁ q) (g₃ d x) g₄ k₅ g₅

          pub message_told₅ :
              {p₅ : Past} → TypeRead s a₁ b₁ a₂ b₂ t₅ deep (Ok p₅) → length a₂ ≡ text_most → {a₃ : List ℕ} {kind : ℕ}
              → a₃ ≡ stored_head a₂ p₁.value kind p₃.value p₅.value → (d : Way) → kind_of t ≡ message_byte d → o ≡ open_byte d
              → closing ≡ close_byte d → kind ≡ message_number d → TypeRead s a b a₃ b₂ t deep (got p₁.value p₅.next)
          message_told₅ g₅ m st d k q x y = message_done short d k (node_now g₁).few (opens g₁ q) (g₃ d x) g₄ k₅ m (node_now g₁).number g₅ (rw y at st)

    module _ {a₁ b₁ : List ℕ} where
      pub choice_told₂ :
          {no : Refusal} → LabelsRead s a b a₁ b₁ p₁.next (deep + 1) p₁.value (Err no) → (d : Way) → kind_of t ≡ choice_byte d → o ≡ code "{"
          → TypeRead s a b a₁ b₁ t deep (Err no)
      choice_told₂ g₃ d k q = choice_labels_refused short d k (node_now g₁).few (opens g₁ q) g₃

      pub choice_told₃ :
          {p₃ : Past} → LabelsRead s a b a₁ b₁ p₁.next (deep + 1) p₁.value (Ok p₃) → length a₁ ≡ text_most → {a₂ : List ℕ} {kind : ℕ}
          → a₂ ≡ stored_head a₁ p₁.value kind p₃.value 0 → (d : Way) → kind_of t ≡ choice_byte d → o ≡ code "{" → kind ≡ choice_number d
          → TypeRead s a b a₂ b₁ t deep (got p₁.value p₃.next)
      choice_told₃ g₃ m st d k q y = choice_done short d k (node_now g₁).few (opens g₁ q) m (node_now g₁).number g₃ (rw y at st)

-- an item
module _ {s a b : List ℕ} {t : Taken} {deep node n : ℕ} (r : TokenReady s a b t) where
  pub item_told₁ : {no : Refusal} → ItemBegun t n (Err no) → (a' b' : List ℕ) → ItemRead s a b a' b' t deep node n (Err no)
  item_told₁ g₁ a' b' = item_refused r.ready.short a b a' b' g₁

  module _ {i : Option Sort} (g₁ : ItemBegun t n (Ok i)) (inside : node < t.next.nodes) where
    pub item_told₂ : {x : Sort} → i ≡ Some x → ItemRead s a b (set a (node * room + list_from + n) (sort_number x)) b t deep node n (Ok t.next)
    item_told₂ f =
        let z = sort_is g₁ f in
        rw (← z.number) (item_sort r.ready.short a b z.short z.few z.sort inside r.ready.few_nodes r.ready.room_nodes)

    module _ (f : i ≡ None) {a₁ b₁ : List ℕ} where
      pub item_told₃ : {no : Refusal} → TypeRead s a b a₁ b₁ t deep (Err no) → ItemRead s a b a₁ b₁ t deep node n (Err no)
      item_told₃ g₂ = let z = type_is g₁ f in item_type_refused r.ready.short z.few z.no_sort g₂

      pub item_told₄ :
          {p : Past} → TypeRead s a b a₁ b₁ t deep (Ok p) → p.next.nodes ≤ text_nodes_most → length a₁ ≡ text_most
          → ItemRead s a b (set a₁ (node * room + list_from + n) (a_session + p.value)) b₁ t deep node n (Ok p.next)
      item_told₄ g₂ few long = let z = type_is g₁ f in item_type r.ready.short z.few z.no_sort inside few long g₂

-- a label
module _ {s a b : List ℕ} {t : Taken} {deep node n : ℕ} (short : length s ≤ text_most) where
  pub label_told₁ : {no : Refusal} → Labelled s a (node * room + list_from) t n (Err no) → (a' b' : List ℕ) → LabelRead s a b a' b' t deep node n (Err no)
  label_told₁ g₁ a' b' = label-refused short a b a' b' g₁

  module _ {c₁ : Cursor} (g₁ : Labelled s a (node * room + list_from) t n (Ok c₁)) where
    pub label_told₂ : {no : Refusal} → Signed s c₁ (code ":") (Err no) → {a' b' : List ℕ} → LabelRead s a b a' b' t deep node n (Err no)
    label_told₂ g₂ = label_colon_refused short a b deep node n (fresh_label g₁).0 (colon_at g₁ g₂)

    module _ {c₂ : Cursor} (g₂ : Signed s c₁ (code ":") (Ok c₂)) {t₃ : Taken} (k₃ : Takes s c₂ t₃) {a₁ b₁ : List ℕ} where
      pub label_told₃ : {no : Refusal} → TypeRead s a b a₁ b₁ t₃ deep (Err no) → LabelRead s a b a₁ b₁ t deep node n (Err no)
      label_told₃ g₃ = label_type_refused short a b deep node n (fresh_label g₁).0 (colon_at g₁ g₂) k₃ g₃

      pub label_told₄ :
          {p₃ : Past} → TypeRead s a b a₁ b₁ t₃ deep (Ok p₃) → node < t.next.nodes → p₃.next.nodes ≤ text_nodes_most → length a₁ ≡ text_most
          → {a₂ : List ℕ} → a₂ ≡ stored_label a₁ node n t p₃.value → LabelRead s a b a₂ b₁ t deep node n (Ok p₃.next)
      label_told₄ g₃ i few long {a₂} st = label_done short a b deep node n (fresh_label g₁).0 (colon_at g₁ g₂) k₃ i few long a₂ st g₃

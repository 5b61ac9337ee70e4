-- What is made from the numbers of a text that has been read, and whose names have been followed, is the text's table.
-- Assumes nothing.
use borrow.Author.Tests.{lt-ltb, le-ltb}
use mathlib.Core.List.{List, []}
use mathlib.Core.Option.{some}
use mathlib.Core.Path.{◌≡◌, refl, ap, ◌∙◌}
use Prim.Native.Nat.{ℕ, suc, ◌+◌, ◌*◌, ◌<◌, ◌≤◌}
use native.Mathlib.Nat.{add-sub_cancel_left}
use native.Mathlib.Omega.{arith}
use lib.ListN.{length, get_or}
use Rattle.rules.specs.Basics.{listed}
use Rattle.rules.specs.Tokens.{Token}
use Rattle.rules.specs.Notation.{Way, into, out, Ty, ended, name, message, choice, Items, no_items, sort, session, Labels, last_label, label, Text, last_definition, definition}
use Rattle.rules.specs.Numbers.{text_nodes_most}
use Rattle.rules.specs.Numbering.{behind, behind_items, behind_labels, behind_text, to_node, definition_count, follow, link, message_kind, choice_kind, slots, entry, entries, message_node, choice_node, nodes, nodes_items, nodes_labels, nodes_text, table_of}
use Rattle.rules.specs.Refusals.{uses, uses_items, uses_labels, used_names}
use Rattle.rules.proofs.Links.{behind_more, behind_items_more, behind_labels_more, behind_text_more}
use Rattle.rules.proofs.Names.{follow_more}
use Rattle.flat.specs.Flat.{room, list_from, row, a_use, a_session, used, used_items, raw, raw_items, raw_row, raw_labels, sort_number, items_long, labels_long, message_number, choice_number, Holds, Stored, StoredItems, StoredLabels, StoredText, Parsed, Resolved}
use Rattle.table.specs.declared.Sort.{Sort}
use Rattle.table.specs.declared.Sort.TheVariants.{String, Float, Boolean, Void}
use Rattle.table.specs.declared.Item.TheVariants.{OfSort, Session}
use Rattle.table.specs.declared.Node.{Node}
use Rattle.table_maker.specs.Making.{sort_of, kind_of, item_number, label_row, node_of, slot_from, label_from, message_from, choice_from, node_from, table_from}
use Rattle.table_maker.proofs.Held.{held, held_behind}
use Rattle.table_maker.proofs.KindNumbers.{from_end, from_message, from_choice}
use Rattle.table_maker.proofs.Rows.{message_some, message_below, choice_above}
use Rattle.table_maker.proofs.InOrder.{InOrder, none, one, then, in_order_all}
use Rattle.table_maker.proofs.UsesInOrder.{UsesFrom, all_uses, past_type, past_items}

-- a node leads to itself
node_link : (t : Text) (k : ℕ) → follow t (definition_count t) (to_node k) ≡ some k
unfolding follow
node_link t k = follow_more t 0 (definition_count t) (to_node k) k (omega arith) refl

message_kind-made : (d : Way) → kind_of (message_number d) ≡ message_kind d
unfolding kind_of
message_kind-made into = refl
message_kind-made out = refl

choice_kind-made : (d : Way) → kind_of (choice_number d) ≡ choice_kind d
unfolding kind_of
choice_kind-made into = refl
choice_kind-made out = refl

module _ {t : Text} {owners ends : List ℕ} (R : Resolved t owners ends) where
  own_node : (k : ℕ) → k < a_use → node_of owners ends k ≡ k
  unfolding node_of
  own_node k l = rw (node_of, lt-ltb k a_use l)

  use_node : (u : ℕ) → node_of owners ends (a_use + u) ≡ get_or ends (get_or owners u 0) 0
  unfolding node_of
  use_node u = rw (node_of, le-ltb (a_use + u) a_use (omega arith), add-sub_cancel_left a_use u)

  link_made : (x : Ty) (k u : ℕ) (ts : List Token) → UsesFrom t u (uses x ts) → behind x k ≤ text_nodes_most → node_of owners ends (raw x k u) ≡ link t x k
  unfolding link
  link_made ended k u ts U l = rw (node_link t k) (own_node k (omega arith))
  link_made (name w) k u ts U l = use_node u ∙ rw U.count at (R.each U.before ts w U.split)
  link_made (message d xs x) k u ts U l =
      rw (node_link t k) (own_node k (omega (arith, behind_items_more xs (suc k), behind_more x (behind_items xs (suc k)))))
  link_made (choice d ls) k u ts U l = rw (node_link t k) (own_node k (omega (arith, behind_labels_more ls (suc k))))

  -- the items of a message
  sort-made : (s : Sort) → slot_from owners ends (sort_number s) ≡ record { item = OfSort s }
  unfolding slot_from sort_of
  sort-made String = refl
  sort-made Float = refl
  sort-made Boolean = refl
  sort-made Void = refl

  session-made : (l : ℕ) → slot_from owners ends (a_session + l) ≡ record { item = Session (node_of owners ends l) }
  unfolding slot_from
  session-made l = rw (slot_from, le-ltb (a_session + l) a_session (omega arith), add-sub_cancel_left a_session l)

  module _ (a b : List ℕ) where
    slots-made :
        (xs : Items) (at j e k u : ℕ) (ts : List Token) → UsesFrom t u (uses_items xs ts) → behind_items xs k ≤ text_nodes_most
        → Holds a (at + j) (raw_items xs k u) → e ≡ j + items_long xs
        → InOrder (λ i. slot_from owners ends (get_or a (at + i) 0)) j e (slots t xs k)
    slots-made no_items at j e k u ts U l h q = let p : e ≡ j = omega arith in rw p none
    slots-made (sort s xs) at j e k u ts U l h q =
        let p : suc (at + j) ≡ at + suc j = omega arith in
        one (ap (slot_from owners ends) (held h) ∙ sort-made s)
        (slots-made xs at (suc j) e k u ts U l (rw p at (held_behind h)) (omega arith))
    slots-made (session x xs) at j e k u ts U l h q =
        let p : suc (at + j) ≡ at + suc j = omega arith in
        let m = link_made x k u (uses_items xs ts) U (omega (arith, behind_items_more xs (behind x k))) in
        one (ap (slot_from owners ends) (held h) ∙ session-made (raw x k u) ∙ ap (λ (n : ℕ). record { item = Session n }) m)
        (slots-made xs at (suc j) e (behind x k) (used x u) ts (past_type t x u (uses_items xs ts) U) l (rw p at (held_behind h)) (omega arith))

    items_listed :
        (xs : Items) (k u : ℕ) (ts : List Token) → UsesFrom t u (uses_items xs ts) → behind_items xs (suc k) ≤ text_nodes_most
        → Holds a (k * room + list_from) (raw_items xs (suc k) u)
        → (listed (items_long xs) (λ i. slot_from owners ends (item_number a k i)) ≡ slots t xs (suc k))
        × (items_long xs ≡ length (slots t xs (suc k)))
    items_listed xs k u ts U l h =
        let at = k * room + list_from in
        let q : at ≡ at + 0 = omega arith in
        in_order_all (λ i. slot_from owners ends (item_number a k i)) (items_long xs) (slots t xs (suc k))
        (slots-made xs at 0 (items_long xs) (suc k) u ts U l (rw q at h) (omega arith))

    -- the labels of a choice
    entry_made :
        (w : Token) (x : Ty) (at k u : ℕ) (ns : List ℕ) (ts : List Token) → UsesFrom t u (uses x ts) → behind x k ≤ text_nodes_most
        → Holds a at (raw_row w x k u ns) → label_from owners ends a at ≡ entry t w x k
    entry_made w x at k u ns ts U l h =
        cc (held h, h.each 1 (omega arith), h.each 2 (omega arith), link_made x k u ts U l)

    entries-made :
        (ls : Labels) (at j e k u : ℕ) (ts : List Token) → UsesFrom t u (uses_labels ls ts) → behind_labels ls k ≤ text_nodes_most
        → Holds a (at + j * row) (raw_labels ls k u) → e ≡ j + labels_long ls
        → InOrder (λ i. label_from owners ends a (at + i * row)) j e (entries t ls k)
    entries-made (last_label w x) at j e k u ts U l h q =
        let p : e ≡ suc j = omega arith in rw p (one (entry_made w x (at + j * row) k u [] ts U l h) none)
    entries-made (label w x ls) at j e k u ts U l h q =
        let p : suc (suc (suc (at + j * row))) ≡ at + suc j * row = omega arith in
        let rest = rw p at (held_behind (held_behind (held_behind h))) in
        let vs = uses_labels ls ts in
        one
        (entry_made w x (at + j * row) k u (raw_labels ls (behind x k) (used x u)) vs U (omega (arith, behind_labels_more ls (behind x k))) h)
        (entries-made ls at (suc j) e (behind x k) (used x u) ts (past_type t x u vs U) l rest (omega arith))

    labels_listed :
        (ls : Labels) (k u : ℕ) (ts : List Token) → UsesFrom t u (uses_labels ls ts) → behind_labels ls (suc k) ≤ text_nodes_most
        → Holds a (k * room + list_from) (raw_labels ls (suc k) u)
        → (listed (labels_long ls) (λ i. label_from owners ends a (label_row k i)) ≡ entries t ls (suc k))
        × (labels_long ls ≡ length (entries t ls (suc k)))
    labels_listed ls k u ts U l h =
        let at = k * room + list_from in
        let q : at ≡ at + 0 * row = omega arith in
        in_order_all (λ i. label_from owners ends a (label_row k i)) (labels_long ls) (entries t ls (suc k))
        (entries-made ls at 0 (labels_long ls) (suc k) u ts U l (rw q at h) (omega arith))

    -- the kinds of nodes
    message_made :
        (d : Way) (xs : Items) (x : Ty) (k u : ℕ) (ts : List Token) → UsesFrom t u (uses_items xs (uses x ts))
        → behind x (behind_items xs (suc k)) ≤ text_nodes_most → Stored a b (message d xs x) k u
        → node_from owners ends a k ≡ message_node t d xs x k
    message_made d xs x k u ts U l S =
        let j = behind_items xs (suc k) in
        let kind = held S.0 in
        let count = S.0.each 1 (omega arith) in
        let next = S.0.each 2 (omega arith) in
        let (listing, long) = items_listed xs k u (uses x ts) U (omega (arith, behind_more x j)) S.1 in
        let goes_on = link_made x j (used_items xs u) ts (past_items t xs u (uses x ts) U) l in
        from_message owners ends a k (omega (arith, message_some d)) (omega (arith, message_below d))
        ∙ simp (message_from, kind, message_kind-made d, count, listing, next, goes_on, ← long)

    choice_made :
        (d : Way) (ls : Labels) (k u : ℕ) (ts : List Token) → UsesFrom t u (uses_labels ls ts) → behind_labels ls (suc k) ≤ text_nodes_most
        → Stored a b (choice d ls) k u → node_from owners ends a k ≡ choice_node t d ls k
    choice_made d ls k u ts U l S =
        let kind = held S.0 in
        let count = S.0.each 1 (omega arith) in
        let (listing, long) = labels_listed ls k u ts U l S.1 in
        from_choice owners ends a k (omega (arith, choice_above d)) ∙ simp (choice_from, kind, choice_kind-made d, count, listing, ← long)

    -- the nodes of a tree
    abbrev Made : ℕ → ℕ → List Node → Type 0
    Made = InOrder (node_from owners ends a)

    mutual
      type_made :
          (x : Ty) (k u : ℕ) (ts : List Token) → UsesFrom t u (uses x ts) → behind x k ≤ text_nodes_most → Stored a b x k u
          → Made k (behind x k) (nodes t x k)
      type_made ended k u ts U l S = one (from_end owners ends a k (held S)) none
      type_made (name w) k u ts U l S = none
      type_made (message d xs x) k u ts U l S =
          let j = behind_items xs (suc k) in
          one (message_made d xs x k u ts U l S)
          (then (items_made xs (suc k) u (uses x ts) U (omega (arith, behind_more x j)) S.3)
          (type_made x j (used_items xs u) ts (past_items t xs u (uses x ts) U) l S.4))
      type_made (choice d ls) k u ts U l S = one (choice_made d ls k u ts U l S) (labels_made ls (suc k) u ts U l S.3)

      items_made :
          (xs : Items) (k u : ℕ) (ts : List Token) → UsesFrom t u (uses_items xs ts) → behind_items xs k ≤ text_nodes_most
          → StoredItems a b xs k u → Made k (behind_items xs k) (nodes_items t xs k)
      items_made no_items k u ts U l S = none
      items_made (sort s xs) k u ts U l S = items_made xs k u ts U l S
      items_made (session x xs) k u ts U l S =
          let vs = uses_items xs ts in
          then (type_made x k u vs U (omega (arith, behind_items_more xs (behind x k))) S.0)
          (items_made xs (behind x k) (used x u) ts (past_type t x u vs U) l S.1)

      labels_made :
          (ls : Labels) (k u : ℕ) (ts : List Token) → UsesFrom t u (uses_labels ls ts) → behind_labels ls k ≤ text_nodes_most
          → StoredLabels a b ls k u → Made k (behind_labels ls k) (nodes_labels t ls k)
      labels_made (last_label w x) k u ts U l S = type_made x k u ts U l S
      labels_made (label w x ls) k u ts U l S =
          let vs = uses_labels ls ts in
          then (type_made x k u vs U (omega (arith, behind_labels_more ls (behind x k))) S.0)
          (labels_made ls (behind x k) (used x u) ts (past_type t x u vs U) l S.1)

    text_made :
        (y : Text) (k u : ℕ) → UsesFrom t u (used_names y) → behind_text y k ≤ text_nodes_most → StoredText a b y k u
        → Made k (behind_text y k) (nodes_text t y k)
    text_made (last_definition w x) k u U l S = type_made x k u [] U l S
    text_made (definition w x ds) k u U l S =
        then (type_made x k u (used_names ds) U (omega (arith, behind_text_more ds (behind x k))) S.0)
        (text_made ds (behind x k) (used x u) (past_type t x u (used_names ds) U) l S.1)

pub table_made :
    {s a b d : List ℕ} {n nodes uses : ℕ} {x : Text} {owners ends : List ℕ} → Parsed s a b d n nodes uses x → Resolved x owners ends
    → table_from owners ends a nodes ≡ table_of x
unfolding table_from table_of
table_made {a = a} {b} {nodes = m} {x = x} {owners} {ends} P R =
    let all = text_made R a b x 0 0 (all_uses x) (omega (arith, P.node_count, P.few_nodes)) P.stored in
    let (listing, _) = in_order_all (node_from owners ends a) (behind_text x 0) (nodes_text x x 0) all in
    rw P.node_count (simp (table_from, table_of, listing, R.first))

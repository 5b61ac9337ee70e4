-- The table that is read of a text is well formed, with the text as its name bytes.
-- Assumes nothing.
use mathlib.Core.Bool.{true, false, false≢true}
use mathlib.Core.List.{List, [], ◌∷◌, ◌++◌}
use mathlib.Core.Path.{◌≡◌, refl, sym, ap, ◌∙◌}
use Prim.Native.Nat.{ℕ, zero, suc, ◌+◌, ◌<◌, ◌≤◌}
use native.Mathlib.Omega.{arith}
use lib.ListN.{length, get_or, length-append}
use Rattle.rules.specs.Basics.{same}
use Rattle.rules.specs.Words.{may_name}
use Rattle.rules.specs.Tokens.{Token}
use Rattle.rules.specs.Notation.{Way, into, out, Ty, ended, name, message, choice, Items, no_items, sort, session, Labels, last_label, label, Text, last_definition, definition}
use Rattle.rules.specs.Numbers.{items_most, labels_most, table_nodes_most, text_nodes_most}
use Rattle.rules.specs.Tables.{no_node, blank_slot, blank_label, blank_node, node_at, item_at, item_count, label_at, label_count, continuation, is_message, is_choice, spelling, spelling_at}
use Rattle.rules.specs.Numbering.{behind, behind_items, behind_labels, behind_text, link, message_kind, choice_kind, slots, entry, entries, message_node, choice_node, nodes, nodes_items, nodes_labels, nodes_text, start_type, table_of}
use Rattle.rules.specs.Refusals.{uses, uses_items, uses_labels, used_names, among}
use Rattle.rules.specs.Formed.{well_formed}
use Rattle.rules.specs.Replies.{Reads, made}
use Rattle.rules.proofs.Basics.{same_refl, some_below_at}
use Rattle.rules.proofs.Filling.{fill_at}
use Rattle.rules.proofs.Fitting.{Named, NewLabel, Fits, FitItems, FitLabels, FitText, text_fit, text_nodes}
use Rattle.rules.proofs.Formed.{FormedNode, WellFormed, no_message, no_choice, formed_true}
use Rattle.rules.proofs.Links.{behind_more, behind_items_more, behind_labels_more, behind_text_more, Each, past_uses, past-uses_items, GetsTo, link_below, uses_get_to}
use Rattle.rules.proofs.NamedReading.{has_table}
use Rattle.table.specs.declared.Item.TheVariants.{Session}
use Rattle.table.specs.declared.Slot.{Slot}
use Rattle.table.specs.declared.Label.{Label}
use Rattle.table.specs.declared.Node.{Node}
use Rattle.table.specs.declared.Table.{Table}

-- There are as many nodes as are numbered.
module _ (t : Text) where
  mutual
    nodes_length : (x : Ty) (k : ℕ) → k + length (nodes t x k) ≡ behind x k
    nodes_length ended k = omega arith
    nodes_length (name w) k = omega arith
    nodes_length (message d xs x) k =
        let a = length-append (nodes_items t xs (suc k)) (nodes t x (behind_items xs (suc k))) in
        omega (arith, a, items_length xs (suc k), nodes_length x (behind_items xs (suc k)))
    nodes_length (choice d ls) k = omega (arith, labels_length ls (suc k))

    items_length : (xs : Items) (k : ℕ) → k + length (nodes_items t xs k) ≡ behind_items xs k
    items_length no_items k = omega arith
    items_length (sort s xs) k = items_length xs k
    items_length (session x xs) k =
        omega (arith, length-append (nodes t x k) (nodes_items t xs (behind x k)), nodes_length x k, items_length xs (behind x k))

    labels_length : (ls : Labels) (k : ℕ) → k + length (nodes_labels t ls k) ≡ behind_labels ls k
    labels_length (last_label w x) k = nodes_length x k
    labels_length (label w x ls) k =
        omega (arith, length-append (nodes t x k) (nodes_labels t ls (behind x k)), nodes_length x k, labels_length ls (behind x k))

  text_length : (u : Text) (k : ℕ) → k + length (nodes_text t u k) ≡ behind_text u k
  text_length (last_definition w x) k = nodes_length x k
  text_length (definition w x ds) k =
      omega (arith, length-append (nodes t x k) (nodes_text t ds (behind x k)), nodes_length x k, text_length ds (behind x k))

-- what each element of a list is, by position, and of two lists together
each_at : {A : Type 0} (P : A → Type 0) (d : A) (l : List A) → Each P l → (i : ℕ) → i < length l → P (get_or l i d)
each_at P d [] h i m = absurd (omega arith)
each_at P d (a ∷ l) h zero m = h.0
each_at P d (a ∷ l) h (suc i) m = each_at P d l h.1 i (omega arith)

each_append : {A : Type 0} (P : A → Type 0) (l m : List A) → Each P l → Each P m → Each P (l ++ m)
each_append P [] m g h = h
each_append P (a ∷ l) m g h = (g.0, each_append P l m g.1 h)

-- a tree of the text t, of which s are the name bytes
module _ (t : Text) (s : List ℕ) where
  -- the items of a message
  slots_few : (xs : Items) (k m : ℕ) → m ≤ items_most → FitItems s xs m → m + length (slots t xs k) ≤ items_most
  slots_few no_items k m l f = omega arith
  slots_few (sort a xs) k m l f = omega (arith, slots_few xs k (suc m) f.0 f.1)
  slots_few (session x xs) k m l f = omega (arith, slots_few xs (behind x k) (suc m) f.0 f.2)

  abbrev LinkedSlot : Slot → Type 0
  LinkedSlot a = (j : ℕ) → a.item ≡ Session j → j < behind_text t 0

  slots_linked :
      (xs : Items) (k : ℕ) (us : List Token) → behind_items xs k ≤ behind_text t 0 → Each (GetsTo t) (uses_items xs us)
      → Each LinkedSlot (slots t xs k)
  slots_linked no_items k us l h = tt
  slots_linked (sort a xs) k us l h = (λ j e. let z : ◌≡◌ {A = ℕ} 0 1 = cc in absurd (omega arith), slots_linked xs k us l h)
  slots_linked (session x xs) k us l h = (
    λ j e.
        let q : link t x k ≡ j = cc in
        rw (← q) (link_below t x k (uses_items xs us) (omega (arith, behind_items_more xs (behind x k))) h),
    slots_linked xs (behind x k) us l (past_uses (GetsTo t) x (uses_items xs us) h),
  )

  -- the labels of a choice
  abbrev FormedEntry : Label → Type 0
  FormedEntry a = (a.to < behind_text t 0) × (a.at + a.len ≤ length s) × (may_name (spelling s a) ≡ true)

  entry_formed : (w : Token) (x : Ty) (k : ℕ) → Named s w → link t x k < behind_text t 0 → FormedEntry (entry t w x k)
  entry_formed w x k m l = (l, m.inside, rw (← m.is_part) m.may)

  entries_formed :
      (ls : Labels) (k : ℕ) (es : List (List ℕ)) (us : List Token) → behind_labels ls k ≤ behind_text t 0 → FitLabels s ls es
      → Each (GetsTo t) (uses_labels ls us) → Each FormedEntry (entries t ls k)
  entries_formed (last_label w x) k es us l f h = (entry_formed w x k f.0.named (link_below t x k us l h), tt)
  entries_formed (label w x ls) k es us l f h = (
    entry_formed w x k f.0.named (link_below t x k (uses_labels ls us) (omega (arith, behind_labels_more ls (behind x k))) h),
    entries_formed ls (behind x k) (w.spelled ∷ es) us l f.2 (past_uses (GetsTo t) x (uses_labels ls us) h),
  )

  entries_some : (ls : Labels) (k : ℕ) → 1 ≤ length (entries t ls k)
  entries_some (last_label w x) k = omega arith
  entries_some (label w x ls) k = omega arith

  entries_few : (ls : Labels) (k : ℕ) (es : List (List ℕ)) → FitLabels s ls es → length es + length (entries t ls k) ≤ labels_most
  entries_few (last_label w x) k es f = omega (arith, f.0.few)
  entries_few (label w x ls) k es f = omega (arith, entries_few ls (behind x k) (w.spelled ∷ es) f.2)

  abbrev spelled_at : Labels → ℕ → ℕ → List ℕ
  spelled_at ls k i = spelling s (get_or (entries t ls k) i blank_label)

  -- a label is none of those before its choice's rest
  not_among : (es : List (List ℕ)) (i : ℕ) (w : Token) → NewLabel s es w → i < length es → w.spelled ≡ get_or es i [] → ⊥
  unfolding among
  not_among es i w n l e =
      false≢true (sym n.new ∙ some_below_at (length es) (λ j. same w.spelled (get_or es j [])) i l (rw (← e) (same_refl w.spelled)))

  spelled_new :
      (ls : Labels) (k : ℕ) (es : List (List ℕ)) (i j : ℕ) → FitLabels s ls es → i < length es → j < length (entries t ls k)
      → spelled_at ls k j ≡ get_or es i [] → ⊥
  spelled_new (last_label w x) k es i zero f l m e = not_among es i w f.0 l (f.0.named.is_part ∙ e)
  spelled_new (last_label w x) k es i (suc j) f l m e = omega arith
  spelled_new (label w x ls) k es i zero f l m e = not_among es i w f.0 l (f.0.named.is_part ∙ e)
  spelled_new (label w x ls) k es i (suc j) f l m e =
      spelled_new ls (behind x k) (w.spelled ∷ es) (suc i) j f.2 (omega arith) (omega arith) e

  spelled_apart :
      (ls : Labels) (k : ℕ) (es : List (List ℕ)) (i j : ℕ) → FitLabels s ls es → i < j → j < length (entries t ls k)
      → spelled_at ls k i ≡ spelled_at ls k j → ⊥
  spelled_apart (last_label w x) k es i j f l m e = omega arith
  spelled_apart (label w x ls) k es i zero f l m e = omega arith
  spelled_apart (label w x ls) k es zero (suc j) f l m e =
      spelled_new ls (behind x k) (w.spelled ∷ es) 0 j f.2 (omega arith) (omega arith) (sym e ∙ sym f.0.named.is_part)
  spelled_apart (label w x ls) k es (suc i) (suc j) f l m e = spelled_apart ls (behind x k) (w.spelled ∷ es) i j f.2 (omega arith) (omega arith) e

  spelled_once :
      (ls : Labels) (k : ℕ) (i j : ℕ) → FitLabels s ls [] → i < length (entries t ls k) → j < length (entries t ls k)
      → spelled_at ls k i ≡ spelled_at ls k j → i ≡ j
  spelled_once ls k i j f l m e =
      let a : i < j → ⊥ = λ h. spelled_apart ls k [] i j f h m e in
      let b : j < i → ⊥ = λ h. spelled_apart ls k [] j i f h l (sym e) in
      omega arith

  -- the three kinds of nodes
  abbrev FormedHere : Node → Type 0
  FormedHere x = FormedNode (behind_text t 0) s x

  end_formed : 1 ≤ behind_text t 0 → FormedHere blank_node
  end_formed l = record { message = no_message l refl; choice = no_choice refl }

  module _ (d : Way) (xs : Items) (x : Ty) (k : ℕ) (us : List Token) (l : behind x (behind_items xs (suc k)) ≤ behind_text t 0) (f : FitItems s xs 0) (h : Each (GetsTo t) (uses_items xs (uses x us))) where
    abbrev message_here : Node
    message_here = message_node t d xs x k

    items_here : item_count message_here ≡ length (slots t xs (suc k))
    items_here = elim d as (λ d. item_count (message_node t d xs x k) ≡ length (slots t xs (suc k))) [ into ↦ refl | out ↦ refl ]

    next_here : continuation message_here ≡ link t x (behind_items xs (suc k))
    next_here = elim d as (λ d. continuation (message_node t d xs x k) ≡ link t x (behind_items xs (suc k))) [ into ↦ refl | out ↦ refl ]

    slot_links : (i j : ℕ) → i < item_count message_here → item_at message_here i ≡ Session j → j < behind_text t 0
    slot_links i j m e =
        let n : i < length (slots t xs (suc k)) = omega (arith, items_here) in
        each_at LinkedSlot blank_slot (slots t xs (suc k))
        (slots_linked xs (suc k) (uses x us) (omega (arith, behind_more x (behind_items xs (suc k)))) h) i n j
        (ap (λ (a : Slot). a.item) (sym (fill_at items_most blank_slot blank_slot (slots t xs (suc k)) i n)) ∙ e)

    message_formed : FormedHere message_here
    message_formed =
        record {
          message =
              record {
                few_items = omega (arith, items_here, slots_few xs (suc k) 0 (omega arith) f);
                item_links = slot_links;
                goes_on = rw next_here (link_below t x (behind_items xs (suc k)) us l (past-uses_items (GetsTo t) xs (uses x us) h));
              };
          choice = no_choice (elim d as (λ d. is_choice (message_kind d) ≡ false) [ into ↦ refl | out ↦ refl ]);
        }

  module _ (d : Way) (ls : Labels) (k : ℕ) (us : List Token) (l : behind_labels ls (suc k) ≤ behind_text t 0) (f : FitLabels s ls []) (h : Each (GetsTo t) (uses_labels ls us)) where
    abbrev choice_here : Node
    choice_here = choice_node t d ls k

    labels_here : label_count choice_here ≡ length (entries t ls (suc k))
    labels_here = elim d as (λ d. label_count (choice_node t d ls k) ≡ length (entries t ls (suc k))) [ into ↦ refl | out ↦ refl ]

    label_here : (i : ℕ) → i < label_count choice_here → label_at choice_here i ≡ get_or (entries t ls (suc k)) i blank_label
    label_here i m = fill_at labels_most blank_label blank_label (entries t ls (suc k)) i (omega (arith, labels_here))

    label_formed : (i : ℕ) → i < label_count choice_here → FormedEntry (label_at choice_here i)
    label_formed i m =
        rw (label_here i m)
        (each_at FormedEntry blank_label (entries t ls (suc k)) (entries_formed ls (suc k) [] us l f h) i (omega (arith, labels_here)))

    label_once :
        (i j : ℕ) → i < label_count choice_here → j < label_count choice_here → spelling_at choice_here s i ≡ spelling_at choice_here s j → i ≡ j
    label_once i j m n e =
        spelled_once ls (suc k) i j f (omega (arith, labels_here)) (omega (arith, labels_here))
        (ap (spelling s) (sym (label_here i m)) ∙ e ∙ ap (spelling s) (label_here j n))

    choice_formed : 1 ≤ behind_text t 0 → FormedHere choice_here
    choice_formed p =
        record {
          message = no_message p (elim d as (λ d. is_message (choice_kind d) ≡ false) [ into ↦ refl | out ↦ refl ]);
          choice =
              record {
                some_label = λ c. omega (arith, labels_here, entries_some ls (suc k));
                few_labels = omega (arith, labels_here, entries_few ls (suc k) [] f);
                label_links = λ i m. (label_formed i m).0;
                label_inside = λ i m. (label_formed i m).1;
                label_named = λ i m. (label_formed i m).2;
                label_once = label_once;
              };
        }

  -- every node of a tree
  mutual
    nodes_formed :
        (x : Ty) (k : ℕ) (us : List Token) → behind x k ≤ behind_text t 0 → Fits s x → Each (GetsTo t) (uses x us)
        → Each FormedHere (nodes t x k)
    nodes_formed ended k us l f h = (end_formed (omega arith), tt)
    nodes_formed (name w) k us l f h = tt
    nodes_formed (message d xs x) k us l f h = (
      message_formed d xs x k us l f.0 h,
      each_append FormedHere (nodes_items t xs (suc k)) (nodes t x (behind_items xs (suc k)))
          (items_formed xs (suc k) 0 (uses x us) (omega (arith, behind_more x (behind_items xs (suc k)))) f.0 h)
          (nodes_formed x (behind_items xs (suc k)) us l f.1 (past-uses_items (GetsTo t) xs (uses x us) h)),
    )
    nodes_formed (choice d ls) k us l f h =
        (choice_formed d ls k us l f h (omega (arith, behind_labels_more ls (suc k))), labels_formed ls (suc k) [] us l f h)

    items_formed :
        (xs : Items) (k m : ℕ) (us : List Token) → behind_items xs k ≤ behind_text t 0 → FitItems s xs m → Each (GetsTo t) (uses_items xs us)
        → Each FormedHere (nodes_items t xs k)
    items_formed no_items k m us l f h = tt
    items_formed (sort a xs) k m us l f h = items_formed xs k (suc m) us l f.1 h
    items_formed (session x xs) k m us l f h =
        each_append FormedHere (nodes t x k) (nodes_items t xs (behind x k))
        (nodes_formed x k (uses_items xs us) (omega (arith, behind_items_more xs (behind x k))) f.1 h)
        (items_formed xs (behind x k) (suc m) us l f.2 (past_uses (GetsTo t) x (uses_items xs us) h))

    labels_formed :
        (ls : Labels) (k : ℕ) (es : List (List ℕ)) (us : List Token) → behind_labels ls k ≤ behind_text t 0 → FitLabels s ls es
        → Each (GetsTo t) (uses_labels ls us) → Each FormedHere (nodes_labels t ls k)
    labels_formed (last_label w x) k es us l f h = nodes_formed x k us l f.1 h
    labels_formed (label w x ls) k es us l f h =
        each_append FormedHere (nodes t x k) (nodes_labels t ls (behind x k))
        (nodes_formed x k (uses_labels ls us) (omega (arith, behind_labels_more ls (behind x k))) f.1 h)
        (labels_formed ls (behind x k) (w.spelled ∷ es) us l f.2 (past_uses (GetsTo t) x (uses_labels ls us) h))

  definitions_formed :
      (u : Text) (k : ℕ) → behind_text u k ≤ behind_text t 0 → FitText s u → Each (GetsTo t) (used_names u) → Each FormedHere (nodes_text t u k)
  definitions_formed (last_definition w x) k l f h = nodes_formed x k [] l f h
  definitions_formed (definition w x ds) k l f h =
      each_append FormedHere (nodes t x k) (nodes_text t ds (behind x k))
      (nodes_formed x k (used_names ds) (omega (arith, behind_text_more ds (behind x k))) f.0 h)
      (definitions_formed ds (behind x k) l f.1 (past_uses (GetsTo t) x (used_names ds) h))

start_below : (t : Text) → Each (GetsTo t) (used_names t) → link t (start_type t) 0 < behind_text t 0
start_below (last_definition w x) h = link_below (last_definition w x) x 0 [] (omega arith) h
start_below (definition w x ds) h = link_below (definition w x ds) x 0 (used_names ds) (behind_text_more ds (behind x 0)) h

table_formed :
    (t : Text) (s : List ℕ) → behind_text t 0 ≤ text_nodes_most → FitText s t → Each (GetsTo t) (used_names t) → WellFormed (table_of t) s
unfolding table_of
table_formed t s few f h =
    let below = start_below t h in
    record { some_node = omega arith; few_nodes = omega arith; begins = below; each = each }
  where
    each : (i : ℕ) → i < behind_text t 0 → FormedNode (behind_text t 0) s (node_at (table_of t) i)
    each i l =
        let m : i < length (nodes_text t t 0) = omega (arith, text_length t t 0) in
        rw (fill_at table_nodes_most no_node blank_node (nodes_text t t 0) i m)
        (each_at (FormedHere t s) no_node (nodes_text t t 0) (definitions_formed t s t 0 (omega arith) f h) i m)

pub read_formed : {s : List ℕ} {t : Table} → Reads s (made t) → well_formed t s ≡ true
read_formed {s} {t} r =
    let T = has_table r in
    rw T.table
    (formed_true
    (table_formed T.tree s (text_nodes T.writes T.clear) (text_fit T.writes T.clear) (uses_get_to T.tree T.defined T.lead)))

-- "64 nodes in a text"
pub read_few : {s : List ℕ} {t : Table} → Reads s (made t) → t.count ≤ text_nodes_most
unfolding table_of
read_few r = let T = has_table r in rw T.table (text_nodes T.writes T.clear)

-- What holds of a tree whose tokens are all in order: a message has at most 4 items; a choice at most 16 labels, no two alike, each a word
-- that is not reserved and stands in the text. By going along the tokens with what is counted before each.
-- Assumes nothing.
use mathlib.Core.Bool.{Bool, true, false, false≢true, not}
use mathlib.Core.List.{List, [], ◌∷◌, ◌++◌, append_assoc, nil≢cons}
use mathlib.Core.Option.{none, none-ne-some}
use mathlib.Core.Path.{◌≡◌, refl, sym, ap, ◌∙◌}
use mathlib.Mathlib.Data.Bool.Basic.{Bool-eq-false, and_intro, and_elim_right}
use Prim.Native.Nat.{ℕ, suc, ◌+◌, ◌<◌, ◌≤◌}
use native.Mathlib.Omega.{arith}
use lib.ListN.{length, get_or, drop}
use Rattle.rules.specs.Basics.{part}
use Rattle.rules.specs.Words.{letter, word_byte, word_bytes, word_most, is_word, reserved, may_name}
use Rattle.rules.specs.Tokens.{Token, Symbol, word, symbol, symbols, tokens}
use Rattle.rules.specs.Notation.{Way, Ty, ended, name, message, choice, Items, no_items, sort, session, Labels, last_label, label, Text, last_definition, definition, sign, write_type, parted, write_items, write_labels, write_text, Writes}
use Rattle.rules.specs.Numbers.{items_most, labels_most, text_nodes_most}
use Rattle.rules.specs.Numbering.{behind, behind_items, behind_text}
use Rattle.rules.specs.Refusals.{a_definition, a_label, an_item, Seen, unseen, innermost, nodes_after, seen_after, seen_from, among, begins_node, word_too_long, one_too_many, label_twice, TokenFault, long_word, node_more, label_more, item_more, same_label}
use Rattle.rules.specs.computed.Reading.{token_fault}
use Rattle.rules.proofs.OneToken.{counted}
use Rattle.rules.proofs.Counting.{plain, settles, after_word, after_sort, after_message, after_choice, after_opening, after_open_brace, after_semicolon, after_colon, after_equals, after_comma, after_bar, after_dot, Takes, type_some, type_takes, items_take, text_counted}
use Rattle.rules.proofs.NamesInOrder.{symbol_word}
use Rattle.rules.proofs.Reached.{Clear}
use Rattle.rules.proofs.Refusals.{token_fault-lowest}
use Rattle.rules.proofs.TokenLists.{Shape, shaped_word, shaped_byte, token_shape, token_spelling}
use Rattle.rules.proofs.Words.{word_true}

-- a word that may be a label, and where it stands in the text s
pub record Named (s : List ℕ) (w : Token) : Type 0 where
  pub inside : w.at + length w.spelled ≤ length s
  pub is_part : w.spelled ≡ part s w.at (length w.spelled)
  pub may : may_name w.spelled ≡ true

-- a label behind the labels es of its choice
pub record NewLabel (s : List ℕ) (es : List (List ℕ)) (w : Token) : Type 0 where
  pub few : length es < labels_most
  pub new : among es w.spelled ≡ false
  pub named : Named s w

-- what it says of a token that it is not refused with 3 to 7
module _ (z : Seen) (t : Token) (e : token_fault z t ≡ none) where
  not_refused : (n : ℕ) → TokenFault z t n → ⊥
  not_refused n f = let (m, g, l) = token_fault-lowest z t n f in none-ne-some m (sym e ∙ g)

  few_bytes : length t.spelled ≤ word_most
  few_bytes = let h : word_most < length t.spelled → ⊥ = λ l. not_refused word_too_long (long_word l) in omega arith

  few_nodes : begins_node t ≡ true → z.nodes < text_nodes_most
  few_nodes b = let h : text_nodes_most ≤ z.nodes → ⊥ = λ l. not_refused one_too_many (node_more b l) in omega arith

  few_items : z.next ≡ an_item → length (innermost z.brackets) < items_most
  few_items b =
      let h : items_most ≤ length (innermost z.brackets) → ⊥ = λ l. not_refused one_too_many (item_more b l) in omega arith

  few_labels : z.next ≡ a_label → length (innermost z.brackets) < labels_most
  few_labels b =
      let h : labels_most ≤ length (innermost z.brackets) → ⊥ = λ l. not_refused one_too_many (label_more b l) in omega arith

  new_label : z.next ≡ a_label → among (innermost z.brackets) t.spelled ≡ false
  new_label b = Bool-eq-false (λ f. not_refused label_twice (same_label b f))

-- What fits the limits.
module _ (s : List ℕ) where
  abbrev mutual
    pub Fits : Ty → Type 0
    Fits ended = Unit {0}
    Fits (name w) = Unit {0}
    Fits (message d xs x) = FitItems xs 0 × Fits x
    Fits (choice d ls) = FitLabels ls []

    -- behind m items of their message
    pub FitItems : Items → ℕ → Type 0
    FitItems no_items m = Unit {0}
    FitItems (sort a xs) m = (m < items_most) × FitItems xs (suc m)
    FitItems (session x xs) m = (m < items_most) × Fits x × FitItems xs (suc m)

    -- behind the labels es of their choice
    pub FitLabels : Labels → List (List ℕ) → Type 0
    FitLabels (last_label w x) es = NewLabel s es w × Fits x
    FitLabels (label w x ls) es = NewLabel s es w × Fits x × FitLabels ls (w.spelled ∷ es)

  abbrev pub FitText : Text → Type 0
  FitText (last_definition w x) = Fits x
  FitText (definition w x ds) = Fits x × FitText ds

  -- that no token is refused with 3 to 7, and that a word may be a label
  data Sound : Seen → List Token → Type 0 where
    ends : {z : Seen} → Sound z []
    goes_on :
        {z : Seen} {t : Token} {ts : List Token} → token_fault z t ≡ none → ((w : Token) → symbol t ≡ word w → Named s w)
        → Sound (seen_after z t) ts → Sound z (t ∷ ts)

  sound_rest : (z : Seen) (taken rest : List Token) → Sound z (taken ++ rest) → Sound (seen_from z taken) rest
  unfolding seen_from
  sound_rest z [] rest S = S
  sound_rest z (t ∷ taken) rest (goes_on f m S) = sound_rest (seen_after z t) taken rest S

  -- past one token, past one that is a sign, past the first of a type, past a tree
  module _ {G : Type 0} where
    sound_one :
        {z : Seen} {a : Symbol} {j : List Symbol} (ts : List Token) → symbols ts ≡ a ∷ j → Sound z ts
        → ((t : Token) (rest : List Token) → symbol t ≡ a → symbols rest ≡ j → token_fault z t ≡ none
        → ((w : Token) → symbol t ≡ word w → Named s w) → Sound (seen_after z t) rest → G)
        → G
    sound_one [] e S g = absurd (nil≢cons e)
    sound_one (t ∷ ts) e (goes_on f m S) g = g t ts (cc) (cc) f m S

    sound_sign :
        {z z₁ : Seen} {a : Symbol} {j : List Symbol} (ts : List Token) → symbols ts ≡ a ∷ j → Sound z ts
        → ((t : Token) → symbol t ≡ a → seen_after z t ≡ z₁) → ((rest : List Token) → symbols rest ≡ j → Sound z₁ rest → G) → G
    sound_sign ts e S f g = sound_one ts e S (λ t rest p q _ _ R. g rest q (rw (f t p) at R))

    sound_type :
        {z : Seen} (x : Ty) (j : List Symbol) (ts : List Token) → symbols ts ≡ write_type x j → Sound z ts
        → ((t : Token) (rest : List Token) → symbols (t ∷ rest) ≡ write_type x j → token_fault z t ≡ none → Sound (seen_after z t) rest → G) → G
    sound_type x j [] e S g = absurd (type_some x j e)
    sound_type x j (t ∷ ts) e (goes_on f m S) g = g t ts e f S

    sound_past :
        {z z₁ : Seen} {ts : List Token} {j : List Symbol} → Takes z ts z₁ j → Sound z ts
        → ((rest : List Token) → symbols rest ≡ j → Sound z₁ rest → G) → G
    sound_past {z} {ts} T S g =
        g T.rest T.written (rw T.counted at (sound_rest z T.taken T.rest (rw T.split at S)))

  label_new :
      (z : Seen) (t w : Token) → token_fault z t ≡ none → z.next ≡ a_label → symbol t ≡ word w
      → ((v : Token) → symbol t ≡ word v → Named s v) → NewLabel s (innermost z.brackets) w
  label_new z t w e b p m =
      record { few = few_labels z t e b; new = rw (← symbol_word t w p) (new_label z t e b); named = m w p }

  -- Inside a definition the names ns stay.
  module _ (ns : List (List ℕ)) where
    -- behind an item
    rest_fit :
        (xs : Items) (d : Way) (ts : List Token) (k : List Symbol) (n m : ℕ) (bs : List (List (List ℕ)))
        → symbols ts ≡ parted xs (write_items d xs k) → Sound (plain ns n bs) ts
        → ((rest : List Token) → symbols rest ≡ write_items d xs k → Sound (counted an_item n ns bs) rest → FitItems xs m) → FitItems xs m
    rest_fit no_items d ts k n m bs e S g = tt
    rest_fit (sort a xs) d ts k n m bs e S g = sound_sign ts e S (λ o p. after_comma (plain ns n bs) o p) g
    rest_fit (session x xs) d ts k n m bs e S g = sound_sign ts e S (λ o p. after_comma (plain ns n bs) o p) g

    -- past a label and its colon, to the first token of its type
    sound_label :
        {G : Type 0} (w : Token) (x : Ty) (ts : List Token) (j : List Symbol) (n : ℕ) (es : List (List ℕ)) (bs : List (List (List ℕ)))
        → symbols ts ≡ word w ∷ sign ":" ∷ write_type x j → Sound (counted a_label n ns (es ∷ bs)) ts
        → (NewLabel s es w → (t : Token) (rest : List Token) → symbols (t ∷ rest) ≡ write_type x j
        → Sound (seen_after (plain ns n ((w.spelled ∷ es) ∷ bs)) t) rest → G)
        → G
    sound_label w x ts j n es bs e S g =
        sound_one ts e S (λ t ts₁ p e₁ f m R.
        let S₁ = rw (after_word (counted a_label n ns (es ∷ bs)) t w p, symbol_word t w p) at R in
        sound_sign ts₁ e₁ S₁ (λ o q. after_colon (plain ns n ((w.spelled ∷ es) ∷ bs)) o q) (λ ts₂ e₂ S₂.
        sound_type x j ts₂ e₂ S₂ (λ u rest q _ S₃. g (label_new (counted a_label n ns (es ∷ bs)) t w f refl p m) u rest q S₃)))

    mutual
      type_fits :
          (x : Ty) (t : Token) (ts : List Token) (k : List Symbol) (n : ℕ) (bs : List (List (List ℕ))) → symbols (t ∷ ts) ≡ write_type x k
          → Sound (seen_after (plain ns n bs) t) ts → Fits x
      type_fits ended t ts k n bs e S = tt
      type_fits (name w) t ts k n bs e S = tt
      type_fits (message d xs x) t ts k n bs e S =
          sound_sign ts (cc) (rw (after_message (plain ns n bs) t d (cc)) at S) (λ o p. after_opening (plain ns (suc n) bs) o d p) (λ ts₁ e₁ S₁. (
            items_fit xs d ts₁ (sign ";" ∷ write_type x k) (suc n) [] bs e₁ S₁,
            sound_past (items_take ns xs d ts₁ (sign ";" ∷ write_type x k) (suc n) [] bs e₁) S₁ (λ ts₂ e₂ S₂.
                sound_sign ts₂ e₂ S₂ (λ o p. after_semicolon (plain ns (behind_items xs (suc n)) bs) o p) (λ ts₃ e₃ S₃.
                sound_type x k ts₃ e₃ S₃ (λ u rest q f R. type_fits x u rest k (behind_items xs (suc n)) bs q R))),
          ))
      type_fits (choice d ls) t ts k n bs e S =
          sound_sign ts (cc) (rw (after_choice (plain ns n bs) t d (cc)) at S) (λ o p. after_open_brace (plain ns (suc n) bs) o p) (λ ts₁ e₁ S₁.
          labels_fit ls ts₁ k (suc n) [] bs e₁ S₁)

      items_fit :
          (xs : Items) (d : Way) (ts : List Token) (k : List Symbol) (n : ℕ) (es : List (List ℕ)) (bs : List (List (List ℕ)))
          → symbols ts ≡ write_items d xs k → Sound (counted an_item n ns (es ∷ bs)) ts → FitItems xs (length es)
      items_fit no_items d ts k n es bs e S = tt
      items_fit (sort a xs) d ts k n es bs e S =
          sound_one ts e S (λ t ts₁ p e₁ f _ S₁. (
            few_items (counted an_item n ns (es ∷ bs)) t f refl,
            rest_fit xs d ts₁ k n (suc (length es)) ((t.spelled ∷ es) ∷ bs) e₁ (rw (after_sort (counted an_item n ns (es ∷ bs)) t a p) at S₁) (λ ts₂ e₂ S₂.
                items_fit xs d ts₂ k n (t.spelled ∷ es) bs e₂ S₂),
          ))
      items_fit (session x xs) d ts k n es bs e S =
          let j = parted xs (write_items d xs k) in
          sound_type x j ts e S (λ t ts₁ e₁ f R.
          let S₁ = rw (settles (counted an_item n ns (es ∷ bs)) t) at R in (
            few_items (counted an_item n ns (es ∷ bs)) t f refl,
            type_fits x t ts₁ j n ((t.spelled ∷ es) ∷ bs) e₁ S₁,
            sound_past (type_takes ns x t ts₁ j n ((t.spelled ∷ es) ∷ bs) e₁) S₁ (λ ts₂ e₂ S₂.
                rest_fit xs d ts₂ k (behind x n) (suc (length es)) ((t.spelled ∷ es) ∷ bs) e₂ S₂ (λ ts₃ e₃ S₃.
                items_fit xs d ts₃ k (behind x n) (t.spelled ∷ es) bs e₃ S₃)),
          ))

      labels_fit :
          (ls : Labels) (ts : List Token) (k : List Symbol) (n : ℕ) (es : List (List ℕ)) (bs : List (List (List ℕ)))
          → symbols ts ≡ write_labels ls k → Sound (counted a_label n ns (es ∷ bs)) ts → FitLabels ls es
      labels_fit (last_label w x) ts k n es bs e S =
          sound_label w x ts (sign "}" ∷ k) n es bs e S (λ new t rest q R.
          (new, type_fits x t rest (sign "}" ∷ k) n ((w.spelled ∷ es) ∷ bs) q R))
      labels_fit (label w x ls) ts k n es bs e S =
          let j = sign "|" ∷ write_labels ls k in
          let cs = (w.spelled ∷ es) ∷ bs in
          sound_label w x ts j n es bs e S (λ new t rest q R. (
            new,
            type_fits x t rest j n cs q R,
            sound_past (type_takes ns x t rest j n cs q) R (λ ts₂ e₂ S₂.
                sound_sign ts₂ e₂ S₂ (λ o p. after_bar (plain ns (behind x n) cs) o p) (λ ts₃ e₃ S₃.
                labels_fit ls ts₃ k (behind x n) (w.spelled ∷ es) bs e₃ S₃)),
          ))

  -- past a definition's name and `=`, to the first token of its type
  sound_definition :
      {G : Type 0} (w : Token) (x : Ty) (ts : List Token) (j : List Symbol) (n : ℕ) (ns : List (List ℕ))
      → symbols ts ≡ word w ∷ sign "=" ∷ write_type x j → Sound (counted a_definition n ns []) ts
      → ((t : Token) (rest : List Token) → symbols (t ∷ rest) ≡ write_type x j → Sound (seen_after (plain (w.spelled ∷ ns) n []) t) rest → G)
      → G
  sound_definition w x ts j n ns e S g =
      sound_one ts e S (λ t ts₁ p e₁ f m R.
      let S₁ = rw (after_word (counted a_definition n ns []) t w p, symbol_word t w p) at R in
      sound_sign ts₁ e₁ S₁ (λ o q. after_equals (plain (w.spelled ∷ ns) n []) o q) (λ ts₂ e₂ S₂.
      sound_type x j ts₂ e₂ S₂ (λ u rest q _ S₃. g u rest q S₃)))

  text_fits : (x : Text) (ts : List Token) (n : ℕ) (ns : List (List ℕ)) → symbols ts ≡ write_text x → Sound (counted a_definition n ns []) ts → FitText x
  text_fits (last_definition w x) ts n ns e S =
      let j = sign "." ∷ [] in
      sound_definition w x ts j n ns e S (λ t rest q R. type_fits (w.spelled ∷ ns) x t rest j n [] q R)
  text_fits (definition w x ds) ts n ns e S =
      let j = sign "." ∷ write_text ds in
      let ms = w.spelled ∷ ns in
      sound_definition w x ts j n ns e S (λ t rest q R. (
        type_fits ms x t rest j n [] q R,
        sound_past (type_takes ms x t rest j n [] q) R (λ ts₂ e₂ S₂.
            sound_sign ts₂ e₂ S₂ (λ o p. after_dot (plain ms (behind x n) []) o p) (λ ts₃ e₃ S₃.
            text_fits ds ts₃ (behind x n) ms e₃ S₃)),
      ))

-- a word of the text, not reserved, of at most 16 bytes
symbol-plain : (t w : Token) → symbol t ≡ word w → (letter (get_or t.spelled 0 0) ≡ true) × (reserved t.spelled ≡ false)
unfolding symbol
symbol-plain t w e = go (letter (get_or t.spelled 0 0)) refl (reserved t.spelled) refl
  where
    go :
        (b : Bool) → letter (get_or t.spelled 0 0) ≡ b → (c : Bool) → reserved t.spelled ≡ c
        → (letter (get_or t.spelled 0 0) ≡ true) × (reserved t.spelled ≡ false)
    go true p false q = (p, q)
    go true p true q = let z : ◌≡◌ {A = ℕ} 0 1 = cc in absurd (omega arith)
    go false p c q = let z : ◌≡◌ {A = ℕ} 0 1 = cc in absurd (omega arith)

word_bytes_behind : (w : List ℕ) → word_bytes w ≡ true → word_bytes (drop 1 w) ≡ true
unfolding word_bytes
word_bytes_behind [] e = refl
word_bytes_behind (b ∷ w) e = and_elim_right (word_byte b) (word_bytes w) e

is_word_shape : (w : List ℕ) → 0 < length w → length w ≤ word_most → letter (get_or w 0 0) ≡ true → Shape w → is_word w ≡ true
is_word_shape w byte few l (shaped_word m b) = word_true (record { some_byte = byte; few_bytes = few; begins = l; goes_on = word_bytes_behind w b })
is_word_shape w byte few l (shaped_byte n m) = absurd (false≢true (sym m ∙ l))

module _ (s : List ℕ) where
  token_named : (done rest : List Token) (t w : Token) → tokens s ≡ done ++ (t ∷ rest) → length t.spelled ≤ word_most → symbol t ≡ word w → Named s t
  unfolding may_name
  token_named done rest t w e few p =
      let (part_of, byte, within) = token_spelling s done rest t e in
      let (l, r) = symbol-plain t w p in
      record {
        inside = within;
        is_part = part_of;
        may = and_intro (is_word_shape t.spelled byte few l (token_shape s done rest t e)) (ap not r);
      }

  sound_from : (rest done : List Token) (z : Seen) → tokens s ≡ done ++ rest → Clear z rest → Sound s z rest
  sound_from [] done z e c = ends
  sound_from (t ∷ rest) done z e c =
      goes_on c.0 (λ w p. rw (← symbol_word t w p) (token_named done rest t w e (few_bytes z t c.0) p))
      (sound_from rest (done ++ (t ∷ [])) (seen_after z t) (e ∙ sym (append_assoc done (t ∷ []) rest)) c.1)

nodes_stay : (z : Seen) (t : Token) → z.nodes ≤ text_nodes_most → token_fault z t ≡ none → (seen_after z t).nodes ≤ text_nodes_most
unfolding seen_after nodes_after
nodes_stay z t l e = go (begins_node t) refl
  where
    go : (b : Bool) → begins_node t ≡ b → elim b as (λ b. ℕ) [ true ↦ suc z.nodes | false ↦ z.nodes ] ≤ text_nodes_most
    go true p = few_nodes z t e p
    go false p = l

nodes_most : (z : Seen) (ts : List Token) → z.nodes ≤ text_nodes_most → Clear z ts → (seen_from z ts).nodes ≤ text_nodes_most
unfolding seen_from
nodes_most z [] l c = l
nodes_most z (t ∷ ts) l c = nodes_most (seen_after z t) ts (nodes_stay z t l c.0) c.1

-- a text whose tokens are all in order
module _ {s : List ℕ} {x : Text} (w : Writes s x) (c : Clear unseen (tokens s)) where
  pub text_fit : FitText s x
  text_fit = text_fits s x (tokens s) 0 [] (sym w.written) (sound_from s (tokens s) [] unseen refl c)

  pub text_nodes : behind_text x 0 ≤ text_nodes_most
  text_nodes = rw (ap (λ (z : Seen). z.nodes) (text_counted w)) at (nodes_most unseen (tokens s) (omega arith) c)

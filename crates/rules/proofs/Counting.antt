-- What is counted along a tree that is written: a type leaves its nodes counted and every bracket closed that it opened.
-- Assumes nothing.
use mathlib.Core.List.{List, [], ◌∷◌, ◌++◌, append_assoc, append-nil, nil≢cons, head-eq_of_cons-eq, tail-eq_of_cons-eq}
use mathlib.Core.Logic.{◌⊎◌, inl, inr}
use mathlib.Core.Path.{◌≡◌, refl, sym, ap, ap₂, ◌∙◌}
use Prim.Native.Nat.{ℕ, suc}
use native.Mathlib.Omega.{arith}
use lib.ListN.{length, length-append}
use Rattle.rules.specs.Basics.{first}
use Rattle.rules.specs.Tokens.{Token, Symbol, word, reserved_word, symbol, symbols, tokens}
use Rattle.rules.specs.Notation.{Way, into, out, Ty, ended, name, message, choice, Items, no_items, sort, session, Labels, last_label, label, Text, last_definition, definition, sign, end_position, sort_position, message_sign, choice_sign, opening, closing, write_type, parted, write_items, write_labels, write_text, Writes}
use Rattle.rules.specs.Numbering.{behind, behind_items, behind_labels, behind_text}
use Rattle.rules.specs.Refusals.{Begins, a_definition, a_label, an_item, nothing_new, Seen, one_of, begins_behind, bracket_closed, names_after, entries_after, brackets_after, nodes_after, seen_after, seen_from, seen}
use Rattle.rules.proofs.NamesInOrder.{symbol_word}
use Rattle.rules.proofs.Reached.{seen-append}
use Rattle.rules.proofs.OneToken.{counted}
use Rattle.table.specs.declared.Sort.{Sort}
use Rattle.table.specs.declared.Sort.TheVariants.{String, Float, Boolean, Void}

-- to unfold this is to unfold what one token counts
one_token : Unit {0}
unfolding seen_after begins_behind nodes_after brackets_after one_of first
one_token = tt

-- What has been counted behind one token, by what it is. What begins at it is entered first: a name, a label or an item.
module _ (z : Seen) (t : Token) where
  abbrev pub names_with : List (List ℕ)
  names_with = names_after z.next t.spelled z.names

  abbrev pub brackets_with : List (List (List ℕ))
  brackets_with = entries_after z.next t.spelled z.brackets

  abbrev pub settled : Seen
  settled = counted nothing_new z.nodes names_with brackets_with

  -- a token counts alike where what begins at it has been entered before
  pub settles : seen_after z t ≡ seen_after settled t
  unfolding seen_after
  settles = refl

  pub after_word : (w : Token) → symbol t ≡ word w → seen_after z t ≡ settled
  unfolding one_token
  after_word w e = cc

  pub after_sort : (s : Sort) → symbol t ≡ reserved_word (sort_position s) → seen_after z t ≡ settled
  unfolding one_token
  after_sort String e = cc
  after_sort Float e = cc
  after_sort Boolean e = cc
  after_sort Void e = cc

  pub after_end : symbol t ≡ reserved_word end_position → seen_after z t ≡ counted nothing_new (suc z.nodes) names_with brackets_with
  unfolding one_token
  after_end e = cc

  pub after_message : (d : Way) → symbol t ≡ message_sign d → seen_after z t ≡ counted nothing_new (suc z.nodes) names_with brackets_with
  unfolding one_token
  after_message into e = cc
  after_message out e = cc

  pub after_choice : (d : Way) → symbol t ≡ choice_sign d → seen_after z t ≡ counted nothing_new (suc z.nodes) names_with brackets_with
  unfolding one_token
  after_choice into e = cc
  after_choice out e = cc

  pub after_opening : (d : Way) → symbol t ≡ opening d → seen_after z t ≡ counted an_item z.nodes names_with ([] ∷ brackets_with)
  unfolding one_token
  after_opening into e = cc
  after_opening out e = cc

  pub after_closing : (d : Way) → symbol t ≡ closing d → seen_after z t ≡ counted nothing_new z.nodes names_with (bracket_closed brackets_with)
  unfolding one_token
  after_closing into e = cc
  after_closing out e = cc

  pub after_open_brace : symbol t ≡ sign "{" → seen_after z t ≡ counted a_label z.nodes names_with ([] ∷ brackets_with)
  unfolding one_token
  after_open_brace e = cc

  pub after_close_brace : symbol t ≡ sign "}" → seen_after z t ≡ counted nothing_new z.nodes names_with (bracket_closed brackets_with)
  unfolding one_token
  after_close_brace e = cc

  pub after_semicolon : symbol t ≡ sign ";" → seen_after z t ≡ settled
  unfolding one_token
  after_semicolon e = cc

  pub after_colon : symbol t ≡ sign ":" → seen_after z t ≡ settled
  unfolding one_token
  after_colon e = cc

  pub after_equals : symbol t ≡ sign "=" → seen_after z t ≡ settled
  unfolding one_token
  after_equals e = cc

  pub after_comma : symbol t ≡ sign "," → seen_after z t ≡ counted an_item z.nodes names_with brackets_with
  unfolding one_token
  after_comma e = cc

  pub after_bar : symbol t ≡ sign "|" → seen_after z t ≡ counted a_label z.nodes names_with brackets_with
  unfolding one_token
  after_bar e = cc

  pub after_dot : symbol t ≡ sign "." → seen_after z t ≡ counted a_definition z.nodes names_with brackets_with
  unfolding one_token
  after_dot e = cc

-- What a type leaves counted that begins with the token t: its nodes, and an entry where an item began with it.
abbrev pub after_type : Seen → Token → Ty → Seen
after_type z t x =
    record {
      next = nothing_new;
      nodes = behind x z.nodes;
      names = z.names;
      brackets = entries_after z.next t.spelled z.brackets;
    }

-- that the tokens ts begin with some that leave z₁ counted, and that the symbols of the rest are k
pub record Takes (z : Seen) (ts : List Token) (z₁ : Seen) (k : List Symbol) : Type 0 where
  pub taken : List Token
  pub rest : List Token
  pub split : ts ≡ taken ++ rest
  pub written : symbols rest ≡ k
  pub counted : seen_from z taken ≡ z₁

-- no token
takes_none : {z : Seen} {ts : List Token} {k : List Symbol} → symbols ts ≡ k → Takes z ts z k
unfolding seen_from
takes_none {ts} e = record { taken = []; rest = ts; split = refl; written = e; counted = refl }

-- one part, and then another
takes_then :
    {z z₁ z₂ : Seen} {ts : List Token} {j k : List Symbol} → Takes z ts z₁ j
    → ((rest : List Token) → symbols rest ≡ j → Takes z₁ rest z₂ k) → Takes z ts z₂ k
takes_then {z} {ts} S f =
    let T = f S.rest S.written in
    record {
      taken = S.taken ++ T.taken;
      rest = T.rest;
      split = S.split ∙ ap (λ (l : List Token). S.taken ++ l) T.split ∙ sym (append_assoc S.taken T.taken T.rest);
      written = T.written;
      counted = seen-append z S.taken T.taken ∙ rw S.counted T.counted;
    }

takes_first : {z z₁ : Seen} {ts : List Token} {k : List Symbol} (t : Token) → Takes (seen_after z t) ts z₁ k → Takes z (t ∷ ts) z₁ k
unfolding seen_from
takes_first t T =
    record { taken = t ∷ T.taken; rest = T.rest; split = ap (λ (l : List Token). t ∷ l) T.split; written = T.written; counted = T.counted }

-- one token, and then the rest
takes_one :
    {z z₂ : Seen} {a : Symbol} {j k : List Symbol} (ts : List Token) → symbols ts ≡ a ∷ j
    → ((t : Token) (rest : List Token) → symbol t ≡ a → symbols rest ≡ j → Takes (seen_after z t) rest z₂ k) → Takes z ts z₂ k
takes_one [] e f = absurd (nil≢cons e)
takes_one (t ∷ ts) e f = takes_first t (f t ts (cc) (cc))

-- where it does not matter how the token is spelled
takes_sign :
    {z z₁ z₂ : Seen} {a : Symbol} {j k : List Symbol} (ts : List Token) → symbols ts ≡ a ∷ j
    → ((t : Token) → symbol t ≡ a → seen_after z t ≡ z₁) → ((rest : List Token) → symbols rest ≡ j → Takes z₁ rest z₂ k) → Takes z ts z₂ k
takes_sign ts e f g = takes_one ts e (λ t rest p q. rw (f t p) (g rest q))

-- a type has a first token
pub type_some : (x : Ty) (k : List Symbol) → [] ≡ write_type x k → ⊥
type_some ended k e = nil≢cons e
type_some (name w) k e = nil≢cons e
type_some (message d xs x) k e = nil≢cons e
type_some (choice d ls) k e = nil≢cons e

takes_type :
    {z z₂ : Seen} {k : List Symbol} (x : Ty) (j : List Symbol) (ts : List Token) → symbols ts ≡ write_type x j
    → ((t : Token) (rest : List Token) → symbols (t ∷ rest) ≡ write_type x j → Takes (seen_after z t) rest z₂ k) → Takes z ts z₂ k
takes_type x j [] e f = absurd (type_some x j e)
takes_type x j (t ∷ ts) e f = takes_first t (f t ts e)

-- Inside a definition the names ns stay; brackets that were open before a tree are open behind it.
module _ (ns : List (List ℕ)) where
  -- where nothing new begins, n nodes are counted, and these brackets are open
  abbrev pub plain : ℕ → List (List (List ℕ)) → Seen
  plain n bs = counted nothing_new n ns bs

  -- behind an item
  pub rest_takes :
      (xs : Items) (d : Way) (ts : List Token) (k : List Symbol) (n : ℕ) (es : List (List ℕ)) (bs : List (List (List ℕ)))
      → symbols ts ≡ parted xs (write_items d xs k)
      → ((rest : List Token) → symbols rest ≡ write_items d xs k → Takes (counted an_item n ns (es ∷ bs)) rest (plain (behind_items xs n) bs) k)
      → Takes (plain n (es ∷ bs)) ts (plain (behind_items xs n) bs) k
  rest_takes no_items d ts k n es bs e f = takes_sign ts e (λ o p. after_closing (plain n (es ∷ bs)) o d p) (λ rest q. takes_none q)
  rest_takes (sort s xs) d ts k n es bs e f = takes_sign ts e (λ o p. after_comma (plain n (es ∷ bs)) o p) f
  rest_takes (session x xs) d ts k n es bs e f = takes_sign ts e (λ o p. after_comma (plain n (es ∷ bs)) o p) f

  -- a label, its colon and its type, which is taken as the first function says, and what is behind, with one more label entered
  label_takes :
      {z : Seen} {k : List Symbol} (w : Token) (x : Ty) (ts : List Token) (j : List Symbol) (n : ℕ) (es : List (List ℕ)) (bs : List (List (List ℕ)))
      → symbols ts ≡ word w ∷ sign ":" ∷ write_type x j
      → ((t : Token) (rest : List Token) (cs : List (List (List ℕ))) → symbols (t ∷ rest) ≡ write_type x j
      → Takes (seen_after (plain n cs) t) rest (plain (behind x n) cs) j)
      → ((fs : List (List ℕ)) (rest : List Token) → symbols rest ≡ j → Takes (plain (behind x n) (fs ∷ bs)) rest z k)
      → Takes (counted a_label n ns (es ∷ bs)) ts z k
  label_takes w x ts j n es bs e f g =
      takes_one ts e (λ t ts₁ p e₁.
      rw (after_word (counted a_label n ns (es ∷ bs)) t w p)
      (takes_sign ts₁ e₁ (λ o q. after_colon (plain n ((t.spelled ∷ es) ∷ bs)) o q) (λ ts₂ e₂.
      takes_then (takes_type x j ts₂ e₂ (λ u rest q. f u rest ((t.spelled ∷ es) ∷ bs) q)) (λ ts₃ e₃. g (t.spelled ∷ es) ts₃ e₃))))

  mutual
    pub type_takes :
        (x : Ty) (t : Token) (ts : List Token) (k : List Symbol) (n : ℕ) (bs : List (List (List ℕ))) → symbols (t ∷ ts) ≡ write_type x k
        → Takes (seen_after (plain n bs) t) ts (plain (behind x n) bs) k
    type_takes ended t ts k n bs e = rw (after_end (plain n bs) t (cc)) (takes_none (cc))
    type_takes (name w) t ts k n bs e = rw (after_word (plain n bs) t w (cc)) (takes_none (cc))
    type_takes (message d xs x) t ts k n bs e =
        rw (after_message (plain n bs) t d (cc))
        (takes_sign ts (cc) (λ o p. after_opening (plain (suc n) bs) o d p) (λ ts₁ e₁.
        takes_then (items_take xs d ts₁ (sign ";" ∷ write_type x k) (suc n) [] bs e₁) (λ ts₂ e₂.
        takes_sign ts₂ e₂ (λ o p. after_semicolon (plain (behind_items xs (suc n)) bs) o p) (λ ts₃ e₃.
        takes_type x k ts₃ e₃ (λ u rest q. type_takes x u rest k (behind_items xs (suc n)) bs q)))))
    type_takes (choice d ls) t ts k n bs e =
        rw (after_choice (plain n bs) t d (cc))
        (takes_sign ts (cc) (λ o p. after_open_brace (plain (suc n) bs) o p) (λ ts₁ e₁. labels_take ls ts₁ k (suc n) [] bs e₁))

    -- the items of a list from one on, and what closes it
    pub items_take :
        (xs : Items) (d : Way) (ts : List Token) (k : List Symbol) (n : ℕ) (es : List (List ℕ)) (bs : List (List (List ℕ)))
        → symbols ts ≡ write_items d xs k → Takes (counted an_item n ns (es ∷ bs)) ts (plain (behind_items xs n) bs) k
    items_take no_items d ts k n es bs e = takes_sign ts e (λ o p. after_closing (counted an_item n ns (es ∷ bs)) o d p) (λ rest q. takes_none q)
    items_take (sort s xs) d ts k n es bs e =
        takes_one ts e (λ t ts₁ p e₁.
        rw (after_sort (counted an_item n ns (es ∷ bs)) t s p)
        (rest_takes xs d ts₁ k n (t.spelled ∷ es) bs e₁ (λ ts₂ e₂. items_take xs d ts₂ k n (t.spelled ∷ es) bs e₂)))
    items_take (session x xs) d ts k n es bs e =
        takes_type x (parted xs (write_items d xs k)) ts e (λ t ts₁ e₁.
        rw (settles (counted an_item n ns (es ∷ bs)) t)
        (takes_then (type_takes x t ts₁ (parted xs (write_items d xs k)) n ((t.spelled ∷ es) ∷ bs) e₁) (λ ts₂ e₂.
        rest_takes xs d ts₂ k (behind x n) (t.spelled ∷ es) bs e₂ (λ ts₃ e₃. items_take xs d ts₃ k (behind x n) (t.spelled ∷ es) bs e₃))))

    -- the labels of a choice from one on, and what closes it
    pub labels_take :
        (ls : Labels) (ts : List Token) (k : List Symbol) (n : ℕ) (es : List (List ℕ)) (bs : List (List (List ℕ)))
        → symbols ts ≡ write_labels ls k → Takes (counted a_label n ns (es ∷ bs)) ts (plain (behind_labels ls n) bs) k
    labels_take (last_label w x) ts k n es bs e =
        label_takes w x ts (sign "}" ∷ k) n es bs e (λ t rest cs q. type_takes x t rest (sign "}" ∷ k) n cs q) (λ fs ts₁ e₁.
        takes_sign ts₁ e₁ (λ o q. after_close_brace (plain (behind x n) (fs ∷ bs)) o q) (λ rest q. takes_none q))
    labels_take (label w x ls) ts k n es bs e =
        let j = sign "|" ∷ write_labels ls k in
        label_takes w x ts j n es bs e (λ t rest cs q. type_takes x t rest j n cs q) (λ fs ts₁ e₁.
        takes_sign ts₁ e₁ (λ o q. after_bar (plain (behind x n) (fs ∷ bs)) o q) (λ ts₂ e₂. labels_take ls ts₂ k (behind x n) fs bs e₂))

names_stay : (b : Begins) (w : List ℕ) (ns : List (List ℕ)) → (b ≡ an_item) ⊎ (b ≡ nothing_new) → names_after b w ns ≡ ns
names_stay b w ns (inl e) = rw e
names_stay b w ns (inr e) = rw e

-- a type, in a list of items or not
pub type_counted :
    (z : Seen) (x : Ty) (t : Token) (ts : List Token) (k : List Symbol) → (z.next ≡ an_item) ⊎ (z.next ≡ nothing_new)
    → symbols (t ∷ ts) ≡ write_type x k → Takes z (t ∷ ts) (after_type z t x) k
type_counted z x t ts k i e =
    let q = ap (λ (ns : List (List ℕ)). seen_after (plain ns z.nodes (brackets_with z t)) t) (names_stay z.next t.spelled z.names i) in
    takes_first t (rw (settles z t ∙ q) (type_takes z.names x t ts k z.nodes (brackets_with z t) e))

symbols-length : (ts : List Token) → length (symbols ts) ≡ length ts
symbols-length [] = refl
symbols-length (t ∷ ts) = ap suc (symbols-length ts)

-- two splits of one list whose last parts are as long
same_front : (a b c d : List Token) → a ++ b ≡ c ++ d → length b ≡ length d → a ≡ c
same_front [] b [] d e l = refl
same_front [] b (y ∷ c) d e l = absurd (omega (arith, ap length e, length-append c d))
same_front (x ∷ a) b [] d e l = absurd (omega (arith, ap length e, length-append a b))
same_front (x ∷ a) b (y ∷ c) d e l = ap₂ {C = List Token} ◌∷◌ (head-eq_of_cons-eq e) (same_front a b c d (tail-eq_of_cons-eq e) l)

-- the tokens that a type is written with
pub taken_counted :
    (z : Seen) (x : Ty) (t : Token) (ts rest : List Token) → (z.next ≡ an_item) ⊎ (z.next ≡ nothing_new)
    → symbols (t ∷ (ts ++ rest)) ≡ write_type x (symbols rest) → seen_from z (t ∷ ts) ≡ after_type z t x
taken_counted z x t ts rest i e =
    let T = type_counted z x t (ts ++ rest) (symbols rest) i e in
    let l : length rest ≡ length T.rest = sym (symbols-length rest) ∙ ap length (sym T.written) ∙ symbols-length T.rest in
    rw (same_front (t ∷ ts) rest T.taken T.rest T.split l) T.counted

-- the names of the definitions, the last first
abbrev pub names_behind : Text → List (List ℕ) → List (List ℕ)
names_behind (last_definition w x) ns = w.spelled ∷ ns
names_behind (definition w x ds) ns = names_behind ds (w.spelled ∷ ns)

-- a definition, and what is behind it
definition_takes :
    {z : Seen} (w : Token) (x : Ty) (ts : List Token) (k : List Symbol) (n : ℕ) (ns : List (List ℕ))
    → symbols ts ≡ word w ∷ sign "=" ∷ write_type x (sign "." ∷ k)
    → ((rest : List Token) → symbols rest ≡ k → Takes (counted a_definition (behind x n) (w.spelled ∷ ns) []) rest z [])
    → Takes (counted a_definition n ns []) ts z []
definition_takes w x ts k n ns e f =
    takes_one ts e (λ t ts₁ p e₁.
    rw (after_word (counted a_definition n ns []) t w p, symbol_word t w p)
    (takes_sign ts₁ e₁ (λ o q. after_equals (plain (w.spelled ∷ ns) n []) o q) (λ ts₂ e₂.
    takes_then (takes_type x (sign "." ∷ k) ts₂ e₂ (λ u rest q. type_takes (w.spelled ∷ ns) x u rest (sign "." ∷ k) n [] q)) (λ ts₃ e₃.
    takes_sign ts₃ e₃ (λ o q. after_dot (plain (w.spelled ∷ ns) (behind x n) []) o q) f))))

text_takes :
    (x : Text) (ts : List Token) (n : ℕ) (ns : List (List ℕ)) → symbols ts ≡ write_text x
    → Takes (counted a_definition n ns []) ts (counted a_definition (behind_text x n) (names_behind x ns) []) []
text_takes (last_definition w x) ts n ns e = definition_takes w x ts [] n ns e (λ rest q. takes_none q)
text_takes (definition w x ds) ts n ns e = definition_takes w x ts (write_text ds) n ns e (λ rest q. text_takes ds rest (behind x n) (w.spelled ∷ ns) q)

pub text_counted : {s : List ℕ} {x : Text} → Writes s x → seen (tokens s) ≡ counted a_definition (behind_text x 0) (names_behind x []) []
text_counted {s} {x} w =
    let T = text_takes x (tokens s) 0 [] (sym w.written) in
    let l : 0 ≡ length T.rest = ap length (sym T.written) ∙ symbols-length T.rest in
    rw (same_front (tokens s) [] T.taken T.rest (append-nil (tokens s) ∙ T.split) l) T.counted

-- Where the machine goes from an item's first token, and from what stands behind an item.
-- Assumes nothing.
use mathlib.Core.Bool.{Bool, true, false, false≢true}
use mathlib.Core.List.{List, [], ◌∷◌}
use mathlib.Core.Logic.{◌⊎◌, inl, inr}
use mathlib.Core.Path.{◌≡◌, refl, sym, ap, ◌∙◌}
use Prim.Native.Char.{code}
use Prim.Native.Nat.{ℕ, zero, suc, ◌+◌, ◌-◌, ◌<◌, ◌≤◌}
use native.Mathlib.Omega.{arith}
use borrow.Author.Tests.{eqb-true, ltb-true, lt-ltb, le-ltb, lt-leb}
use lib.Dec.{eqb, ltb}
use lib.ListN.{length}
use Rattle.rules.specs.Basics.{first}
use Rattle.rules.specs.Words.{reserved_words}
use Rattle.rules.specs.Tokens.{Symbol, word, reserved_word, one_byte}
use Rattle.rules.specs.Notation.{Way, into, out, closing, end_position, sort_position}
use Rattle.rules.specs.Refusals.{nothing_new, an_item, one_of}
use Rattle.rules.proofs.Machine.{a_type, some_items, more_items, Stack, on, stuck, Row, ◌⇒◌, look, type_rows, in_message, in_choice, step, close_byte}
use Rattle.rules.proofs.Machine as expect
use Rattle.rules.proofs.OneToken.{opens_symbol, closes_symbol, begins_symbol, next_symbol}
use Rattle.cursor.specs.Takes.{kind, reserved_kind, word_kind, end_kind}
use Rattle.cursor.proofs.Symbols.{kind_of_word, kind_of_byte, kind_of-reserved}
use Rattle.flat.specs.Flat.{sort_number}
use Rattle.table.specs.declared.Sort.{Sort}
use Rattle.table.specs.declared.Sort.TheVariants.{String, Float, Boolean, Void}
use Rattle.type_reader.specs.Leaves.{begins_type, begins_item, is_sort}
use Rattle.type_reader.proofs.Signs.{Plain}
use Rattle.type_reader.proofs.Begins.{look-past, no-row}
use Rattle.type_reader.proofs.Sorts.{sort_between}

-- a further row does not matter where the rows behind lead alike
look_more : (b : ℕ) (r : Row) (rs us : List Row) → look rs b ≡ look us b → look (r ∷ rs) b ≡ look (r ∷ us) b
unfolding look
look_more b (c ⇒ K) rs us e = go (eqb b c) refl
  where
    go : (q : Bool) → eqb b c ≡ q → look ((c ⇒ K) ∷ rs) b ≡ look ((c ⇒ K) ∷ us) b
    go true q = rw (look, q) refl
    go false q = rw (look, q) e

type_more : (b : ℕ) (K : Stack) (rs us : List Row) → look rs b ≡ look us b → look (type_rows K rs) b ≡ look (type_rows K us) b
type_more b K rs us e =
    look_more b (code "?" ⇒ in_message into K) _ _
    (look_more b (code "!" ⇒ in_message out K) _ _ (look_more b (code "&" ⇒ in_choice K) _ _ (look_more b (code "+" ⇒ in_choice K) _ _ e)))

-- first in its list an item is what it is behind a comma, unless the list is closed at once
pub first_item : (d : Way) (K : Stack) (y : Symbol) → (y ≡ one_byte (close_byte d) → ⊥) → step (some_items d ∷ K) y ≡ step (expect.an_item d ∷ K) y
unfolding step
first_item d K (word w) n = refl
first_item d K (reserved_word i) n = refl
first_item d K (one_byte b) n =
    type_more b (more_items d ∷ K) ((close_byte d ⇒ K) ∷ []) []
    (look-past b (close_byte d) K [] (λ q. n (ap one_byte q)) (no-row b) ∙ sym (no-row b))

-- the kinds of the reserved words behind `end` are those of sorts
sort_kind : (i : ℕ) → 0 < i → i < length reserved_words → is_sort (reserved_kind + i) ≡ true
unfolding is_sort
sort_kind i l m = rw (is_sort, lt-leb (reserved_kind + i) reserved_kind (omega arith)) (lt-ltb (reserved_kind + i) word_kind (omega arith))

no-sort-row : (i j : ℕ) → is_sort (kind (reserved_word i)) ≡ false → 0 < j → j < length reserved_words → i ≡ j → ⊥
no-sort-row i j n l m e =
    let k : kind (reserved_word i) ≡ reserved_kind + j = rw e (kind_of-reserved j m) in
    false≢true (sym (rw k at n) ∙ sort_kind j l m)

-- an item that is no sort is a type
pub type_item : (d : Way) (K : Stack) (y : Symbol) → is_sort (kind y) ≡ false → step (expect.an_item d ∷ K) y ≡ step (a_type ∷ more_items d ∷ K) y
unfolding step
type_item d K (word w) n = refl
type_item d K (one_byte b) n = refl
type_item d K (reserved_word i) n =
    look_more i (end_position ⇒ more_items d ∷ K) _ []
    (look-past i (sort_position String) _ _ (no-sort-row i 1 n (omega arith) (omega arith))
    (look-past i (sort_position Float) _ _ (no-sort-row i 2 n (omega arith) (omega arith))
    (look-past i (sort_position Boolean) _ _ (no-sort-row i 3 n (omega arith) (omega arith))
    (look-past i (sort_position Void) _ [] (no-sort-row i 4 n (omega arith) (omega arith)) (no-row i)))) ∙ sym (no-row i))

-- what an item's first symbol does: it opens no bracket, and the machine goes on
pub record ItemGoesOn (d : Way) (K : Stack) (y : Symbol) : Type 0 where
  pub to : Stack
  pub leads : step (expect.an_item d ∷ K) y ≡ on to
  pub no_opening : opens_symbol y ≡ false

reserved_goes_on : (d : Way) (K : Stack) (i : ℕ) → i < length reserved_words → ItemGoesOn d K (reserved_word i)
unfolding step look one_of
reserved_goes_on d K zero l = record { to = more_items d ∷ K; leads = refl; no_opening = refl }
reserved_goes_on d K (suc zero) l = record { to = more_items d ∷ K; leads = refl; no_opening = refl }
reserved_goes_on d K (suc (suc zero)) l = record { to = more_items d ∷ K; leads = refl; no_opening = refl }
reserved_goes_on d K (suc (suc (suc zero))) l = record { to = more_items d ∷ K; leads = refl; no_opening = refl }
reserved_goes_on d K (suc (suc (suc (suc zero)))) l = record { to = more_items d ∷ K; leads = refl; no_opening = refl }
reserved_goes_on d K (suc (suc (suc (suc (suc i))))) l = absurd (omega arith)

-- one of the four bytes
type_byte : (b : ℕ) → begins_type b ≡ true → (b ≡ code "?") ⊎ ((b ≡ code "!") ⊎ ((b ≡ code "&") ⊎ (b ≡ code "+")))
unfolding begins_type
type_byte b e = one (eqb b (code "?")) refl
  where
    three : eqb b (code "?") ≡ false → eqb b (code "!") ≡ false → (q : Bool) → eqb b (code "&") ≡ q → (b ≡ code "?") ⊎ ((b ≡ code "!") ⊎ ((b ≡ code "&") ⊎ (b ≡ code "+")))
    three f g true q = inr (inr (inl (eqb-true b (code "&") q)))
    three f g false q = inr (inr (inr (eqb-true b (code "+") (rw (begins_type, f, g, q) at e))))

    two : eqb b (code "?") ≡ false → (q : Bool) → eqb b (code "!") ≡ q → (b ≡ code "?") ⊎ ((b ≡ code "!") ⊎ ((b ≡ code "&") ⊎ (b ≡ code "+")))
    two f true q = inr (inl (eqb-true b (code "!") q))
    two f false q = three f q (eqb b (code "&")) refl

    one : (q : Bool) → eqb b (code "?") ≡ q → (b ≡ code "?") ⊎ ((b ≡ code "!") ⊎ ((b ≡ code "&") ⊎ (b ≡ code "+")))
    one true q = inl (eqb-true b (code "?") q)
    one false q = two q (eqb b (code "!")) refl

byte_goes_on : (d : Way) (K : Stack) (b : ℕ) → begins_type b ≡ true → ItemGoesOn d K (one_byte b)
unfolding step look one_of first
byte_goes_on d K b e =
    elim (type_byte b e) [
      | inl q ↦ rw q (record { to = in_message into (more_items d ∷ K); leads = refl; no_opening = refl })
      | inr (inl q) ↦ rw q (record { to = in_message out (more_items d ∷ K); leads = refl; no_opening = refl })
      | inr (inr (inl q)) ↦ rw q (record { to = in_choice (more_items d ∷ K); leads = refl; no_opening = refl })
      | inr (inr (inr q)) ↦ rw q (record { to = in_choice (more_items d ∷ K); leads = refl; no_opening = refl })
    ]

no_byte : begins_item 263 ≡ false
unfolding begins_item
no_byte = refl

pub item_goes_on : (d : Way) (K : Stack) (y : Symbol) → begins_item (kind y) ≡ true → ItemGoesOn d K y
unfolding kind begins_item step one_of
item_goes_on d K (word w) e = record { to = more_items d ∷ K; leads = refl; no_opening = refl }
item_goes_on d K (reserved_word i) e = go (ltb i (length reserved_words)) refl
  where
    go : (q : Bool) → ltb i (length reserved_words) ≡ q → ItemGoesOn d K (reserved_word i)
    go true q = reserved_goes_on d K i (ltb-true i (length reserved_words) q)
    go false q = let z : begins_item 263 ≡ true = rw (kind, q) at e in absurd (false≢true (sym no_byte ∙ z))
item_goes_on d K (one_byte b) e = go (ltb b reserved_kind) refl
  where
    go : (q : Bool) → ltb b reserved_kind ≡ q → ItemGoesOn d K (one_byte b)
    go true q = byte_goes_on d K b (let z : begins_item b ≡ true = rw (kind, q) at e in rw (begins_item, q) at z)
    go false q = let z : begins_item 263 ≡ true = rw (kind, q) at e in absurd (false≢true (sym no_byte ∙ z))

four_begin : (begins_item (code "?") ≡ true) × (begins_item (code "!") ≡ true) × (begins_item (code "&") ≡ true) × (begins_item (code "+") ≡ true)
unfolding begins_item begins_type
four_begin = (refl, refl, refl, refl)

-- a byte with which no item begins
byte_stuck : (d : Way) (K : Stack) (b : ℕ) → begins_item (kind (one_byte b)) ≡ false → step (expect.an_item d ∷ K) (one_byte b) ≡ stuck
unfolding step
byte_stuck d K b n =
    look-past b (code "?") _ _ (other (code "?") (omega arith) yes₁)
    (look-past b (code "!") _ _ (other (code "!") (omega arith) yes₂)
    (look-past b (code "&") _ _ (other (code "&") (omega arith) yes₃) (look-past b (code "+") _ [] (other (code "+") (omega arith) yes₄) (no-row b))))
  where
    other : (c : ℕ) → c < reserved_kind → begins_item c ≡ true → b ≡ c → ⊥
    other c l y q = false≢true (sym (rw (q, kind_of_byte c l) at n) ∙ y)

    yes₁ : begins_item (code "?") ≡ true
    yes₁ = four_begin.0

    yes₂ : begins_item (code "!") ≡ true
    yes₂ = four_begin.1

    yes₃ : begins_item (code "&") ≡ true
    yes₃ = four_begin.2

    yes₄ : begins_item (code "+") ≡ true
    yes₄ = four_begin.3

begins_between : (k : ℕ) → reserved_kind ≤ k → k < end_kind → begins_item k ≡ true
unfolding begins_item
begins_between k l m = rw (begins_item, le-ltb k reserved_kind l) (lt-ltb k end_kind m)

reserved_begins : (i : ℕ) → i < length reserved_words → begins_item (kind (reserved_word i)) ≡ true
reserved_begins i l = rw (kind_of-reserved i l) (begins_between (reserved_kind + i) (omega arith) (omega arith))

reserved-stuck : (d : Way) (K : Stack) (i : ℕ) → begins_item (kind (reserved_word i)) ≡ false → step (expect.an_item d ∷ K) (reserved_word i) ≡ stuck
unfolding step
reserved-stuck d K i n =
    look-past i end_position _ _ (other 0 (omega arith))
    (look-past i (sort_position String) _ _ (other 1 (omega arith))
    (look-past i (sort_position Float) _ _ (other 2 (omega arith))
    (look-past i (sort_position Boolean) _ _ (other 3 (omega arith))
    (look-past i (sort_position Void) _ [] (other 4 (omega arith)) (no-row i)))))
  where
    other : (j : ℕ) → j < length reserved_words → i ≡ j → ⊥
    other j l q = false≢true (sym (rw q at n) ∙ reserved_begins j l)

word_begins : begins_item word_kind ≡ true
unfolding begins_item
word_begins = refl

pub item_stuck : (d : Way) (K : Stack) (y : Symbol) → begins_item (kind y) ≡ false → step (expect.an_item d ∷ K) y ≡ stuck
item_stuck d K (word w) n = absurd (false≢true (sym (rw (kind_of_word w) at n) ∙ word_begins))
item_stuck d K (reserved_word i) n = reserved-stuck d K i n
item_stuck d K (one_byte b) n = byte_stuck d K b n

-- which sort it is
pub record IsSort (y : Symbol) : Type 0 where
  pub which : Sort
  pub word_is : y ≡ reserved_word (sort_position which)
  pub number : kind y - reserved_kind - 1 ≡ sort_number which

sort_named : (i : ℕ) → 0 < i → i < length reserved_words → IsSort (reserved_word i)
unfolding kind
sort_named zero l m = absurd (omega arith)
sort_named (suc zero) l m = record { which = String; word_is = refl; number = refl }
sort_named (suc (suc zero)) l m = record { which = Float; word_is = refl; number = refl }
sort_named (suc (suc (suc zero))) l m = record { which = Boolean; word_is = refl; number = refl }
sort_named (suc (suc (suc (suc zero)))) l m = record { which = Void; word_is = refl; number = refl }
sort_named (suc (suc (suc (suc (suc i))))) l m = absurd (omega arith)

pub a_sort : (y : Symbol) → is_sort (kind y) ≡ true → IsSort y
unfolding kind
a_sort (word w) e = absurd (omega (arith, (sort_between word_kind e).1))
a_sort (reserved_word i) e = go (ltb i (length reserved_words)) refl
  where
    go : (q : Bool) → ltb i (length reserved_words) ≡ q → IsSort (reserved_word i)
    go true q =
        let z : is_sort (reserved_kind + i) ≡ true = rw (kind, q) at e in
        sort_named i (omega (arith, (sort_between (reserved_kind + i) z).0)) (ltb-true i (length reserved_words) q)
    go false q = let z : is_sort 263 ≡ true = rw (kind, q) at e in absurd (omega (arith, (sort_between 263 z).1))
a_sort (one_byte b) e = go (ltb b reserved_kind) refl
  where
    go : (q : Bool) → ltb b reserved_kind ≡ q → IsSort (one_byte b)
    go true q = let z : is_sort b ≡ true = rw (kind, q) at e in absurd (omega (arith, (sort_between b z).0, ltb-true b reserved_kind q))
    go false q = let z : is_sort 263 ≡ true = rw (kind, q) at e in absurd (omega (arith, (sort_between 263 z).1))

pub sort_leads : (d : Way) (K : Stack) (s : Sort) → step (expect.an_item d ∷ K) (reserved_word (sort_position s)) ≡ on (more_items d ∷ K)
unfolding step look
sort_leads d K String = refl
sort_leads d K Float = refl
sort_leads d K Boolean = refl
sort_leads d K Void = refl

-- a sort opens nothing and begins no node
pub record Quiet (y : Symbol) : Type 0 where
  pub no_opening : opens_symbol y ≡ false
  pub no_closing : closes_symbol y ≡ false
  pub no_node : begins_symbol y ≡ false
  pub goes_on : next_symbol y ≡ nothing_new

pub sort_quiet : (s : Sort) → Quiet (reserved_word (sort_position s))
unfolding one_of
sort_quiet String = record { no_opening = refl; no_closing = refl; no_node = refl; goes_on = refl }
sort_quiet Float = record { no_opening = refl; no_closing = refl; no_node = refl; goes_on = refl }
sort_quiet Boolean = record { no_opening = refl; no_closing = refl; no_node = refl; goes_on = refl }
sort_quiet Void = record { no_opening = refl; no_closing = refl; no_node = refl; goes_on = refl }

-- the bracket that closes a list
pub record Closing (b : ℕ) : Type 0 where
  pub byte : b < reserved_kind
  pub no_opening : opens_symbol (one_byte b) ≡ false
  pub closing : closes_symbol (one_byte b) ≡ true
  pub no_node : begins_symbol (one_byte b) ≡ false
  pub goes_on : next_symbol (one_byte b) ≡ nothing_new

pub close_items : (d : Way) → Closing (close_byte d)
unfolding one_of first
close_items into = record { byte = omega arith; no_opening = refl; closing = refl; no_node = refl; goes_on = refl }
close_items out = record { byte = omega arith; no_opening = refl; closing = refl; no_node = refl; goes_on = refl }

pub close_labels : Closing (code "}")
unfolding one_of first
close_labels = record { byte = omega arith; no_opening = refl; closing = refl; no_node = refl; goes_on = refl }

pub closing_sign : (d : Way) → closing d ≡ one_byte (close_byte d)
closing_sign into = refl
closing_sign out = refl

pub none_closes : (d : Way) (K : Stack) → step (some_items d ∷ K) (one_byte (close_byte d)) ≡ on K
unfolding step look
none_closes into K = refl
none_closes out K = refl

pub rest_closes : (d : Way) (K : Stack) → step (more_items d ∷ K) (one_byte (close_byte d)) ≡ on K
unfolding step look
rest_closes into K = refl
rest_closes out K = refl

pub rest_comma : (d : Way) (K : Stack) → step (more_items d ∷ K) (one_byte (code ",")) ≡ on (expect.an_item d ∷ K)
unfolding step look
rest_comma d K = refl

pub rest_stuck : (d : Way) (K : Stack) (y : Symbol) → (y ≡ one_byte (close_byte d) → ⊥) → (y ≡ one_byte (code ",") → ⊥) → step (more_items d ∷ K) y ≡ stuck
unfolding step
rest_stuck d K (word w) n m = refl
rest_stuck d K (reserved_word i) n m = no-row i
rest_stuck d K (one_byte b) n m = look-past b (code ",") _ _ (λ q. m (ap one_byte q)) (look-past b (close_byte d) K [] (λ q. n (ap one_byte q)) (no-row b))

pub comma : Plain (code ",")
unfolding one_of first
comma = record { byte = omega arith; no_opening = refl; no_closing = refl; no_node = refl }

pub comma_next : next_symbol (one_byte (code ",")) ≡ an_item
unfolding one_of first
comma_next = refl

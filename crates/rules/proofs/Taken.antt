-- The machine takes every text: the symbols of a tree lead on to what comes after it.
-- Assumes nothing.
use mathlib.Core.List.{List, [], ◌∷◌}
use mathlib.Core.Path.{◌≡◌, refl, ap, ◌∙◌}
use Prim.Native.Char.{code}
use Prim.Native.Nat.{ℕ}
use borrow.Author.Tests.{eq-eqb}
use Rattle.rules.specs.Tokens.{Symbol, reserved_word, one_byte}
use Rattle.rules.specs.Notation.{Way, into, out, Ty, ended, name, message, choice, Items, no_items, sort, session, Labels, last_label, label, Text, last_definition, definition, sign, sort_position, parted, write_type, write_items, write_labels, write_text}
use Rattle.rules.proofs.Machine.{Expect, this, a_type, some_items, an_item, more_items, a_label, more_labels, Stack, on, Row, ◌⇒◌, look, step, and_then, run, start}
use Rattle.table.specs.declared.Sort.{Sort}
use Rattle.table.specs.declared.Sort.TheVariants.{String, Float, Boolean, Void}

-- the first row of a table is found
pub look_first : (b : ℕ) (K : Stack) (rs : List Row) → look ((b ⇒ K) ∷ rs) b ≡ on K
unfolding look
look_first b K rs = rw (look, eq-eqb b b refl)

-- the byte that is expected
pub this_step : (b : ℕ) (K : Stack) → step (this b ∷ K) (one_byte b) ≡ on K
unfolding step
this_step b K = look_first b K []

pub this_on : (b : ℕ) (K : Stack) (k : List Symbol) → run (this b ∷ K) (one_byte b ∷ k) ≡ run K k
unfolding run
this_on b K k = ap (λ n. and_then n (λ J. run J k)) (this_step b K)

-- where an item may stand: first in its list, or behind a comma
pub data ItemPlace : Expect → Way → Type 0 where
  first : {d : Way} → ItemPlace (some_items d) d
  later : {d : Way} → ItemPlace (an_item d) d

pub sort_on :
    (s : Sort) {e : Expect} {d : Way} → ItemPlace e d → (K : Stack) (k : List Symbol)
    → run (e ∷ K) (reserved_word (sort_position s) ∷ k) ≡ run (more_items d ∷ K) k
unfolding run step look
sort_on String first K k = refl
sort_on String later K k = refl
sort_on Float first K k = refl
sort_on Float later K k = refl
sort_on Boolean first K k = refl
sort_on Boolean later K k = refl
sort_on Void first K k = refl
sort_on Void later K k = refl

-- an item that is a type
pub session_on :
    (x : Ty) {e : Expect} {d : Way} → ItemPlace e d → (K : Stack) (k : List Symbol)
    → run (e ∷ K) (write_type x k) ≡ run (a_type ∷ more_items d ∷ K) (write_type x k)
unfolding run step look
session_on ended first K k = refl
session_on ended later K k = refl
session_on (name w) first K k = refl
session_on (name w) later K k = refl
session_on (message into xs x) first K k = refl
session_on (message into xs x) later K k = refl
session_on (message out xs x) first K k = refl
session_on (message out xs x) later K k = refl
session_on (choice into ls) first K k = refl
session_on (choice into ls) later K k = refl
session_on (choice out ls) first K k = refl
session_on (choice out ls) later K k = refl

mutual
  unfolding run step look

  pub type_on : (x : Ty) (K : Stack) (k : List Symbol) → run (a_type ∷ K) (write_type x k) ≡ run K k
  type_on ended K k = refl
  type_on (name w) K k = refl
  type_on (message into xs x) K k = items_on xs into (this (code ";") ∷ a_type ∷ K) (sign ";" ∷ write_type x k) ∙ type_on x K k
  type_on (message out xs x) K k = items_on xs out (this (code ";") ∷ a_type ∷ K) (sign ";" ∷ write_type x k) ∙ type_on x K k
  type_on (choice into ls) K k = labels_on ls K k
  type_on (choice out ls) K k = labels_on ls K k

  -- behind an opening bracket
  pub items_on : (xs : Items) (d : Way) (K : Stack) (k : List Symbol) → run (some_items d ∷ K) (write_items d xs k) ≡ run K k
  items_on no_items into K k = refl
  items_on no_items out K k = refl
  items_on (sort s xs) d K k = sort_on s first K (parted xs (write_items d xs k)) ∙ rest_on xs d K k
  items_on (session x xs) d K k =
      session_on x first K (parted xs (write_items d xs k)) ∙ type_on x (more_items d ∷ K) (parted xs (write_items d xs k))
      ∙ rest_on xs d K k

  -- behind an item
  pub rest_on : (xs : Items) (d : Way) (K : Stack) (k : List Symbol) → run (more_items d ∷ K) (parted xs (write_items d xs k)) ≡ run K k
  rest_on no_items into K k = refl
  rest_on no_items out K k = refl
  rest_on (sort s xs) d K k = sort_on s later K (parted xs (write_items d xs k)) ∙ rest_on xs d K k
  rest_on (session x xs) d K k =
      session_on x later K (parted xs (write_items d xs k)) ∙ type_on x (more_items d ∷ K) (parted xs (write_items d xs k))
      ∙ rest_on xs d K k

  pub labels_on : (ls : Labels) (K : Stack) (k : List Symbol) → run (a_label ∷ K) (write_labels ls k) ≡ run K k
  labels_on (last_label w x) K k = type_on x (more_labels ∷ K) (sign "}" ∷ k)
  labels_on (label w x ls) K k = type_on x (more_labels ∷ K) (sign "|" ∷ write_labels ls k) ∙ labels_on ls K k

-- a definition's first symbol leads to the same from where the first is expected and from where one more may come
pub text_same_start : (x : Text) → run start (write_text x) ≡ run [] (write_text x)
unfolding run step
text_same_start (last_definition w x) = refl
text_same_start (definition w x ds) = refl

-- further definitions
pub text_more_on : (x : Text) → run [] (write_text x) ≡ on []
unfolding run step look
text_more_on (last_definition w x) = type_on x (this (code ".") ∷ []) (sign "." ∷ [])
text_more_on (definition w x ds) = type_on x (this (code ".") ∷ []) (sign "." ∷ write_text ds) ∙ text_more_on ds

-- the machine takes a text to its end
pub text_on : (x : Text) → run start (write_text x) ≡ on []
text_on x = text_same_start x ∙ text_more_on x

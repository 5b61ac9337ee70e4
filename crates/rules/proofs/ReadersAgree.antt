-- The readers that compute go where the machine goes: what they read is written with the tokens that the machine takes, and where they
-- stop, it is stuck or still expects something.
-- Assumes nothing.
use mathlib.Core.Bool.{Bool, true, false}
use mathlib.Core.List.{List, [], ◌∷◌, ◌++◌}
use mathlib.Core.Option.{Option, none, some}
use mathlib.Core.Path.{◌≡◌, refl, ap, ◌∙◌}
use Prim.Native.Char.{code}
use Prim.Native.Nat.{ℕ, zero, suc, ◌<◌, ◌≤◌}
use native.Mathlib.Omega.{arith}
use lib.Dec.{eqb}
use lib.ListN.{length}
use borrow.Author.Tests.{eqb-true}
use Rattle.rules.specs.Tokens.{Token, Symbol, word, reserved_word, one_byte, symbol, symbols}
use Rattle.rules.specs.Notation.{Way, into, out, Ty, message, choice, Items, sort, session, Labels, label, Text, definition, sign, end_position, sort_position, message_sign, choice_sign, opening, closing, parted, write_type, write_items, write_labels, write_text}
use Rattle.rules.specs.computed.Reading.{Got, got, is_sign, expect, sort_of, Readers, rest_with, session_with, item_with, items_with, message_with, more_with, labels_with, choice_with, type_with, readers, text_with, text_from}
use Rattle.rules.specs.computed.Reading as reader
use Rattle.rules.proofs.Machine.{Expect, this, a_type, some_items, an_item, more_items, a_label, more_labels, Stack, Next, on, stuck, Row, ◌⇒◌, look, open_byte, close_byte, type_rows, item_rows, in_message, in_choice, in_definition, step, start}
use Rattle.rules.proofs.Taken.{this_step}
use Rattle.table.specs.declared.Sort.{Sort}
use Rattle.table.specs.declared.Sort.TheVariants.{String, Float, Boolean, Void}

-- from K before the tokens ts the machine comes to J before the tokens rest
pub data Passes : Stack → List Token → Stack → List Token → Type 0 where
  here : {K : Stack} {ts : List Token} → Passes K ts K ts
  past :
      {K L J : Stack} {t : Token} {ts rest : List Token} → step K (symbol t) ≡ on L → Passes L ts J rest → Passes K (t ∷ ts) J rest

-- it cannot go on: it is stuck at the first token, or there is none and it still expects something
abbrev pub Stops : Stack → List Token → Type 0
Stops K (t ∷ ts) = step K (symbol t) ≡ stuck
Stops [] [] = ⊥
Stops (e ∷ K) [] = Unit {0}

-- What a reader gives at the tokens ts, where the machine expects K: something of which Q says that it is written there, and the machine
-- comes to J behind it; or the tokens at which the machine stops.
pub data Outcome {A : Type 0} (K : Stack) (ts : List Token) (J : Stack) (Q : A → List Token → Type 0) : Got A → Type 0 where
  reads : {x : A} {rest : List Token} → Passes K ts J rest → length rest < length ts → Q x rest → Outcome K ts J Q (got x rest)
  stops : {L : Stack} {rest : List Token} → Passes K ts L rest → Stops L rest → Outcome K ts J Q (reader.stuck rest)

passes_then : {K J L : Stack} {ts us vs : List Token} → Passes K ts J us → Passes J us L vs → Passes K ts L vs
passes_then here q = q
passes_then (past e p) q = past e (passes_then p q)

pub passes_shorter : {K J : Stack} {ts rest : List Token} → Passes K ts J rest → length rest ≤ length ts
passes_shorter here = omega arith
passes_shorter (past e p) = omega (arith, passes_shorter p)

-- One reader behind another, and what is made of what was read.
module _ {A B : Type 0} {K J : Stack} {ts : List Token} {P : A → List Token → Type 0} where
  outcome_then :
      {L : Stack} {Q : B → List Token → Type 0} {o : Got A} (f : A → List Token → Got B) → Outcome K ts J P o
      → ((x : A) (rest : List Token) → length rest < length ts → P x rest → Outcome J rest L Q (f x rest))
      → Outcome K ts L Q (reader.and_then o f)
  outcome_then {L} {Q} f (reads {x} {rest} p l q) g = go (g x rest l q)
    where
      go : {o : Got B} → Outcome J rest L Q o → Outcome K ts L Q o
      go (reads r m h) = reads (passes_then p r) (omega arith) h
      go (stops r h) = stops (passes_then p r) h
  outcome_then f (stops p h) g = stops p h

  outcome-made :
      {Q : B → List Token → Type 0} {o : Got A} (f : A → B) → Outcome K ts J P o → ((x : A) (rest : List Token) → P x rest → Q (f x) rest)
      → Outcome K ts J Q (reader.and_then o (λ x rest. got (f x) rest))
  outcome-made f (reads {x} {rest} p l q) g = reads p l (g x rest q)
  outcome-made f (stops p h) g = stops p h

outcome_as :
    {A : Type 0} {K J : Stack} {ts : List Token} {P Q : A → List Token → Type 0} {o : Got A} → Outcome K ts J P o
    → ((x : A) (rest : List Token) → P x rest → Q x rest) → Outcome K ts J Q o
outcome_as (reads {x} {rest} p l q) g = reads p l (g x rest q)
outcome_as (stops p h) g = stops p h

-- At the first token.
module _ {A : Type 0} {K J : Stack} {t : Token} {ts : List Token} {Q : A → List Token → Type 0} where
  outcome-past : {L : Stack} {o : Got A} → step K (symbol t) ≡ on L → Outcome L ts J Q o → Outcome K (t ∷ ts) J Q o
  outcome-past e (reads p l q) = reads (past e p) (omega arith) q
  outcome-past e (stops p h) = stops (past e p) h

  outcome_one : {x : A} → step K (symbol t) ≡ on J → Q x ts → Outcome K (t ∷ ts) J Q (got x ts)
  outcome_one e q = reads (past e here) (omega arith) q

  outcome-stuck : step K (symbol t) ≡ stuck → Outcome K (t ∷ ts) J Q (reader.stuck (t ∷ ts))
  outcome-stuck e = stops here e

-- where the first token leads to the same from two stacks
outcome_alike :
    {A : Type 0} {K L J : Stack} {t : Token} {ts : List Token} {Q : A → List Token → Type 0} {o : Got A}
    → step L (symbol t) ≡ step K (symbol t) → Outcome K (t ∷ ts) J Q o → Outcome L (t ∷ ts) J Q o
outcome_alike e (reads here l q) = absurd (omega arith)
outcome_alike e (reads (past d p) l q) = reads (past (e ∙ d) p) l q
outcome_alike e (stops here h) = stops here (e ∙ h)
outcome_alike e (stops (past d p) h) = stops (past (e ∙ d) p) h

-- The cases that the readers go by, each with what is known in it.
module _ {A : Type 0} (P : A → Type 0) where
  byte_cases : {x y : A} (b c : ℕ) → (b ≡ c → P x) → (eqb b c ≡ false → P y) → P (elim (eqb b c) as (λ z. A) [ true ↦ x | false ↦ y ])
  byte_cases {x} {y} b c f g = go (eqb b c) refl
    where
      go : (z : Bool) → eqb b c ≡ z → P (elim z as (λ z. A) [ true ↦ x | false ↦ y ])
      go true e = f (eqb-true b c e)
      go false e = g e

  sign_cases :
      {x y : A} (a s : Symbol) → (a ≡ s → P x) → (is_sign a s ≡ false → P y) → P (elim (is_sign a s) as (λ z. A) [ true ↦ x | false ↦ y ])
  sign_cases (word v) s f g = g refl
  sign_cases (reserved_word i) s f g = g refl
  sign_cases (one_byte b) (word w) f g = g refl
  sign_cases (one_byte b) (reserved_word j) f g = g refl
  sign_cases (one_byte b) (one_byte c) f g = byte_cases b c (λ e. f (ap one_byte e)) g

  symbol_cases :
      {x : Token → A} {y z : ℕ → A} (a : Symbol) → ((w : Token) → a ≡ word w → P (x w)) → ((i : ℕ) → a ≡ reserved_word i → P (y i))
      → ((b : ℕ) → a ≡ one_byte b → P (z b))
      → P (elim a as (λ a. A) [ word w ↦ x w | reserved_word i ↦ y i | one_byte b ↦ z b ])
  symbol_cases (word w) f g h = f w refl
  symbol_cases (reserved_word i) f g h = g i refl
  symbol_cases (one_byte b) f g h = h b refl

-- one sign that is expected
this_taken : {s : Symbol} {b : ℕ} (K : Stack) (a : Symbol) → s ≡ one_byte b → a ≡ s → step (this b ∷ K) a ≡ on K
this_taken {b} K a q e = rw (e ∙ q) (this_step b K)

this_stuck : (b : ℕ) (K : Stack) (a : Symbol) → is_sign a (one_byte b) ≡ false → step (this b ∷ K) a ≡ stuck
unfolding step look
this_stuck b K (word w) e = refl
this_stuck b K (reserved_word i) e = refl
this_stuck b K (one_byte c) e = rw (look, e)

outcome-expect :
    {A : Type 0} {K J : Stack} {Q : A → List Token → Type 0} {s : Symbol} {b : ℕ} (ts : List Token) (f : List Token → Got A)
    → s ≡ one_byte b → ((rest : List Token) → length rest < length ts → symbols ts ≡ s ∷ symbols rest → Outcome K rest J Q (f rest))
    → Outcome (this b ∷ K) ts J Q (expect s ts f)
unfolding expect
outcome-expect [] f q g = stops here tt
outcome-expect {K} {J} {Q} {s} {b} (t ∷ ts) f q g =
    sign_cases (Outcome (this b ∷ K) (t ∷ ts) J Q) (symbol t) s
    (λ e. outcome-past (this_taken K (symbol t) q e) (g ts (omega arith) (cc)))
    (λ e. outcome-stuck (this_stuck b K (symbol t) (rw q at e)))

-- What is said of what was read, where k was to be read.
abbrev IsType : List Symbol → Ty → List Token → Type 0
IsType k x rest = k ≡ write_type x (symbols rest)

abbrev IsItems : Way → List Symbol → Items → List Token → Type 0
IsItems d k xs rest = k ≡ write_items d xs (symbols rest)

-- behind an item
abbrev IsRest : Way → List Symbol → Items → List Token → Type 0
IsRest d k xs rest = k ≡ parted xs (write_items d xs (symbols rest))

-- behind a comma: one item or more
abbrev IsItem : Way → List Symbol → Items → List Token → Type 0
IsItem d k xs rest = IsItems d k xs rest × IsRest d (sign "," ∷ k) xs rest

abbrev IsLabels : List Symbol → Labels → List Token → Type 0
IsLabels k ls rest = k ≡ write_labels ls (symbols rest)

-- behind a label w and its type x
abbrev IsMore : Token → Ty → List Symbol → Labels → List Token → Type 0
IsMore w x k ls rest = IsLabels (word w ∷ sign ":" ∷ write_type x k) ls rest

-- What each reader is to give.
abbrev TypeAt : Stack → List Token → Got Ty → Type 0
TypeAt K ts = Outcome (a_type ∷ K) ts K (IsType (symbols ts))

abbrev ItemsAt : Way → Stack → List Token → Got Items → Type 0
ItemsAt d K ts = Outcome (some_items d ∷ K) ts K (IsItems d (symbols ts))

abbrev ItemAt : Way → Stack → List Token → Got Items → Type 0
ItemAt d K ts = Outcome (an_item d ∷ K) ts K (IsItem d (symbols ts))

abbrev RestAt : Way → Stack → List Token → Got Items → Type 0
RestAt d K ts = Outcome (more_items d ∷ K) ts K (IsRest d (symbols ts))

abbrev LabelsAt : Stack → List Token → Got Labels → Type 0
LabelsAt K ts = Outcome (a_label ∷ K) ts K (IsLabels (symbols ts))

abbrev MoreAt : Token → Ty → Stack → List Token → Got Labels → Type 0
MoreAt w x K ts = Outcome (more_labels ∷ K) ts K (IsMore w x (symbols ts))

-- behind a message's sign, and behind a choice's
abbrev MessageAt : Way → Stack → List Token → Got Ty → Type 0
MessageAt d K ts = Outcome (in_message d K) ts K (IsType (message_sign d ∷ symbols ts))

abbrev ChoiceAt : Way → Stack → List Token → Got Ty → Type 0
ChoiceAt d K ts = Outcome (in_choice K) ts K (IsType (choice_sign d ∷ symbols ts))

-- the readers agree where at most n tokens are left; for an item one less, since it calls the reader of types before it takes a token
record Agree (r : Readers) (n : ℕ) : Type 0 where
  types_agree : (ts : List Token) (K : Stack) → length ts ≤ n → TypeAt K ts (r.types ts)
  item_agrees : (d : Way) (ts : List Token) (K : Stack) → length ts < n → ItemAt d K ts (r.item d ts)
  labels_agree : (ts : List Token) (K : Stack) → length ts ≤ n → LabelsAt K ts (r.labels ts)

-- the same first symbol
same_first : {a b : Symbol} {k : List Symbol} → a ≡ b → a ∷ k ≡ b ∷ k
same_first {k} e = ap (λ a. a ∷ k) e

-- What the machine does where a reader's test fails, and where a bracket closes.
opening_byte : (d : Way) → opening d ≡ one_byte (open_byte d)
opening_byte into = refl
opening_byte out = refl

some_closed : (d : Way) (K : Stack) (a : Symbol) → a ≡ closing d → step (some_items d ∷ K) a ≡ on K
unfolding step look
some_closed into K a e = rw e refl
some_closed out K a e = rw e refl

more_closed : (d : Way) (K : Stack) (a : Symbol) → a ≡ closing d → step (more_items d ∷ K) a ≡ on K
unfolding step look
more_closed into K a e = rw e refl
more_closed out K a e = rw e refl

behind_item_stuck :
    (d : Way) (K : Stack) (a : Symbol) → is_sign a (closing d) ≡ false → is_sign a (sign ",") ≡ false → step (more_items d ∷ K) a ≡ stuck
unfolding step look
behind_item_stuck d K (word w) e f = refl
behind_item_stuck d K (reserved_word i) e f = refl
behind_item_stuck into K (one_byte b) e f = rw (look, f, look, e)
behind_item_stuck out K (one_byte b) e f = rw (look, f, look, e)

behind_label-stuck :
    (K : Stack) (a : Symbol) → is_sign a (sign "}") ≡ false → is_sign a (sign "|") ≡ false → step (more_labels ∷ K) a ≡ stuck
unfolding step look
behind_label-stuck K (word w) e f = refl
behind_label-stuck K (reserved_word i) e f = refl
behind_label-stuck K (one_byte b) e f = rw (look, f, look, e)

-- rows in which a byte is not may be left out at the end
look_front : (rs qs : List Row) (b : ℕ) → look qs b ≡ stuck → look (rs ++ qs) b ≡ look rs b
unfolding look
look_front [] qs b e = e
look_front ((c ⇒ K) ∷ rs) qs b e = ap (λ m. elim (eqb b c) as (λ z. Next) [ true ↦ on K | false ↦ m ]) (look_front rs qs b e)

-- so the first item of a list is as one behind a comma, unless the list is closed;
some_alike : (d : Way) (K : Stack) (a : Symbol) → is_sign a (closing d) ≡ false → step (some_items d ∷ K) a ≡ step (an_item d ∷ K) a
unfolding step look
some_alike d K (word w) e = refl
some_alike d K (reserved_word i) e = refl
some_alike into K (one_byte b) e = look_front (type_rows (more_items into ∷ K) []) ((close_byte into ⇒ K) ∷ []) b (rw (look, e))
some_alike out K (one_byte b) e = look_front (type_rows (more_items out ∷ K) []) ((close_byte out ⇒ K) ∷ []) b (rw (look, e))

-- and a reserved word that is no sort leads where it leads a type
abbrev sort_rows : Stack → List Row
sort_rows K = (sort_position String ⇒ K) ∷ (sort_position Float ⇒ K) ∷ (sort_position Boolean ⇒ K) ∷ (sort_position Void ⇒ K) ∷ []

sort_cases :
    (P : Option Sort → Type 0) (i : ℕ) → ((s : Sort) → i ≡ sort_position s → P (some s))
    → (((K : Stack) → look (item_rows K) i ≡ look ((end_position ⇒ K) ∷ []) i) → P none) → P (sort_of i)
unfolding look
sort_cases P i f g =
    byte_cases P i (sort_position String) (f String) (λ a.
    byte_cases P i (sort_position Float) (f Float) (λ b.
    byte_cases P i (sort_position Boolean) (f Boolean) (λ c.
    byte_cases P i (sort_position Void) (f Void) (λ d.
    g (λ K. look_front ((end_position ⇒ K) ∷ []) (sort_rows K) i (rw (look, a, look, b, look, c, look, d)))))))

sort_taken :
    (s : Sort) (d : Way) (K : Stack) (a : Symbol) → a ≡ reserved_word (sort_position s) → step (an_item d ∷ K) a ≡ on (more_items d ∷ K)
unfolding step look
sort_taken String d K a e = rw e refl
sort_taken Float d K a e = rw e refl
sort_taken Boolean d K a e = rw e refl
sort_taken Void d K a e = rw e refl

is_item : {k j : List Symbol} → k ≡ j → (k ≡ j) × (sign "," ∷ k ≡ sign "," ∷ j)
is_item e = (e, ap (λ k. sign "," ∷ k) e)

-- Where the readers agree, those that call them do.
module _ {r : Readers} {n : ℕ} (R : Agree r n) where
  rest_agrees : (d : Way) (ts : List Token) (K : Stack) → length ts ≤ n → RestAt d K ts (rest_with r d ts)
  unfolding rest_with step look
  rest_agrees d [] K l = stops here tt
  rest_agrees d (t ∷ ts) K l =
      sign_cases (RestAt d K (t ∷ ts)) (symbol t) (closing d) (λ e. outcome_one (more_closed d K (symbol t) e) (same_first e)) (λ e.
      sign_cases (RestAt d K (t ∷ ts)) (symbol t) (sign ",")
      (λ f. outcome-past (rw f refl) (outcome_as (R.item_agrees d ts K (omega arith)) (λ xs rest q. same_first f ∙ q.1)))
      (λ f. outcome-stuck (behind_item_stuck d K (symbol t) e f)))

  -- an item, and those behind it
  session_agrees :
      (d : Way) (ts : List Token) (K : Stack) → length ts ≤ n
      → Outcome (a_type ∷ more_items d ∷ K) ts K (IsItem d (symbols ts)) (session_with r d ts)
  session_agrees d ts K l =
      outcome_then _ (R.types_agree ts (more_items d ∷ K) l) (λ x us m e.
      outcome-made (session x) (rest_agrees d us K (omega arith)) (λ xs rest f. is_item (e ∙ ap (write_type x) f)))

  sort_agrees :
      (s : Sort) (d : Way) (t : Token) (ts : List Token) (K : Stack) → length ts ≤ n → symbol t ≡ reserved_word (sort_position s)
      → ItemAt d K (t ∷ ts) (reader.and_then (rest_with r d ts) (λ xs us. got (sort s xs) us))
  sort_agrees s d t ts K l e =
      outcome-past (sort_taken s d K (symbol t) e) (outcome-made (sort s) (rest_agrees d ts K l) (λ xs rest q. is_item (rw (e, q) refl)))

  item_with_agrees : (d : Way) (ts : List Token) (K : Stack) → length ts ≤ n → ItemAt d K ts (item_with r d ts)
  unfolding item_with step look
  item_with_agrees d [] K l = stops here tt
  item_with_agrees d (t ∷ ts) K l =
      symbol_cases (ItemAt d K (t ∷ ts)) (symbol t) (λ w e. outcome_alike (rw e refl) (session_agrees d (t ∷ ts) K l)) (λ i e.
      sort_cases
      (λ o.
      ItemAt d K (t ∷ ts)
      (elim o as (λ o. Got Items) [
        | some s ↦ reader.and_then (rest_with r d ts) (λ xs us. got (sort s xs) us)
        | none ↦ session_with r d (t ∷ ts)
      ])) i (λ s f. sort_agrees s d t ts K (omega arith) (e ∙ ap reserved_word f))
      (λ f. outcome_alike (rw e (f (more_items d ∷ K))) (session_agrees d (t ∷ ts) K l)))
      (λ b e. outcome_alike (rw e refl) (session_agrees d (t ∷ ts) K l))

  items_agree : (d : Way) (ts : List Token) (K : Stack) → length ts ≤ n → ItemsAt d K ts (items_with r d ts)
  unfolding items_with
  items_agree d [] K l = stops here tt
  items_agree d (t ∷ ts) K l =
      sign_cases (ItemsAt d K (t ∷ ts)) (symbol t) (closing d) (λ e. outcome_one (some_closed d K (symbol t) e) (same_first e)) (λ e.
      outcome_alike (some_alike d K (symbol t) e) (outcome_as (item_with_agrees d (t ∷ ts) K l) (λ xs rest q. q.0)))

  message_agrees : (d : Way) (ts : List Token) (K : Stack) → length ts ≤ n → MessageAt d K ts (message_with r d ts)
  unfolding message_with
  message_agrees d ts K l =
      outcome-expect ts _ (opening_byte d) (λ ts₁ l₁ e₁.
      outcome_then _ (items_agree d ts₁ (this (code ";") ∷ a_type ∷ K) (omega arith)) (λ xs ts₂ l₂ e₂.
      outcome-expect ts₂ _ refl (λ ts₃ l₃ e₃.
      outcome-made (message d xs) (R.types_agree ts₃ K (omega arith)) (λ x ts₄ e₄. rw (e₁, e₂, e₃, e₄) refl))))

  -- behind a label's type, at a label, and a choice
  more_agrees : (w : Token) (x : Ty) (ts : List Token) (K : Stack) → length ts ≤ n → MoreAt w x K ts (more_with r w x ts)
  unfolding more_with step look
  more_agrees w x [] K l = stops here tt
  more_agrees w x (t ∷ ts) K l =
      sign_cases (MoreAt w x K (t ∷ ts)) (symbol t) (sign "}") (λ e. outcome_one (rw e refl) (rw e refl)) (λ e.
      sign_cases (MoreAt w x K (t ∷ ts)) (symbol t) (sign "|")
      (λ f. outcome-past (rw f refl) (outcome-made (label w x) (R.labels_agree ts K (omega arith)) (λ ls rest q. rw (f, q) refl)))
      (λ f. outcome-stuck (behind_label-stuck K (symbol t) e f)))

  label_agrees :
      (w : Token) (ts : List Token) (K : Stack) → length ts ≤ n
      → Outcome (this (code ":") ∷ a_type ∷ more_labels ∷ K) ts K (IsLabels (word w ∷ symbols ts))
      (expect (sign ":") ts (λ us. reader.and_then (r.types us) (λ x vs. more_with r w x vs)))
  label_agrees w ts K l =
      outcome-expect ts _ refl (λ ts₁ l₁ e₁.
      outcome_then _ (R.types_agree ts₁ (more_labels ∷ K) (omega arith)) (λ x ts₂ l₂ e₂.
      outcome_as (more_agrees w x ts₂ K (omega arith)) (λ ls rest q. rw (e₁, e₂) q)))

  labels_with_agree : (ts : List Token) (K : Stack) → length ts ≤ suc n → LabelsAt K ts (labels_with r ts)
  unfolding labels_with step look
  labels_with_agree [] K l = stops here tt
  labels_with_agree (t ∷ ts) K l =
      symbol_cases (LabelsAt K (t ∷ ts)) (symbol t)
      (λ w e. outcome-past (rw e refl) (outcome_as (label_agrees w ts K (omega arith)) (λ ls rest q. same_first e ∙ q)))
      (λ i e. outcome-stuck (rw e refl)) (λ b e. outcome-stuck (rw e refl))

  choice_agrees : (d : Way) (ts : List Token) (K : Stack) → length ts ≤ n → ChoiceAt d K ts (choice_with r d ts)
  unfolding choice_with
  choice_agrees d ts K l =
      outcome-expect ts _ refl (λ ts₁ l₁ e₁.
      outcome-made (choice d) (labels_with_agree ts₁ K (omega arith)) (λ ls ts₂ e₂. rw (e₁, e₂) refl))

  -- a type, behind its first sign and whole
  begun :
      {t : Token} {ts : List Token} {K L : Stack} {a : Symbol} {o : Got Ty} → symbol t ≡ a → step (a_type ∷ K) a ≡ on L
      → Outcome L ts K (IsType (a ∷ symbols ts)) o → TypeAt K (t ∷ ts) o
  begun e f h = outcome-past (rw e f) (outcome_as h (λ x rest q. same_first e ∙ q))

  type_with_agrees : (ts : List Token) (K : Stack) → length ts ≤ suc n → TypeAt K ts (type_with r ts)
  unfolding type_with step look
  type_with_agrees [] K l = stops here tt
  type_with_agrees (t ∷ ts) K l =
      symbol_cases (TypeAt K (t ∷ ts)) (symbol t) (λ w e. outcome_one (rw e refl) (same_first e)) (λ i e.
      byte_cases (TypeAt K (t ∷ ts)) i end_position (λ f. let d = e ∙ ap reserved_word f in outcome_one (rw d refl) (same_first d)) (λ f.
      outcome-stuck (rw (e, look, f)))) (λ b e.
      byte_cases (TypeAt K (t ∷ ts)) b (code "?") (λ f. begun (e ∙ ap one_byte f) refl (message_agrees into ts K (omega arith))) (λ p.
      byte_cases (TypeAt K (t ∷ ts)) b (code "!") (λ f. begun (e ∙ ap one_byte f) refl (message_agrees out ts K (omega arith))) (λ q.
      byte_cases (TypeAt K (t ∷ ts)) b (code "&") (λ f. begun (e ∙ ap one_byte f) refl (choice_agrees into ts K (omega arith))) (λ u.
      byte_cases (TypeAt K (t ∷ ts)) b (code "+") (λ f. begun (e ∙ ap one_byte f) refl (choice_agrees out ts K (omega arith))) (λ v.
      outcome-stuck (rw (e, look, p, look, q, look, u, look, v)))))))

-- So all of them agree, by the depth of the calls. With no call left there is no token left either.
none_left :
    {A : Type 0} {e : Expect} {K J : Stack} {Q : A → List Token → Type 0} (ts : List Token) → length ts ≤ zero
    → Outcome (e ∷ K) ts J Q (reader.stuck ts)
none_left [] l = stops here tt
none_left (t ∷ ts) l = absurd (omega arith)

readers_agree : (n : ℕ) → Agree (readers n) n
unfolding readers
readers_agree zero =
    record {
      types_agree = λ ts K l. none_left ts l;
      item_agrees = λ d ts K l. absurd (omega arith);
      labels_agree = λ ts K l. none_left ts l;
    }
readers_agree (suc n) =
    record {
      types_agree = type_with_agrees (readers_agree n);
      item_agrees = λ d ts K l. item_with_agrees (readers_agree n) d ts K (omega arith);
      labels_agree = labels_with_agree (readers_agree n);
    }

-- A text, to its end.
abbrev pub IsText : List Symbol → Text → List Token → Type 0
IsText k x rest = (rest ≡ []) × (k ≡ write_text x)

abbrev pub TextAt : Stack → List Token → Got Text → Type 0
TextAt K ts = Outcome K ts [] (IsText (symbols ts))

-- a definition that is behind another
abbrev FurtherAgree : ℕ → Type 0
FurtherAgree n = (t : Token) (ts : List Token) → length (t ∷ ts) < n → TextAt [] (t ∷ ts) (text_from n (t ∷ ts))

module _ {n : ℕ} (R : FurtherAgree n) (w : Token) where
  abbrev DotAt : Ty → List Token → Got Text → Type 0
  DotAt x ts = Outcome (this (code ".") ∷ []) ts [] (IsText (word w ∷ sign "=" ∷ write_type x (symbols ts)))

  -- behind its dot, behind its type, behind its name
  further_agrees :
      (x : Ty) (t : Token) (ts : List Token) → length ts < n → symbol t ≡ sign "." → DotAt x (t ∷ ts) (text_with (text_from n) w x ts)
  further_agrees x t [] l e = outcome_one (this_taken [] (symbol t) refl e) (refl, rw e refl)
  further_agrees x t (u ∷ us) l e =
      outcome-past (this_taken [] (symbol t) refl e)
      (outcome-made (definition w x) (R u us (omega arith)) (λ ds rest q. (q.0, rw (e, q.1) refl)))

  dot_agrees : (x : Ty) (ts : List Token) → length ts < n → DotAt x ts (expect (sign ".") ts (λ us. text_with (text_from n) w x us))
  unfolding expect
  dot_agrees x [] l = stops here tt
  dot_agrees x (t ∷ ts) l =
      sign_cases (DotAt x (t ∷ ts)) (symbol t) (sign ".") (λ e. further_agrees x t ts (omega arith) e)
      (λ e. outcome-stuck (this_stuck (code ".") [] (symbol t) e))

  definition_agrees :
      (ts : List Token) → length ts < n
      → Outcome (in_definition []) ts [] (IsText (word w ∷ symbols ts))
      (expect (sign "=") ts (λ us.
      reader.and_then ((readers n).types us) (λ x vs. expect (sign ".") vs (λ rest. text_with (text_from n) w x rest))))
  definition_agrees ts l =
      outcome-expect ts _ refl (λ ts₁ l₁ e₁.
      outcome_then _ ((readers_agree n).types_agree ts₁ (this (code ".") ∷ []) (omega arith)) (λ x ts₂ l₂ e₂.
      outcome_as (dot_agrees x ts₂ (omega arith)) (λ ds rest q. (q.0, rw (e₁, e₂) q.1))))

texts_agree : (n : ℕ) → FurtherAgree n
unfolding text_from step
texts_agree zero t ts l = absurd (omega arith)
texts_agree (suc n) t ts l =
    symbol_cases (TextAt [] (t ∷ ts)) (symbol t)
    (λ w e.
    outcome-past (rw e refl)
    (outcome_as (definition_agrees (texts_agree n) w ts (omega arith)) (λ ds rest q. (q.0, same_first e ∙ q.1))))
    (λ i e. outcome-stuck (rw e refl)) (λ b e. outcome-stuck (rw e refl))

-- the first definition begins as a further one does
start_alike : (a : Symbol) → step start a ≡ step [] a
unfolding step look
start_alike (word w) = refl
start_alike (reserved_word i) = refl
start_alike (one_byte b) = refl

-- as deep as there are tokens, and one more, is deep enough
pub text_outcome : (ts : List Token) → TextAt start ts (text_from (suc (length ts)) ts)
unfolding text_from
text_outcome [] = stops here tt
text_outcome (t ∷ ts) = outcome_alike (start_alike (symbol t)) (texts_agree (suc (length (t ∷ ts))) t ts (omega arith))

-- What the machine takes to its end is a text; what it has taken could be gone on with, to a text; and where it is stuck, no text goes on.
-- Assumes nothing.
use mathlib.Core.Bool.{Bool, true, false}
use mathlib.Core.List.{List, [], ◌∷◌, ◌++◌, append_assoc}
use mathlib.Core.Logic.{◌⊎◌, inl, inr}
use mathlib.Core.Path.{◌≡◌, refl, sym, ap, ◌∙◌}
use Prim.Native.Char.{code}
use Prim.Native.Nat.{ℕ, zero, suc}
use native.Mathlib.Omega.{arith}
use lib.Dec.{eqb}
use borrow.Author.Tests.{eqb-true}
use Rattle.rules.specs.Basics.{bytes}
use Rattle.rules.specs.Words.{blank, letter}
use Rattle.rules.specs.Tokens.{Token, Symbol, word, reserved_word, one_byte, symbol, symbols, tokens_from, tokens}
use Rattle.rules.specs.Notation.{Way, into, out, Ty, ended, name, message, choice, Items, no_items, sort, session, Labels, last_label, label, Text, last_definition, definition, sign, sort_position, end_position, closing, parted, write_type, write_items, write_labels, write_text}
use Rattle.rules.specs.Refusals.{Could}
use Rattle.rules.proofs.Computes.{computes}
use Rattle.rules.proofs.Machine.{Expect, this, a_type, some_items, an_item, more_items, a_label, more_labels, a_definition, Stack, Next, on, stuck, Row, ◌⇒◌, look, close_byte, in_message, in_choice, in_definition, type_rows, byte_rows, item_rows, reserved_rows, on_word, step, and_then, run, start}
use Rattle.rules.proofs.Taken.{this_on, text_on}
use Rattle.rules.proofs.TokenLists.{byte_token, tokens-blank, tokens_other, text_cut}
use Rattle.table.specs.declared.Sort.{Sort}
use Rattle.table.specs.declared.Sort.TheVariants.{String, Float, Boolean, Void}

-- that ts is what is expected, then k
abbrev Means : Expect → List Symbol → List Symbol → Type 0
Means (this b) ts k = ts ≡ one_byte b ∷ k
Means a_type ts k = (x : Ty) × (ts ≡ write_type x k)
Means (some_items d) ts k = (xs : Items) × (ts ≡ write_items d xs k)
Means (an_item d) ts k = (xs : Items) × (sign "," ∷ ts ≡ parted xs (write_items d xs k))
Means (more_items d) ts k = (xs : Items) × (ts ≡ parted xs (write_items d xs k))
Means a_label ts k = (ls : Labels) × (ts ≡ write_labels ls k)
Means more_labels ts k = (ts ≡ sign "}" ∷ k) ⊎ ((ls : Labels) × (ts ≡ sign "|" ∷ write_labels ls k))
Means a_definition ts k = (w : Token) × (x : Ty) × (ts ≡ word w ∷ sign "=" ∷ write_type x (sign "." ∷ k))

-- that ts is all that a stack expects, and what may come where nothing is expected
abbrev Completes : Stack → List Symbol → Type 0
Completes [] ts = (ts ≡ []) ⊎ ((x : Text) × (ts ≡ write_text x))
Completes (e ∷ K) ts = (k : List Symbol) × Means e ts k × Completes K k

-- that a row is right: what completes its stack, behind its symbol, is what was expected
abbrev Right : (ℕ → Symbol) → Expect → Stack → ℕ → Stack → Type 0
Right f e K b J = (ts : List Symbol) → Completes J ts → Completes (e ∷ K) (f b ∷ ts)

-- that something holds of every row
infixr 40 ◌&◌
data All (P : ℕ → Stack → Type 0) : List Row → Type 0 where
  none : All P []
  ◌&◌ : {b : ℕ} {K : Stack} {rs : List Row} → P b K → All P rs → All P ((b ⇒ K) ∷ rs)

-- a step is stuck or leads on
pub never : {n : Next} {K : Stack} {P : Type 0} → n ≡ stuck → n ≡ on K → P
never p q = let z : ◌≡◌ {A = ℕ} 0 1 = cc in absurd (omega arith)

cases : {P : Type 0} (b : Bool) → (b ≡ true → P) → (b ≡ false → P) → P
cases true f g = f refl
cases false f g = g refl

-- and so of the row that is found
look_all : {P : ℕ → Stack → Type 0} {rs : List Row} (b : ℕ) (K : Stack) → All P rs → look rs b ≡ on K → P b K
unfolding look
look_all b K none e = never refl e
look_all {P} b K (◌&◌ {b = c} {K = L} {rs = rs} p a) e =
    cases (eqb b c)
    (λ q. let r : on L ≡ on K = rw (look, q) at e in let h : L ≡ K = cc in rw (eqb-true b c q, ← h) p)
    (λ q. look_all b K a (rw (look, q) at e))

-- a list of items behind a comma has an item
comma_first :
    (xs : Items) (d : Way) (ts k : List Symbol) → sign "," ∷ ts ≡ parted xs (write_items d xs k) → ts ≡ write_items d xs k
comma_first no_items into ts k e = let z : code "," ≡ code ")" = cc in absurd (omega arith)
comma_first no_items out ts k e = let z : code "," ≡ code "]" = cc in absurd (omega arith)
comma_first (sort s xs) d ts k e = cc
comma_first (session x xs) d ts k e = cc

-- a type's rows, for whoever takes a type
type_right :
    {P : ℕ → Stack → Type 0} (K : Stack) {rs : List Row} → ((b : ℕ) (J : Stack) → Right one_byte a_type K b J → P b J) → All P rs
    → All P (type_rows K rs)
type_right K f a =
    f (code "?") (in_message into K) (λ ts (k₁, p, (k₂, (xs, q), (k₃, r, (k₄, (x, u), c)))). (k₄, (message into xs x, cc), c))
    & f (code "!") (in_message out K) (λ ts (k₁, p, (k₂, (xs, q), (k₃, r, (k₄, (x, u), c)))). (k₄, (message out xs x, cc), c))
    & f (code "&") (in_choice K) (λ ts (k₁, p, (k₂, (ls, q), c)). (k₂, (choice into ls, cc), c))
    & f (code "+") (in_choice K) (λ ts (k₁, p, (k₂, (ls, q), c)). (k₂, (choice out ls, cc), c))
    & a

all_map : {P Q : ℕ → Stack → Type 0} {rs : List Row} → ((b : ℕ) (J : Stack) → P b J → Q b J) → All P rs → All Q rs
all_map f none = none
all_map f (◌&◌ {b} {K} p a) = f b K p & all_map f a

-- where an item may stand, first or later
module _ (d : Way) (K : Stack) where
  item_session : (ts : List Symbol) → Completes (a_type ∷ more_items d ∷ K) ts → Completes (an_item d ∷ K) ts
  item_session ts (k₁, (x, p), (k₂, (xs, q), c)) = (k₂, (session x xs, cc), c)

  item_first : (ts : List Symbol) → Completes (an_item d ∷ K) ts → Completes (some_items d ∷ K) ts
  item_first ts (k, (xs, p), c) = (k, (xs, comma_first xs d ts k p), c)

  a_sort : (s : Sort) → Right reserved_word (an_item d) K (sort_position s) (more_items d ∷ K)
  a_sort s ts (k, (xs, q), c) = (k, (sort s xs, cc), c)

  item_right : All (Right reserved_word (an_item d) K) (item_rows (more_items d ∷ K))
  item_right =
      ◌&◌ {b = end_position} {K = more_items d ∷ K} (λ ts (k, (xs, q), c). (k, (session ended xs, cc), c))
      (a_sort String & a_sort Float & a_sort Boolean & a_sort Void & none)

closing_byte : (d : Way) → one_byte (close_byte d) ≡ closing d
closing_byte into = refl
closing_byte out = refl

bytes_right : (e : Expect) (K : Stack) → All (Right one_byte e K) (byte_rows e K)
bytes_right (this b) K = (λ ts c. (ts, refl, c)) & none
bytes_right a_type K = type_right K (λ b J r. r) none
bytes_right (some_items d) K =
    type_right (more_items d ∷ K) (λ b J r ts c. item_first d K (one_byte b ∷ ts) (item_session d K (one_byte b ∷ ts) (r ts c)))
    (◌&◌ {b = close_byte d} {K = K} (λ ts c. (ts, (no_items, cc (closing_byte d)), c)) none)
bytes_right (an_item d) K = type_right (more_items d ∷ K) (λ b J r ts c. item_session d K (one_byte b ∷ ts) (r ts c)) none
bytes_right (more_items d) K =
    ◌&◌ {b = code ","} {K = an_item d ∷ K} (λ ts c. c)
    (◌&◌ {b = close_byte d} {K = K} (λ ts c. (ts, (no_items, cc (closing_byte d)), c)) none)
bytes_right a_label K = none
bytes_right more_labels K =
    ◌&◌ {b = code "|"} {K = a_label ∷ K} (λ ts (k, (ls, p), c). (k, inr (ls, cc), c)) ((λ ts c. (ts, inl refl, c)) & none)
bytes_right a_definition K = none

reserved_right : (e : Expect) (K : Stack) → All (Right reserved_word e K) (reserved_rows e K)
reserved_right (this b) K = none
reserved_right a_type K = (λ ts c. (ts, (ended, refl), c)) & none
reserved_right (some_items d) K = all_map (λ i J r ts c. item_first d K (reserved_word i ∷ ts) (r ts c)) (item_right d K)
reserved_right (an_item d) K = item_right d K
reserved_right (more_items d) K = none
reserved_right a_label K = none
reserved_right more_labels K = none
reserved_right a_definition K = none

-- what holds of where a step leads, if it leads on
abbrev Then : Next → (Stack → Type 0) → Type 0
Then (on K) P = P K
Then stuck P = Unit {0}

one_label :
    (w : Token) (x : Ty) (ts k : List Symbol) → ts ≡ sign ":" ∷ write_type x k → (m : List Symbol) → Means more_labels k m
    → Means a_label (word w ∷ ts) m
one_label w x ts k p m (inl q) = (last_label w x, cc)
one_label w x ts k p m (inr (ls, q)) = (label w x ls, cc)

word_right : (e : Expect) (K : Stack) (w : Token) → Then (on_word e K) (λ J. (ts : List Symbol) → Completes J ts → Completes (e ∷ K) (word w ∷ ts))
word_right (this b) K w = tt
word_right a_type K w = λ ts c. (ts, (name w, refl), c)
word_right (some_items d) K w = λ ts (k, (xs, p), c). (k, (session (name w) xs, cc), c)
word_right (an_item d) K w = λ ts (k, (xs, p), c). (k, (session (name w) xs, cc), c)
word_right (more_items d) K w = tt
word_right a_label K w = λ ts (k₁, p, (k₂, (x, q), (k₃, m, c))). (k₃, one_label w x ts k₂ (cc) k₃ m, c)
word_right more_labels K w = tt
word_right a_definition K w = λ ts (k₁, p, (k₂, (x, q), (k₃, r, c))). (k₃, (w, x, cc), c)

-- a definition, and those behind it
one_definition :
    (w : Token) (x : Ty) (ts k : List Symbol) → ts ≡ sign "=" ∷ write_type x (sign "." ∷ k) → Completes [] k
    → (y : Text) × (word w ∷ ts ≡ write_text y)
one_definition w x ts k p (inl q) = (last_definition w x, cc)
one_definition w x ts k p (inr (y, q)) = (definition w x y, cc)

-- a step is right
step_right : (K : Stack) (t : Symbol) (J : Stack) → step K t ≡ on J → (ts : List Symbol) → Completes J ts → Completes K (t ∷ ts)
unfolding step
step_right [] (word w) J h ts c =
    let e : in_definition [] ≡ J = cc in
    let (k₁, p, (k₂, (x, q), (k₃, r, u))) = rw (← e) at c in
    inr (one_definition w x ts k₃ (cc) u)
step_right [] (reserved_word i) J h ts c = never refl h
step_right [] (one_byte b) J h ts c = never refl h
step_right (e ∷ K) (word w) J h ts c = let p = word_right e K w in (rw h at p) ts c
step_right (e ∷ K) (reserved_word i) J h ts c = look_all i J (reserved_right e K) h ts c
step_right (e ∷ K) (one_byte b) J h ts c = look_all b J (bytes_right e K) h ts c

-- what the machine takes to its end is what was expected
run_right : (ts : List Symbol) (K : Stack) → run K ts ≡ on [] → Completes K ts
unfolding run
run_right [] K h = let e : K ≡ [] = cc in rw e (inl refl)
run_right (t ∷ ts) K h = go (λ J q. run_right ts J q) (step K t) refl
  where
    go : ((J : Stack) → run J ts ≡ on [] → Completes J ts) → (n : Next) → step K t ≡ n → Completes K (t ∷ ts)
    go f stuck e = never refl (rw e at h)
    go f (on J) e = step_right K t J e ts (f J (rw e at h))

-- the machine, symbol by symbol
pub run_append : (ts us : List Symbol) (K : Stack) → run K (ts ++ us) ≡ and_then (run K ts) (λ J. run J us)
unfolding run
run_append [] us K = refl
run_append (t ∷ ts) us K = go (λ J. run_append ts us J) (step K t)
  where
    go :
        ((J : Stack) → run J (ts ++ us) ≡ and_then (run J ts) (λ L. run L us)) → (n : Next)
        → and_then n (λ J. run J (ts ++ us)) ≡ and_then (and_then n (λ J. run J ts)) (λ J. run J us)
    go f (on J) = f J
    go f stuck = refl

-- where it takes symbols, it takes those in front, and from there on the others
pub run_front :
    (ts us : List Symbol) (K J : Stack) → run K (ts ++ us) ≡ on J → (L : Stack) × (run K ts ≡ on L) × (run L us ≡ on J)
run_front ts us K J h = go (run K ts) refl
  where
    go : (n : Next) → run K ts ≡ n → (L : Stack) × (run K ts ≡ on L) × (run L us ≡ on J)
    go (on L) e = (L, e, rw (run_append ts us K, e) at h)
    go stuck e = never refl (rw (run_append ts us K, e) at h)

-- the machine takes a text to its end, and only a text
pub is_text : (ts : List Symbol) → run start ts ≡ on [] → (x : Text) × (write_text x ≡ ts)
is_text ts h =
    let (k, (w, x, p), c) = run_right ts start h in
    let (y, q) = one_definition w x (sign "=" ∷ write_type x (sign "." ∷ k)) k refl c in
    (y, cc)

pub text_is : (ts : List Symbol) (x : Text) → write_text x ≡ ts → run start ts ≡ on []
text_is ts x p = rw (← p) (text_on x)

-- A byte that is expected is a token of its own.
abbrev Own : Expect → Type 0
Own (this b) = (blank b ≡ false) × (letter b ≡ false)
Own a_type = Unit {0}
Own (some_items d) = Unit {0}
Own (an_item d) = Unit {0}
Own (more_items d) = Unit {0}
Own a_label = Unit {0}
Own more_labels = Unit {0}
Own a_definition = Unit {0}

abbrev Plain : Stack → Type 0
Plain [] = Unit {0}
Plain (e ∷ K) = Own e × Plain K

abbrev PlainRow : ℕ → Stack → Type 0
PlainRow b K = Plain K

message_plain : (d : Way) (K : Stack) → Plain K → Plain (in_message d K)
unfolding blank letter
message_plain into K p = ((refl, refl), (tt, ((refl, refl), (tt, p))))
message_plain out K p = ((refl, refl), (tt, ((refl, refl), (tt, p))))

choice_plain : (K : Stack) → Plain K → Plain (in_choice K)
unfolding blank letter
choice_plain K p = ((refl, refl), (tt, p))

definition-plain : (K : Stack) → Plain K → Plain (in_definition K)
unfolding blank letter
definition-plain K p = ((refl, refl), (tt, ((refl, refl), p)))

type_plain : (K : Stack) (rs : List Row) → Plain K → All PlainRow rs → All PlainRow (type_rows K rs)
type_plain K rs p a = message_plain into K p & message_plain out K p & choice_plain K p & choice_plain K p & a

bytes-plain : (e : Expect) (K : Stack) → Plain K → All PlainRow (byte_rows e K)
bytes-plain (this b) K p = p & none
bytes-plain a_type K p = type_plain K [] p none
bytes-plain (some_items d) K p = type_plain (more_items d ∷ K) _ (tt, p) (p & none)
bytes-plain (an_item d) K p = type_plain (more_items d ∷ K) [] (tt, p) none
bytes-plain (more_items d) K p = ◌&◌ {b = code ","} {K = an_item d ∷ K} (tt, p) (p & none)
bytes-plain a_label K p = none
bytes-plain more_labels K p = ◌&◌ {b = code "|"} {K = a_label ∷ K} (tt, p) (p & none)
bytes-plain a_definition K p = none

item_plain : (K : Stack) → Plain K → All PlainRow (item_rows K)
item_plain K p = p & p & p & p & p & none

reserved-plain : (e : Expect) (K : Stack) → Plain K → All PlainRow (reserved_rows e K)
reserved-plain (this b) K p = none
reserved-plain a_type K p = p & none
reserved-plain (some_items d) K p = item_plain (more_items d ∷ K) (tt, p)
reserved-plain (an_item d) K p = item_plain (more_items d ∷ K) (tt, p)
reserved-plain (more_items d) K p = none
reserved-plain a_label K p = none
reserved-plain more_labels K p = none
reserved-plain a_definition K p = none

word_plain : (e : Expect) (K : Stack) → Plain K → Then (on_word e K) Plain
unfolding blank letter
word_plain (this b) K p = tt
word_plain a_type K p = p
word_plain (some_items d) K p = (tt, p)
word_plain (an_item d) K p = (tt, p)
word_plain (more_items d) K p = tt
word_plain a_label K p = ((refl, refl), (tt, (tt, p)))
word_plain more_labels K p = tt
word_plain a_definition K p = definition-plain K p

step-plain : (K : Stack) (t : Symbol) (J : Stack) → Plain K → step K t ≡ on J → Plain J
unfolding step
step-plain [] (word w) J p h = let e : in_definition [] ≡ J = cc in rw (← e) (definition-plain [] tt)
step-plain [] (reserved_word i) J p h = never refl h
step-plain [] (one_byte b) J p h = never refl h
step-plain (e ∷ K) (word w) J p h = let q = word_plain e K p.1 in rw h at q
step-plain (e ∷ K) (reserved_word i) J p h = look_all i J (reserved-plain e K p.1) h
step-plain (e ∷ K) (one_byte b) J p h = look_all b J (bytes-plain e K p.1) h

run_plain : (ts : List Symbol) (K J : Stack) → Plain K → run K ts ≡ on J → Plain J
unfolding run
run_plain [] K J p h = let e : K ≡ J = cc in rw e at p
run_plain (t ∷ ts) K J p h = go (λ L q. run_plain ts L J q) (step K t) refl
  where
    go : ((L : Stack) → Plain L → run L ts ≡ on J → Plain J) → (n : Next) → step K t ≡ n → Plain J
    go f stuck e = never refl (rw e at h)
    go f (on L) e = f L (step-plain K t L p e) (rw e at h)

-- how to write what is expected, the short way, each token with a blank behind it ..
abbrev shut : Expect → List ℕ
shut (this b) = b ∷ 32 ∷ []
shut a_type = bytes "end "
shut (some_items into) = bytes ") "
shut (some_items out) = bytes "] "
shut (an_item into) = bytes "void ) "
shut (an_item out) = bytes "void ] "
shut (more_items into) = bytes ") "
shut (more_items out) = bytes "] "
shut a_label = bytes "a : end } "
shut more_labels = bytes "} "
shut a_definition = bytes "A = end . "

-- the place behind these bytes
abbrev past : List ℕ → ℕ → ℕ
past [] at = at
past (b ∷ u) at = past u (suc at)

-- a byte that is a token of its own, and a blank
byte_symbol : (at b : ℕ) (s : List ℕ) → letter b ≡ false → symbol (byte_token at b s) ≡ one_byte b
unfolding symbol
byte_symbol at b s e = rw (symbol, e)

this_tokens :
    (at b : ℕ) (k : List ℕ) → blank b ≡ false → letter b ≡ false
    → tokens_from at zero (b ∷ 32 ∷ k) ≡ byte_token at b (32 ∷ k) ∷ tokens_from (suc (suc at)) zero k
unfolding blank
this_tokens at b k p q =
    tokens_other at b (32 ∷ k) p q ∙ ap (λ (ts : List Token). byte_token at b (32 ∷ k) ∷ ts) (tokens-blank (suc at) 32 k refl)

this_shut :
    (at b : ℕ) (K : Stack) (k : List ℕ) → blank b ≡ false → letter b ≡ false
    → run (this b ∷ K) (symbols (tokens_from at zero (b ∷ 32 ∷ k))) ≡ run K (symbols (tokens_from (suc (suc at)) zero k))
this_shut at b K k p q =
    rw (this_tokens at b k p q, byte_symbol at b (32 ∷ k) q) (this_on b K (symbols (tokens_from (suc (suc at)) zero k)))

shut_on :
    (e : Expect) (K : Stack) → Own e → (at : ℕ) (k : List ℕ)
    → run (e ∷ K) (symbols (tokens_from at zero (shut e ++ k))) ≡ run K (symbols (tokens_from (past (shut e) at) zero k))
unfolding run step look computes
shut_on (this b) K p at k = this_shut at b K k p.0 p.1
shut_on a_type K p at k = refl
shut_on (some_items into) K p at k = refl
shut_on (some_items out) K p at k = refl
shut_on (an_item into) K p at k = refl
shut_on (an_item out) K p at k = refl
shut_on (more_items into) K p at k = refl
shut_on (more_items out) K p at k = refl
shut_on a_label K p at k = refl
shut_on more_labels K p at k = refl
shut_on a_definition K p at k = refl

-- .. and all that a stack expects
abbrev finish : Stack → List ℕ
finish [] = []
finish (e ∷ K) = shut e ++ finish K

finish_on : (K : Stack) → Plain K → (at : ℕ) → run K (symbols (tokens_from at zero (finish K))) ≡ on []
unfolding run tokens_from
finish_on [] p at = refl
finish_on (e ∷ K) p at = shut_on e K p.0 at (finish K) ∙ finish_on K p.1 (past (shut e) at)

pub symbols-append : (ts us : List Token) → symbols (ts ++ us) ≡ symbols ts ++ symbols us
symbols-append [] us = refl
symbols-append (t ∷ ts) us = ap (λ (k : List Symbol). symbol t ∷ k) (symbols-append ts us)

-- behind tokens that the machine takes, one run goes on where the other ends
pub run_behind :
    (done us : List Token) (K : Stack) → run start (symbols done) ≡ on K → run start (symbols (done ++ us)) ≡ run K (symbols us)
run_behind done us K h = rw (symbols-append done us, run_append (symbols done) (symbols us) start, h)

-- what the machine has taken is the beginning of a text ..
pub could : (s : List ℕ) (done rest : List Token) (K : Stack) → tokens s ≡ done ++ rest → run start (symbols done) ≡ on K → Could done
unfolding tokens
could s done rest K e h =
    let C = text_cut s done rest e in
    let p : Plain K = run_plain (symbols done) start K (tt, tt) h in
    let us : List Token = tokens_from C.next zero (finish K) in
    let r : run start (symbols (done ++ us)) ≡ on [] = run_behind done us K h ∙ finish_on K p C.next in
    let (x, w) = is_text (symbols (done ++ us)) r in
    record {
      text = C.front ++ (32 ∷ finish K);
      tree = x;
      writes = record { written = w ∙ ap symbols (sym (C.cut (finish K))) };
      more = us;
      begins = C.cut (finish K);
    }

-- .. and where it is stuck, no text goes on
pub could_not :
    (done : List Token) (t : Token) (K : Stack) → run start (symbols done) ≡ on K → step K (symbol t) ≡ stuck → Could (done ++ (t ∷ [])) → ⊥
unfolding run
could_not done t K h e c =
    let a : run start (symbols (tokens c.text)) ≡ on [] = text_is (symbols (tokens c.text)) c.tree c.writes.written in
    let b : tokens c.text ≡ done ++ (t ∷ c.more) = c.begins ∙ append_assoc done (t ∷ []) c.more in
    let d : run start (symbols (tokens c.text)) ≡ stuck = rw b (run_behind done (t ∷ c.more) K h ∙ rw (run, e) refl) in
    never d a

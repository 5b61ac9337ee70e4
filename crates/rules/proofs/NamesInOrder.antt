-- The names that a text's tree uses, and those that it defines, are tokens of the text, in written order: so their places increase.
-- Assumes nothing.
use mathlib.Core.Bool.{Bool, true, false}
use mathlib.Core.List.{List, [], ◌∷◌, ◌++◌, append_assoc, nil≢cons}
use mathlib.Core.Logic.{◌⊎◌, inl, inr}
use mathlib.Core.Path.{◌≡◌, refl, sym, ◌∙◌, ap}
use Prim.Native.Nat.{ℕ, suc, ◌≤◌}
use native.Mathlib.Omega.{arith}
use lib.ListN.{get_or}
use Rattle.rules.specs.Words.{letter, reserved, reserved_position}
use Rattle.rules.specs.Tokens.{Token, Symbol, word, reserved_word, one_byte, symbol, symbols, tokens}
use Rattle.rules.specs.Notation.{Way, Ty, ended, name, message, choice, Items, no_items, sort, session, Labels, last_label, label, Text, last_definition, definition, write_type, parted, write_items, write_labels, write_text, Writes}
use Rattle.rules.specs.Refusals.{uses, uses_items, uses_labels, used_names, defined_names, OneOf}
use Rattle.rules.proofs.TokenLists.{earlier_place}

-- Tokens that stand, in this order, among the words of some symbols.
pub data InOrder : List Token → List Symbol → Type 0 where
  no_more : {k : List Symbol} → InOrder [] k
  taken : {w : Token} {ts : List Token} {k : List Symbol} → InOrder ts k → InOrder (w ∷ ts) (word w ∷ k)
  passed : {a : Symbol} {ts : List Token} {k : List Symbol} → InOrder ts k → InOrder ts (a ∷ k)

past_comma : {ts : List Token} {k : List Symbol} (xs : Items) → InOrder ts k → InOrder ts (parted xs k)
past_comma no_items h = h
past_comma (sort s xs) h = passed h
past_comma (session x xs) h = passed h

-- what stands behind a tree stands behind its first symbol too
mutual
  past_type : {ts : List Token} {k : List Symbol} (x : Ty) → InOrder ts k → InOrder ts (write_type x k)
  past_type ended h = passed h
  past_type (name w) h = passed h
  past_type (message d xs x) h = passed (passed (past_items d xs (passed (past_type x h))))
  past_type (choice d ls) h = passed (passed (past_labels ls h))

  past_items : {ts : List Token} {k : List Symbol} (d : Way) (xs : Items) → InOrder ts k → InOrder ts (write_items d xs k)
  past_items d no_items h = passed h
  past_items d (sort s xs) h = passed (past_comma xs (past_items d xs h))
  past_items d (session x xs) h = past_type x (past_comma xs (past_items d xs h))

  past_labels : {ts : List Token} {k : List Symbol} (ls : Labels) → InOrder ts k → InOrder ts (write_labels ls k)
  past_labels (last_label w x) h = passed (passed (past_type x (passed h)))
  past_labels (label w x ls) h = passed (passed (past_type x (passed (past_labels ls h))))

-- the names used in a tree stand before those behind it
mutual
  type_uses : {ts : List Token} {k : List Symbol} (x : Ty) → InOrder ts k → InOrder (uses x ts) (write_type x k)
  type_uses ended h = passed h
  type_uses (name w) h = taken h
  type_uses (message d xs x) h = passed (passed (items_use d xs (passed (type_uses x h))))
  type_uses (choice d ls) h = passed (passed (labels_use ls h))

  items_use : {ts : List Token} {k : List Symbol} (d : Way) (xs : Items) → InOrder ts k → InOrder (uses_items xs ts) (write_items d xs k)
  items_use d no_items h = passed h
  items_use d (sort s xs) h = passed (past_comma xs (items_use d xs h))
  items_use d (session x xs) h = type_uses x (past_comma xs (items_use d xs h))

  labels_use : {ts : List Token} {k : List Symbol} (ls : Labels) → InOrder ts k → InOrder (uses_labels ls ts) (write_labels ls k)
  labels_use (last_label w x) h = passed (passed (type_uses x (passed h)))
  labels_use (label w x ls) h = passed (passed (type_uses x (passed (labels_use ls h))))

pub uses_in_order : (x : Text) → InOrder (used_names x) (write_text x)
uses_in_order (last_definition w x) = passed (passed (type_uses x no_more))
uses_in_order (definition w x ds) = passed (passed (type_uses x (passed (uses_in_order ds))))

pub defined_in_order : (x : Text) → InOrder (defined_names x) (write_text x)
defined_in_order (last_definition w x) = taken no_more
defined_in_order (definition w x ds) = taken (passed (past_type x (passed (defined_in_order ds))))

-- a word is the token that it is the symbol of
pub symbol_word : (t w : Token) → symbol t ≡ word w → t ≡ w
unfolding symbol
symbol_word t w e = go (letter (get_or t.spelled 0 0)) (reserved t.spelled) e
  where
    go :
        (b c : Bool)
        → elim b as (λ b. Symbol) [
          | false ↦ one_byte (get_or t.spelled 0 0)
          | true ↦ elim c as (λ c. Symbol) [ true ↦ reserved_word (reserved_position t.spelled) | false ↦ word t ]
        ] ≡ word w
        → t ≡ w
    go false c e = cc
    go true true e = cc
    go true false e = cc

-- places that increase, from n on
abbrev pub Rising : ℕ → List Token → Type 0
Rising n [] = Unit {0}
Rising n (t ∷ ts) = (n ≤ t.at) × Rising (suc t.at) ts

rising_more : (n m : ℕ) (ts : List Token) → n ≤ m → Rising m ts → Rising n ts
rising_more n m [] l r = tt
rising_more n m (t ∷ ts) l r = (omega arith, r.1)

-- where those of a list do, those of tokens in its order do
in_order_rising : {ts : List Token} {k : List Symbol} (n : ℕ) (us : List Token) → k ≡ symbols us → InOrder ts k → Rising n us → Rising n ts
in_order_rising n us e no_more r = tt
in_order_rising n [] e (taken h) r = absurd (nil≢cons (sym e))
in_order_rising n (u ∷ us) e (taken {w} h) r =
    let q : u ≡ w = symbol_word u w (cc) in
    let l : n ≤ w.at = rw (← q) r.0 in
    (l, in_order_rising (suc w.at) us (cc) h (rw q at r).1)
in_order_rising n [] e (passed h) r = absurd (nil≢cons (sym e))
in_order_rising n (u ∷ us) e (passed {ts} h) r =
    in_order_rising n us (cc) h (rising_more n (suc u.at) us (omega arith) r.1)

-- the places of a text's tokens increase
module _ (s : List ℕ) where
  rising_behind : (rest done : List Token) (d : Token) → tokens s ≡ done ++ (d ∷ rest) → Rising (suc d.at) rest
  rising_behind [] done d e = tt
  rising_behind (t ∷ rest) done d e =
      let f = e ∙ sym (append_assoc done (d ∷ []) (t ∷ rest)) in
      (earlier_place s done [] rest d t f, rising_behind rest (done ++ (d ∷ [])) t f)

  tokens_rising : Rising 0 (tokens s)
  tokens_rising = go (tokens s) refl
    where
      go : (ts : List Token) → tokens s ≡ ts → Rising 0 ts
      go [] e = tt
      go (t ∷ ts) e = (omega arith, rising_behind ts [] t e)

rising_from : (n : ℕ) (before after : List Token) (t : Token) → Rising n (before ++ (t ∷ after)) → n ≤ t.at
rising_from n [] after t r = r.0
rising_from n (u ∷ before) after t r = let l = rising_from (suc u.at) before after t r.1 in omega (arith, r.0)

-- one of the tokens of a list: the first, or one of the others
pub one_first : (t : Token) (ts : List Token) → OneOf t (t ∷ ts)
one_first t ts = record { before = []; after = ts; split = refl }

pub one_later : {u : Token} {ts : List Token} (t : Token) → OneOf u ts → OneOf u (t ∷ ts)
one_later t o = record { before = t ∷ o.before; after = o.after; split = ap (λ (l : List Token). t ∷ l) o.split }

-- one of the tokens of a list whose places increase stands before t or has no lesser place
before_or_later :
    (n : ℕ) (before after done rest : List Token) (t u : Token) → Rising n (before ++ (t ∷ after))
    → before ++ (t ∷ after) ≡ done ++ (u ∷ rest) → OneOf u before ⊎ (t.at ≤ u.at)
before_or_later n [] after [] rest t u r e = let q : t ≡ u = cc in inr (rw q (omega arith))
before_or_later n [] after (d ∷ done) rest t u r e =
    let q : after ≡ done ++ (u ∷ rest) = cc in
    let l = rising_from (suc t.at) done rest u (rw q at r.1) in
    inr (omega arith)
before_or_later n (b ∷ before) after [] rest t u r e =
    let q : b ≡ u = cc in inl (rw q (one_first u before))
before_or_later n (b ∷ before) after (d ∷ done) rest t u r e =
    elim (before_or_later (suc b.at) before after done rest t u r.1 (cc)) [
      | inl o ↦ inl (one_later b o)
      | inr l ↦ inr l
    ]

-- in a list of a text's names that is split at t, one of the names stands before t or has no lesser place
module _ {s : List ℕ} {x : Text} (w : Writes s x) (before after : List Token) (t : Token) where
  found_first :
      {ts : List Token} → InOrder ts (write_text x) → ts ≡ before ++ (t ∷ after) → (u : Token) → OneOf u ts
      → OneOf u before ⊎ (t.at ≤ u.at)
  found_first {ts} h e u o =
      before_or_later 0 before after o.before o.after t u
      (rw e at (in_order_rising 0 (tokens s) w.written h (tokens_rising s))) (sym e ∙ o.split)

  pub first_use : used_names x ≡ before ++ (t ∷ after) → (u : Token) → OneOf u (used_names x) → OneOf u before ⊎ (t.at ≤ u.at)
  first_use = found_first (uses_in_order x)

  pub first_defined :
      defined_names x ≡ before ++ (t ∷ after) → (u : Token) → OneOf u (defined_names x) → OneOf u before ⊎ (t.at ≤ u.at)
  first_defined = found_first (defined_in_order x)

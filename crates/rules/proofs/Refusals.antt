-- The order of refusals says document 01's words, and the computed fault of a token is the lowest number of the declared ones.
-- Assumes nothing.
use mathlib.Core.Bool.{Bool, true, false, false≢true, ◌&&◌, ◌||◌, and-eq-true_iff}
use mathlib.Core.Logic.{◌⊎◌, inl, inr}
use mathlib.Core.Option.{Option, some}
use mathlib.Core.Path.{◌≡◌, refl, sym, ap, ◌∙◌}
use mathlib.Core.List.{List, [], ◌∷◌}
use mathlib.Mathlib.Data.Bool.Basic.{and_intro, or_inl, or_inr}
use Prim.Native.Nat.{ℕ, ◌<◌, ◌≤◌}
use native.Mathlib.Decide.{dec_lt}
use native.Mathlib.Omega.{arith}
use lib.Dec.{leb, ltb}
use lib.ListN.{length, get_or}
use borrow.Author.Tests.{le-leb, lt-leb, leb-true, ltb-true, lt-ltb}
use Rattle.rules.specs.Numbers.{brackets_most, text_nodes_most}
use Rattle.rules.specs.Refusals.{number, GoesFirst, group, text_too_long, unexpected, bracket_too_many, one_too_many, name_twice, never_defined, leads_round, Begins, a_definition, a_label, an_item, nothing_new, Seen, TokenFault, long_word, open_bracket, definition_more, node_more, label_more, item_more, same_label, same_name, opens, begins_node}
use Rattle.rules.specs.Tokens.{Token}
use Rattle.rules.specs.Words.{word_most}
use Rattle.rules.specs.computed.Reading.{one_more, if_so, again, lowest, token_fault}
use Rattle.table.specs.declared.answers.RefusalKind.{RefusalKind}
use Rattle.table.specs.declared.answers.RefusalKind.TheVariants as kind

-- The groups are 1; 2 to 7; 8; 9.
group_first : group text_too_long ≡ text_too_long
unfolding group
group_first = refl

pub group_middle : (n : ℕ) → unexpected ≤ n → n ≤ name_twice → group n ≡ name_twice
unfolding group
group_middle n a b = rw (group, lt-leb n 1 (omega arith), le-leb n 7 b)

pub group_late : (n : ℕ) → name_twice < n → group n ≡ n
unfolding group
group_late n a = rw (group, lt-leb n 1 (omega arith), lt-leb n 7 a)

-- "1 first"
pub first_long : (p n q : ℕ) → unexpected ≤ n → GoesFirst text_too_long p n q
first_long p n q l = inl (go (dec_lt name_twice n))
  where
    go : Dec (name_twice < n) → group text_too_long < group n
    go (yes m) = omega (arith, group_first, group_late n m)
    go (no m) = omega (arith, group_first, group_middle n l (omega arith))

-- "then 2 to 7, the least place, and at one place the lowest number"
module _ (n m : ℕ) (a : unexpected ≤ n) (b : n ≤ name_twice) (c : unexpected ≤ m) (d : m ≤ name_twice) where
  same_group : group n ≡ group m
  same_group = group_middle n a b ∙ sym (group_middle m c d)

  pub then_least_place : (p q : ℕ) → p < q → GoesFirst n p m q
  then_least_place p q l = inr (same_group, inl l)

  pub then_lowest_number : (p : ℕ) → n < m → GoesFirst n p m p
  then_lowest_number p l = inr (same_group, inr (refl, l))

-- "then 8; then 9"
pub then_undefined : (n p q : ℕ) → unexpected ≤ n → n ≤ name_twice → GoesFirst n p never_defined q
then_undefined n p q a b = inl (omega (arith, group_middle n a b, group_late never_defined (omega arith)))

pub then_round : (p q : ℕ) → GoesFirst never_defined p leads_round q
then_round p q = inl (omega (arith, group_late never_defined (omega arith), group_late leads_round (omega arith)))

-- Of two refusals one goes first, unless they are one; and none goes before itself.
numbers_total : (a b : ℕ) → (a < b) ⊎ (b < a) ⊎ (a ≡ b)
numbers_total a b =
    elim (dec_lt a b) [
      | yes h ↦ inl h
      | no g ↦ elim (dec_lt b a) [ yes h ↦ inr (inl h) | no h ↦ inr (inr (omega arith)) ]
    ]

pub goes_first_total : (n p m q : ℕ) → GoesFirst n p m q ⊎ GoesFirst m q n p ⊎ ((n ≡ m) × (p ≡ q))
goes_first_total n p m q =
    elim (numbers_total (group n) (group m)) [
      | inl h ↦ inl (inl h)
      | inr (inl h) ↦ inr (inl (inl h))
      | inr (inr e) ↦
          elim (numbers_total p q) [
            | inl h ↦ inl (inr (e, inl h))
            | inr (inl h) ↦ inr (inl (inr (sym e, inl h)))
            | inr (inr f) ↦
                elim (numbers_total n m) [
                  | inl h ↦ inl (inr (e, inr (f, h)))
                  | inr (inl h) ↦ inr (inl (inr (sym e, inr (sym f, h))))
                  | inr (inr g) ↦ inr (inr (g, f))
                ]
          ]
    ]

pub goes_first_irreflexive : (n p : ℕ) → GoesFirst n p n p → ⊥
goes_first_irreflexive n p (inl l) = omega arith
goes_first_irreflexive n p (inr (e, inl l)) = omega arith
goes_first_irreflexive n p (inr (e, inr (c, l))) = omega arith

-- kinds with one number are one kind: of the numbers of the list, in order, 0 and 12 are no kind's
abbrev kinds : List RefusalKind
kinds =
    kind.TextTooLong ∷ kind.TextTooLong ∷ kind.Unexpected ∷ kind.WordTooLong ∷ kind.BracketTooMany ∷ kind.OneTooMany
    ∷ kind.LabelTwice ∷ kind.NameTwice ∷ kind.NeverDefined ∷ kind.LeadsRound ∷ kind.NotWellFormed ∷ kind.AreaTooShort
    ∷ kind.TextTooLong ∷ kind.DualTooLarge ∷ []

abbrev numbered : ℕ → RefusalKind
numbered n = get_or kinds n kind.TextTooLong

kind_numbered : (k : RefusalKind) → numbered (number k) ≡ k
kind_numbered kind.TextTooLong = refl
kind_numbered kind.Unexpected = refl
kind_numbered kind.WordTooLong = refl
kind_numbered kind.BracketTooMany = refl
kind_numbered kind.OneTooMany = refl
kind_numbered kind.LabelTwice = refl
kind_numbered kind.NameTwice = refl
kind_numbered kind.NeverDefined = refl
kind_numbered kind.LeadsRound = refl
kind_numbered kind.NotWellFormed = refl
kind_numbered kind.AreaTooShort = refl
kind_numbered kind.DualTooLarge = refl

pub kind_one : (j k : RefusalKind) → number j ≡ number k → j ≡ k
kind_one j k e = sym (kind_numbered j) ∙ ap numbered e ∙ kind_numbered k

if_so_some : (b : Bool) (n m : RefusalKind) → if_so b n ≡ some m → (b ≡ true) × (n ≡ m)
if_so_some true n m e = (refl, cc)
if_so_some false n m e = absurd cc

-- What the computed fault of a token says is declared ..
module _ (z : Seen) (t : Token) where
  -- the tests for 3, for 4, and for 5
  abbrev too_long : Bool
  too_long = ltb word_most (length t.spelled)

  abbrev too_deep : Bool
  too_deep = opens t && leb brackets_most (length z.brackets)

  abbrev too_many_nodes : Bool
  too_many_nodes = begins_node t && leb text_nodes_most z.nodes

  abbrev too_many : Bool
  too_many = too_many_nodes || one_more z t z.next

  more_declared : (b : Begins) → z.next ≡ b → one_more z t b ≡ true → TokenFault z t one_too_many
  more_declared a_definition e h = definition_more e (leb-true _ _ h)
  more_declared a_label e h = label_more e (leb-true _ _ h)
  more_declared an_item e h = item_more e (leb-true _ _ h)
  more_declared nothing_new e h = absurd (false≢true h)

  five_declared :
      (b : Bool) → too_many_nodes ≡ b → (b || one_more z t z.next) ≡ true → TokenFault z t one_too_many
  five_declared true e h = let k = (and-eq-true_iff (begins_node t) (leb text_nodes_most z.nodes)).0 e in node_more k.0 (leb-true _ _ k.1)
  five_declared false e h = more_declared z.next refl h

  again_declared : (b : Begins) (k : RefusalKind) → z.next ≡ b → again z t b ≡ some k → TokenFault z t (number k)
  again_declared a_definition k e h = let w = if_so_some _ kind.NameTwice k h in rw (← w.1) (same_name e w.0)
  again_declared a_label k e h = let w = if_so_some _ kind.LabelTwice k h in rw (← w.1) (same_label e w.0)
  again_declared an_item k e h = absurd cc
  again_declared nothing_new k e h = absurd cc

  pub token_fault_declared : (k : RefusalKind) → token_fault z t ≡ some k → TokenFault z t (number k)
  unfolding token_fault
  token_fault_declared k e = go too_long refl too_deep refl too_many refl e
    where
      go :
          (a : Bool) → too_long ≡ a → (b : Bool) → too_deep ≡ b → (c : Bool) → too_many ≡ c
          → lowest a b c (again z t z.next) ≡ some k → TokenFault z t (number k)
      go true p b q c r e = let w : kind.WordTooLong ≡ k = cc in rw (← w) (long_word (ltb-true _ _ p))
      go false p true q c r e =
          let w : kind.BracketTooMany ≡ k = cc in
          let h = (and-eq-true_iff (opens t) (leb brackets_most (length z.brackets))).0 q in
          rw (← w) (open_bracket h.0 (leb-true _ _ h.1))
      go false p false q true r e =
          let w : kind.OneTooMany ≡ k = cc in rw (← w) (five_declared too_many_nodes refl r)
      go false p false q false r e = again_declared z.next k refl e

  -- .. and no declared one has a lower number.
  abbrev FoundBelow : ℕ → Type 0
  FoundBelow m = (k : RefusalKind) × (token_fault z t ≡ some k) × (number k ≤ m)

  -- a test that passes, or a number behind the tests, is found unless a lower one is
  module _ (o : Option RefusalKind) (m : ℕ) where
    found_four : (a b c : Bool) → b ≡ true → bracket_too_many ≤ m → (k : RefusalKind) × (lowest a b c o ≡ some k) × (number k ≤ m)
    found_four true b c e l = (kind.WordTooLong, refl, omega arith)
    found_four false true c e l = (kind.BracketTooMany, refl, l)
    found_four false false c e l = absurd (false≢true e)

    found_five : (a b c : Bool) → c ≡ true → one_too_many ≤ m → (k : RefusalKind) × (lowest a b c o ≡ some k) × (number k ≤ m)
    found_five true b c e l = (kind.WordTooLong, refl, omega arith)
    found_five false true c e l = (kind.BracketTooMany, refl, omega arith)
    found_five false false true e l = (kind.OneTooMany, refl, l)
    found_five false false false e l = absurd (false≢true e)

    found_again : (a b c : Bool) (j : RefusalKind) → o ≡ some j → number j ≤ m → one_too_many ≤ m → (k : RefusalKind) × (lowest a b c o ≡ some k) × (number k ≤ m)
    found_again true b c j e i l = (kind.WordTooLong, refl, omega arith)
    found_again false true c j e i l = (kind.BracketTooMany, refl, omega arith)
    found_again false false true j e i l = (kind.OneTooMany, refl, l)
    found_again false false false j e i l = (j, e, i)

  found_more : one_more z t z.next ≡ true → FoundBelow one_too_many
  unfolding token_fault
  found_more e = found_five (again z t z.next) one_too_many too_long too_deep too_many (or_inr too_many_nodes _ e) (omega arith)

  found_twice : (k : RefusalKind) → again z t z.next ≡ some k → one_too_many ≤ number k → FoundBelow (number k)
  unfolding token_fault
  found_twice k e l = found_again (again z t z.next) (number k) too_long too_deep too_many k e (omega arith) l

  pub token_fault-lowest : (m : ℕ) → TokenFault z t m → FoundBelow m
  unfolding token_fault
  token_fault-lowest m (long_word l) = (kind.WordTooLong, rw (lt-ltb _ _ l), omega arith)
  token_fault-lowest m (open_bracket o l) =
      found_four (again z t z.next) m too_long too_deep too_many (and_intro o (le-leb _ _ l)) (omega arith)
  token_fault-lowest m (node_more o l) =
      found_five (again z t z.next) m too_long too_deep too_many (or_inl _ _ (and_intro o (le-leb _ _ l))) (omega arith)
  token_fault-lowest m (definition_more e l) = found_more (rw e (le-leb _ _ l))
  token_fault-lowest m (label_more e l) = found_more (rw e (le-leb _ _ l))
  token_fault-lowest m (item_more e l) = found_more (rw e (le-leb _ _ l))
  token_fault-lowest m (same_label e h) = found_twice kind.LabelTwice (rw (e, h)) (omega arith)
  token_fault-lowest m (same_name e h) = found_twice kind.NameTwice (rw (e, h)) (omega arith)

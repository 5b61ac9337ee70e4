-- Laws of the steps of two well formed tables: a number leads to one pair at most, inside the tables, and is below the
-- most that a choice has labels.
-- Where a step leads is looked at node by node: its links are within the tables because no mismatch stands in the way.
-- Assumes nothing.
use Rattle.std.specs.Prelude.{None, Some}
use mathlib.Core.Bool.{Bool, true, false}
use mathlib.Core.List.{List}
use mathlib.Core.Option.{some, some-injective}
use mathlib.Core.Path.{◌≡◌, refl, subst}
use Prim.Native.Nat.{ℕ, zero, suc, ◌<◌, ◌≤◌}
use native.Mathlib.Omega.{arith}
use lib.Dec.{eqb, ltb}
use borrow.Author.Tests.{eqb-true, leb-true, leb-false, ltb-true}
use Rattle.rules.specs.Basics.{first}
use Rattle.rules.specs.Numbers.{labels_most}
use Rattle.rules.specs.Tables.{item_count, item_at, label_count, label_at, spelling_at, continuation}
use Rattle.rules.specs.Pairs.{Wrong, Pair, Onward, Step, or_else, unless, kinds_differ, counts_differ, item_differs, position, lacks, label_lacking, by_chooser, mismatch_of, mismatch_at, onto, nowhere, exchanged, continuation_step, into_item, message_step, choice_step, step_by, step_of, step_at, landed, left_in, right_in, turn_after, turns_most}
use Rattle.rules.proofs.Basics.{first_found, none_some}
use Rattle.rules.proofs.Formed.{FormedMessage, FormedChoice, FormedNode, WellFormed}
use Rattle.table.specs.declared.Kind.{Kind}
use Rattle.table.specs.declared.Kind.TheVariants.{End, Receive, Send, Branch, Choose}
use Rattle.table.specs.declared.Item.{Item}
use Rattle.table.specs.declared.Item.TheVariants.{OfSort, Session}
use Rattle.table.specs.declared.Node.{Node}
use Rattle.table.specs.declared.Table.{Table}
use Rattle.table.specs.declared.answers.Mismatch.{Mismatch}
use Rattle.table.specs.declared.answers.Mismatch.TheVariants as mismatch

-- where nothing is wrong, no reason applies
pub or_else_nothing : (a b : Wrong) → or_else a b ≡ None → (a ≡ None) × (b ≡ None)
or_else_nothing None b e = (refl, e)
or_else_nothing (Some w) b e = absurd cc

pub unless_nothing : (b : Bool) (w : Mismatch) → unless b w ≡ None → b ≡ true
unless_nothing true w e = refl
unless_nothing false w e = absurd cc

pub none_lacking :
    (x : Node) (xs : List ℕ) (y : Node) (ys : List ℕ) → label_lacking x xs y ys ≡ None → (i : ℕ) → i < label_count x
    → position (spelling_at x xs i) y ys < label_count y
unfolding label_lacking lacks
none_lacking x xs y ys e i l =
    let none_before : label_count x ≤ first (label_count x) (lacks x xs y ys) = leb-true _ _ (unless_nothing _ (mismatch.Label _) e) in
    leb-false _ _ ((first_found (label_count x) (lacks x xs y ys)).before i (omega arith))

-- what of this a step stands on
pub no_mismatch :
    (x : Node) (xs : List ℕ) (y : Node) (ys : List ℕ) → mismatch_of x xs y ys ≡ None
    → (item_count x ≡ item_count y) × (by_chooser x.kind (label_lacking x xs y ys) (label_lacking y ys x xs) ≡ None)
unfolding mismatch_of counts_differ
no_mismatch x xs y ys e =
    let labels = by_chooser x.kind (label_lacking x xs y ys) (label_lacking y ys x xs) in
    let a = or_else_nothing (kinds_differ x y) (or_else (counts_differ x y) (or_else (item_differs x y) labels)) e in
    let b = or_else_nothing (counts_differ x y) (or_else (item_differs x y) labels) a.1 in
    let c = or_else_nothing (item_differs x y) labels b.1 in
    (eqb-true _ _ (unless_nothing _ mismatch.Counts b.0), c.1)

-- step s leads within n and m nodes, and is low enough
abbrev Lands : ℕ → ℕ → ℕ → Onward → Type 0
Lands n m s nowhere = Unit {0}
Lands n m s (onto l r t) = (l < n) × (r < m) × (s < labels_most)

module _ {n m : ℕ} {x : Node} {y : Node} (s : ℕ) (t : Bool) (fx : FormedMessage n x) (fy : FormedMessage m y) where
  item_lands : s < item_count x → s < item_count y → (a b : Item) → item_at x s ≡ a → item_at y s ≡ b → Lands n m s (into_item a b t)
  item_lands k l (OfSort a) (OfSort b) d e = tt
  item_lands k l (OfSort a) (Session j) d e = tt
  item_lands k l (Session i) (OfSort b) d e = tt
  item_lands k l (Session i) (Session j) d e = (fx.item_links s i k d, fy.item_links s j l e, omega arith)

  message_lands : item_count x ≡ item_count y → Lands n m s (message_step x y t s)
  unfolding message_step
  message_lands c = go (ltb s (item_count x)) refl (eqb s continuation_step) refl
    where
      go :
          (a : Bool) → ltb s (item_count x) ≡ a → (b : Bool) → eqb s continuation_step ≡ b
          → Lands n m s (elim a as (λ z. Onward) [
            | true ↦ into_item (item_at x s) (item_at y s) t
            | false ↦ elim b as (λ z. Onward) [ true ↦ onto (continuation x) (continuation y) false | false ↦ nowhere ]
          ])
      go true d b e = let k = ltb-true _ _ d in item_lands k (omega arith) (item_at x s) (item_at y s) refl refl
      go false d true e = (fx.goes_on, fy.goes_on, omega (arith, eqb-true s 4 e))
      go false d false e = tt

module _ {n m : ℕ} {x : Node} {xs : List ℕ} {y : Node} {ys : List ℕ} (s : ℕ) (fx : FormedChoice n xs x) (fy : FormedChoice m ys y) where
  choice_lands : label_lacking x xs y ys ≡ None → Lands n m s (choice_step x xs y ys s)
  unfolding choice_step
  choice_lands e = go (ltb s (label_count x)) refl
    where
      go :
          (a : Bool) → ltb s (label_count x) ≡ a
          → Lands n m s (elim a as (λ z. Onward) [
            | true ↦ onto (label_at x s).to (label_at y (position (spelling_at x xs s) y ys)).to false
            | false ↦ nowhere
          ])
      go true d =
          let k = ltb-true _ _ d in
          (fx.label_links s k, fy.label_links _ (none_lacking x xs y ys e s k), omega (arith, fx.few_labels))
      go false d = tt

exchanged_lands : (n m s : ℕ) (o : Onward) → Lands n m s o → Lands m n s (exchanged o)
exchanged_lands n m s nowhere h = tt
exchanged_lands n m s (onto l r t) h = (h.1, h.0, h.2)

node_lands :
    {n m : ℕ} {x : Node} {xs : List ℕ} {y : Node} {ys : List ℕ} (s : ℕ) → FormedNode n xs x → FormedNode m ys y
    → mismatch_of x xs y ys ≡ None → Lands n m s (step_of x xs y ys s)
unfolding step_of
node_lands {n} {m} {x} {xs} {y} {ys} s fx fy e = let f = no_mismatch x xs y ys e in go f.0 x.kind f.1
  where
    go :
        item_count x ≡ item_count y → (k : Kind) → by_chooser k (label_lacking x xs y ys) (label_lacking y ys x xs) ≡ None
        → Lands n m s (step_by k x xs y ys s)
    go c End e = tt
    go c Receive e = message_lands s false fx.message fy.message c
    go c Send e = message_lands s true fx.message fy.message c
    go c Branch e = choice_lands s fx.choice fy.choice e
    go c Choose e = exchanged_lands m n s (choice_step y ys x xs s) (choice_lands s fy.choice fx.choice e)

-- a pair of nodes below n and m
pub record Inside (n m : ℕ) (p : Pair) : Type 0 where
  pub turn_below : p.turn < turns_most
  pub new_below : p.new < n
  pub old_below : p.old < m

-- a pair of the tables' nodes
abbrev pub Within : Table → Table → Pair → Type 0
Within new old p = Inside new.count old.count p

turn_after_below : (t : Bool) (u : ℕ) → u < turns_most → turn_after t u < turns_most
turn_after_below true zero l = omega arith
turn_after_below true (suc u) l = omega arith
turn_after_below false u l = l

-- a step leads to one pair
pub step_one :
    {new : Table} {new_names : List ℕ} {old : Table} {old_names : List ℕ} {p : Pair} {s : ℕ} {q r : Pair}
    → Step new new_names old old_names p s q → Step new new_names old old_names p s r → q ≡ r
step_one S R = let d = S.leads in let e = R.leads in cc

-- what the left node is asked, and the right one, where both the new and the old one are asked their own
module _ {n m : ℕ} {x : Node} {xs : List ℕ} {y : Node} {ys : List ℕ} where
  pub left_formed : (u : ℕ) → FormedNode n xs x → FormedNode m ys y → FormedNode (left_in u n m) (left_in u xs ys) (left_in u x y)
  left_formed zero fx fy = fx
  left_formed (suc u) fx fy = fy

  pub right_formed : (u : ℕ) → FormedNode n xs x → FormedNode m ys y → FormedNode (right_in u n m) (right_in u xs ys) (right_in u x y)
  right_formed zero fx fy = fy
  right_formed (suc u) fx fy = fx

lands_inside :
    (n m s u : ℕ) → u < turns_most → (o : Onward) → Lands (left_in u n m) (right_in u n m) s o → (q : Pair) → landed u o ≡ some q
    → Inside n m q × (s < labels_most)
lands_inside n m s u l nowhere h q e = absurd (none_some e)
lands_inside n m s zero l (onto a b t) h q e = (
  subst (Inside n m) (some-injective _ q e)
      (record { turn_below = turn_after_below t zero l; new_below = h.0; old_below = h.1 }),
  h.2,
)
lands_inside n m s (suc u) l (onto a b t) h q e = (
  subst (Inside n m) (some-injective _ q e)
      (record { turn_below = turn_after_below t (suc u) l; new_below = h.1; old_below = h.0 }),
  h.2,
)

-- the steps of two nodes that fit, in turn u
pub nodes_land :
    {n m u : ℕ} {x : Node} {xs : List ℕ} {y : Node} {ys : List ℕ} → u < turns_most → FormedNode (left_in u n m) xs x
    → FormedNode (right_in u n m) ys y → mismatch_of x xs y ys ≡ None → (s : ℕ) (q : Pair)
    → landed u (step_of x xs y ys s) ≡ some q → Inside n m q × (s < labels_most)
nodes_land {n} {m} {u} {x} {xs} {y} {ys} l fx fy e s q d = lands_inside n m s u l (step_of x xs y ys s) (node_lands s fx fy e) q d

module _ {new : Table} {new_names : List ℕ} {old : Table} {old_names : List ℕ} (new_formed : WellFormed new new_names) (old_formed : WellFormed old old_names) where
  step_lands : (p : Pair) (s : ℕ) (q : Pair) → Within new old p → Step new new_names old old_names p s q → Within new old q × (s < labels_most)
  unfolding mismatch_at step_at
  step_lands p s q w S =
      let x = new_formed.each p.new w.new_below in
      let y = old_formed.each p.old w.old_below in
      nodes_land w.turn_below (left_formed p.turn x y) (right_formed p.turn x y) S.fits s q S.leads

  pub step_within : {p : Pair} {s : ℕ} {q : Pair} → Within new old p → Step new new_names old old_names p s q → Within new old q
  step_within {p} {s} {q} w S = (step_lands p s q w S).0

  pub step-numbered : {p : Pair} {s : ℕ} {q : Pair} → Within new old p → Step new new_names old old_names p s q → s < labels_most
  step-numbered {p} {s} {q} w S = (step_lands p s q w S).1

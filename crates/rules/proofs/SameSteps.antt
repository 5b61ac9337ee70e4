-- Two nodes beside each other, and two that say the same: the same is wrong with both, and each step leads to the same.
-- Items and labels are read below their counts only; a step reads a label where nothing is lacking, so that it is there.
-- Assumes nothing.
use Rattle.std.specs.Prelude.{None, Some}
use mathlib.Core.Bool.{Bool, true, false, not}
use mathlib.Core.List.{List}
use mathlib.Core.Path.{◌≡◌, refl, ap, ap₂, ◌∙◌}
use Prim.Native.Nat.{ℕ, ◌<◌}
use native.Mathlib.Omega.{arith}
use lib.Dec.{eqb, leb, ltb}
use borrow.Author.Tests.{eqb-true, ltb-true}
use Rattle.rules.specs.Basics.{same, first}
use Rattle.rules.specs.Tables.{item_count, item_at, label_count, label_at, spelling_at, continuation, SameNode}
use Rattle.rules.specs.Pairs.{Wrong, Onward, or_else, unless, at_first, kind_number, kinds_differ, counts_differ, items_agree, item_differs, position, lacks, label_lacking, by_chooser, mismatch_of, onto, nowhere, exchanged, continuation_step, into_item, message_step, choice_step, step_by, step_of}
use Rattle.rules.proofs.Basics.{first_found, found_first}
use Rattle.rules.proofs.Steps.{unless_nothing, none_lacking, no_mismatch}
use Rattle.rules.proofs.Tables.{same_node_spelling}
use Rattle.table.specs.declared.Kind.{Kind}
use Rattle.table.specs.declared.Kind.TheVariants.{End, Receive, Send, Branch, Choose}
use Rattle.table.specs.declared.Item.{Item}
use Rattle.table.specs.declared.Label.{Label}
use Rattle.table.specs.declared.Node.{Node}
use Rattle.table.specs.declared.answers.Mismatch.{Mismatch}
use Rattle.table.specs.declared.answers.Mismatch.TheVariants as mismatch

-- tests that agree below n pass first at the same position
first_same : {n m : ℕ} (p q : ℕ → Bool) → n ≡ m → ((i : ℕ) → i < n → p i ≡ q i) → first n p ≡ first m q
first_same {n} {m} p q e h =
    let F = first_found m q in
    found_first n p (first m q)
    (record {
      within = omega (arith, F.within);
      before = λ j l. h j (omega (arith, F.within)) ∙ F.before j l;
      here = λ l. h (first m q) l ∙ F.here (omega arith);
    })

at_first_same :
    (r : ℕ → Mismatch) {n m : ℕ} (p q : ℕ → Bool) → n ≡ m → ((i : ℕ) → i < n → p i ≡ q i) → at_first r n p ≡ at_first r m q
at_first_same r p q e h =
    ap₂ {C = Wrong} (λ (n i : ℕ). unless (leb n i) (r i)) e (first_same p q e h)

-- what comes second counts where the first is nothing
or_else_same : (a b c d : Wrong) → a ≡ b → (a ≡ None → c ≡ d) → or_else a c ≡ or_else b d
or_else_same a b c d e f = ap (λ (m : Wrong). or_else m c) e ∙ go b (λ z. f (e ∙ z))
  where
    go : (b : Wrong) → (b ≡ None → c ≡ d) → or_else b c ≡ or_else b d
    go None f = f refl
    go (Some w) f = refl

-- nodes that say the same beside their labels
pub record SameButLabels (x y : Node) : Type 0 where
  pub kind : x.kind ≡ y.kind
  pub items : item_count x ≡ item_count y
  pub each_item : (i : ℕ) → i < item_count x → item_at x i ≡ item_at y i
  pub goes_on : continuation x ≡ continuation y

module _ {x x' y y' : Node} (S : SameButLabels x x') (T : SameButLabels y y') where
  item_differs_same : item_count x ≡ item_count y → item_differs x y ≡ item_differs x' y'
  unfolding item_differs
  item_differs_same c =
      at_first_same mismatch.Item (λ i. not (items_agree (item_at x i) (item_at y i))) (λ i. not (items_agree (item_at x' i) (item_at y' i)))
      S.items
      (λ i l. ap₂ {C = Bool} (λ (a b : Item). not (items_agree a b)) (S.each_item i l) (T.each_item i (omega arith)))

  -- the same is wrong with both if it is so with their labels
  pub mismatch_but_labels :
      (xs ys : List ℕ)
      → by_chooser x.kind (label_lacking x xs y ys) (label_lacking y ys x xs)
      ≡ by_chooser x.kind (label_lacking x' xs y' ys) (label_lacking y' ys x' xs)
      → mismatch_of x xs y ys ≡ mismatch_of x' xs y' ys
  unfolding mismatch_of kinds_differ counts_differ
  mismatch_but_labels xs ys e =
      or_else_same _ _ _ _ (ap₂ {C = Wrong} (λ (j k : Kind). unless (eqb (kind_number j) (kind_number k)) mismatch.Kinds) S.kind T.kind)
      (λ a.
      or_else_same _ _ _ _ (ap₂ {C = Wrong} (λ (n m : ℕ). unless (eqb n m) mismatch.Counts) S.items T.items)
      (λ b.
      or_else_same _ _ _ _ (item_differs_same (eqb-true _ _ (unless_nothing _ mismatch.Counts b)))
      (λ c. e ∙ ap (λ (k : Kind). by_chooser k (label_lacking x' xs y' ys) (label_lacking y' ys x' xs)) S.kind)))

  pub message_step_same : item_count x ≡ item_count y → (t : Bool) (s : ℕ) → message_step x y t s ≡ message_step x' y' t s
  unfolding message_step
  message_step_same c t s = go (ltb s (item_count x)) refl ∙ ap (λ (n : ℕ). by_test (ltb s n)) S.items
    where
      goes_on : ℕ → ℕ → Onward
      goes_on l r = elim (eqb s continuation_step) as (λ z. Onward) [ true ↦ onto l r false | false ↦ nowhere ]

      by_test : Bool → Onward
      by_test b =
          elim b as (λ z. Onward) [
            | true ↦ into_item (item_at x' s) (item_at y' s) t
            | false ↦ goes_on (continuation x') (continuation y')
          ]

      go :
          (b : Bool) → ltb s (item_count x) ≡ b
          → elim b as (λ z. Onward) [
            | true ↦ into_item (item_at x s) (item_at y s) t
            | false ↦ goes_on (continuation x) (continuation y)
          ]
          ≡ by_test b
      go true e =
          let l = ltb-true s (item_count x) e in
          ap₂ {C = Onward} (λ (a b : Item). into_item a b t) (S.each_item s l) (T.each_item s (omega arith))
      go false e = ap₂ {C = Onward} goes_on S.goes_on T.goes_on

same_but_labels : {x y : Node} → SameNode x y → SameButLabels x y
same_but_labels S = record { kind = S.kind; items = S.items; each_item = S.each_item; goes_on = S.goes_on }

position_same : (w : List ℕ) {y y' : Node} (ys : List ℕ) → SameNode y y' → position w y ys ≡ position w y' ys
unfolding position
position_same w {y} {y'} ys T =
    first_same (λ j. same w (spelling_at y ys j)) (λ j. same w (spelling_at y' ys j)) T.labels
    (λ j l. ap (same w) (same_node_spelling ys T j l))

module _ {x x' y y' : Node} (xs ys : List ℕ) (S : SameNode x x') (T : SameNode y y') where
  place_same : (i : ℕ) → i < label_count x → position (spelling_at x xs i) y ys ≡ position (spelling_at x' xs i) y' ys
  place_same i l = ap (λ (w : List ℕ). position w y ys) (same_node_spelling xs S i l) ∙ position_same (spelling_at x' xs i) ys T

  label_lacking_same : label_lacking x xs y ys ≡ label_lacking x' xs y' ys
  unfolding label_lacking lacks
  label_lacking_same =
      at_first_same mismatch.Label (lacks x xs y ys) (lacks x' xs y' ys) S.labels (λ i l. ap₂ {C = Bool} leb T.labels (place_same i l))

  choice_step_same : label_lacking x xs y ys ≡ None → (s : ℕ) → choice_step x xs y ys s ≡ choice_step x' xs y' ys s
  unfolding choice_step
  choice_step_same e s = go (ltb s (label_count x)) refl ∙ ap (λ (n : ℕ). by_test (ltb s n)) S.labels
    where
      by_test : Bool → Onward
      by_test b =
          elim b as (λ z. Onward) [
            | true ↦ onto (label_at x' s).to (label_at y' (position (spelling_at x' xs s) y' ys)).to false
            | false ↦ nowhere
          ]

      go :
          (b : Bool) → ltb s (label_count x) ≡ b
          → elim b as (λ z. Onward) [
            | true ↦ onto (label_at x s).to (label_at y (position (spelling_at x xs s) y ys)).to false
            | false ↦ nowhere
          ]
          ≡ by_test b
      go true d =
          let l = ltb-true s (label_count x) d in
          ap₂ {C = Onward} (λ (a b : Label). onto a.to b.to false) (S.each_label s l)
          (T.each_label _ (none_lacking x xs y ys e s l) ∙ ap (label_at y') (place_same s l))
      go false d = refl

module _ {x x' y y' : Node} (xs ys : List ℕ) (S : SameNode x x') (T : SameNode y y') where
  pub mismatch_same : mismatch_of x xs y ys ≡ mismatch_of x' xs y' ys
  mismatch_same =
      mismatch_but_labels (same_but_labels S) (same_but_labels T) xs ys
      (ap₂ {C = Wrong} (by_chooser x.kind) (label_lacking_same xs ys S T) (label_lacking_same ys xs T S))

  pub step_same : mismatch_of x xs y ys ≡ None → (s : ℕ) → step_of x xs y ys s ≡ step_of x' xs y' ys s
  unfolding step_of
  step_same e s = let f = no_mismatch x xs y ys e in go f.0 x.kind f.1 ∙ ap (λ (k : Kind). step_by k x' xs y' ys s) S.kind
    where
      go :
          item_count x ≡ item_count y → (k : Kind) → by_chooser k (label_lacking x xs y ys) (label_lacking y ys x xs) ≡ None
          → step_by k x xs y ys s ≡ step_by k x' xs y' ys s
      go c End d = refl
      go c Receive d = message_step_same (same_but_labels S) (same_but_labels T) c false s
      go c Send d = message_step_same (same_but_labels S) (same_but_labels T) c true s
      go c Branch d = choice_step_same xs ys S T d s
      go c Choose d = ap exchanged (choice_step_same ys xs T S d s)

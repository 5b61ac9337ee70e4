-- Two nodes as the two ends of one line. `Facing` says in plain words when node x fits the dual of node y, and `facing_fits` shows that it
-- is what the comparison with the turned node asks. A node that the dual carries over unturned is compared as it is: `carried_fits`.
-- Assumes nothing.
use Rattle.std.specs.Prelude.{None, Some}
use mathlib.Core.Bool.{Bool, true, false, not}
use mathlib.Core.List.{List}
use mathlib.Core.Logic.Iff
use mathlib.Core.Logic.{◌↔◌}
use mathlib.Core.Path.{◌≡◌, refl, sym, ap, ap₂, ◌∙◌}
use Prim.Native.Nat.{ℕ, zero, suc, ◌<◌, ◌≤◌}
use native.Mathlib.Omega.{arith}
use lib.Dec.{eqb, leb}
use borrow.Author.Tests.{eqb-true, eq-eqb, leb-true, le-leb, lt-leb, not-false}
use Rattle.rules.specs.Basics.{first, same}
use Rattle.rules.specs.Tables.{item_count, item_at, label_count, spelling, spelling_at, is_choice}
use Rattle.rules.specs.Dual.{turned_kind, moved_item, turned_node, original_node}
use Rattle.rules.specs.Pairs.{Wrong, or_else, unless, at_first, kind_number, kinds_differ, counts_differ, items_agree, item_differs, position, lacks, label_lacking, by_chooser, mismatch_of}
use Rattle.rules.proofs.Basics.{first_found, first_nowhere, first_alike}
use Rattle.rules.proofs.Remade.{Likewise, turned_twice, turned_likewise, original_likewise, turned_kinds, original_kinds}
use Rattle.rules.proofs.Steps.{or_else_nothing, unless_nothing, none_lacking}
use Rattle.table.specs.declared.Kind.{Kind}
use Rattle.table.specs.declared.Kind.TheVariants.{End, Receive, Send, Branch, Choose}
use Rattle.table.specs.declared.Item.{Item}
use Rattle.table.specs.declared.Item.TheVariants.{OfSort, Session}
use Rattle.table.specs.declared.Node.{Node}
use Rattle.table.specs.declared.answers.Mismatch.{Mismatch}
use Rattle.table.specs.declared.answers.Mismatch.TheVariants as mismatch

-- each label that x lists is one of those of y
abbrev pub LabelsIn : Node → List ℕ → Node → List ℕ → Type 0
LabelsIn x xs y ys = (i : ℕ) → i < label_count x → position (spelling_at x xs i) y ys < label_count y

-- Node x, of one description, and node y, of the other, fit as the two ends of one line: what the one sends the other receives, and where
-- the one chooses the other offers. `&` is the chooser here, so each label of the one with `&` is one of those of the one with `+`.
pub record Facing (x : Node) (xs : List ℕ) (y : Node) (ys : List ℕ) : Type 0 where
  pub kinds : y.kind ≡ turned_kind x.kind
  pub counts : item_count x ≡ item_count y
  pub items : (i : ℕ) → i < item_count x → items_agree (item_at x i) (item_at y i) ≡ true
  pub replies : x.kind ≡ Branch → LabelsIn x xs y ys
  pub commands : x.kind ≡ Choose → LabelsIn y ys x xs

-- what is wrong where they do not: the first reason that applies, where 20 says that the kinds are not each other's turned ones
abbrev pub facing_wrong : Node → List ℕ → Node → List ℕ → Wrong
facing_wrong x xs y ys =
    or_else (unless (eqb (kind_number x.kind) (kind_number (turned_kind y.kind))) mismatch.Kinds)
    (or_else (counts_differ x y)
    (or_else (item_differs x y) (by_chooser x.kind (label_lacking x xs y ys) (label_lacking y ys x xs))))

-- two nodes that are compared as they are: no reason applies
pub record Fits (x : Node) (xs : List ℕ) (y : Node) (ys : List ℕ) : Type 0 where
  pub kinds : x.kind ≡ y.kind
  pub counts : item_count x ≡ item_count y
  pub items : (i : ℕ) → i < item_count x → items_agree (item_at x i) (item_at y i) ≡ true
  pub replies : x.kind ≡ Branch → LabelsIn x xs y ys
  pub commands : x.kind ≡ Choose → LabelsIn y ys x xs

-- kinds with one number are one kind
abbrev numbered : ℕ → Kind
numbered zero = End
numbered (suc zero) = Receive
numbered (suc (suc zero)) = Send
numbered (suc (suc (suc zero))) = Branch
numbered (suc (suc (suc (suc n)))) = Choose

kind_numbered : (k : Kind) → numbered (kind_number k) ≡ k
kind_numbered End = refl
kind_numbered Receive = refl
kind_numbered Send = refl
kind_numbered Branch = refl
kind_numbered Choose = refl

kind_one : (a b : Kind) → kind_number a ≡ kind_number b → a ≡ b
kind_one a b e = sym (kind_numbered a) ∙ ap numbered e ∙ kind_numbered b

-- nothing is wrong at any position, as it is asked
at_none : (m : ℕ → Mismatch) (n : ℕ) (p : ℕ → Bool) → ((i : ℕ) → i < n → p i ≡ false) → at_first m n p ≡ None
at_none m n p f = rw (le-leb n (first n p) (omega (arith, first_nowhere {p = p} n refl f))) refl

none_at : (m : ℕ → Mismatch) (n : ℕ) (p : ℕ → Bool) → at_first m n p ≡ None → (i : ℕ) → i < n → p i ≡ false
none_at m n p e i l =
    let past : n ≤ first n p = leb-true _ _ (unless_nothing _ (m (first n p)) e) in
    (first_found n p).before i (omega arith)

module _ (x : Node) (xs : List ℕ) (y : Node) (ys : List ℕ) where
  labels_in_nothing : LabelsIn x xs y ys → label_lacking x xs y ys ≡ None
  unfolding label_lacking lacks
  labels_in_nothing f =
      at_none mismatch.Label (label_count x) (lacks x xs y ys)
      (λ i l. lt-leb (label_count y) (position (spelling_at x xs i) y ys) (f i l))

  labels_none : is_choice x.kind ≡ false → LabelsIn x xs y ys
  labels_none e i l = let z : label_count x ≡ 0 = rw e in absurd (omega arith)

module _ (x : Node) (xs : List ℕ) (y : Node) (ys : List ℕ) where
  abbrev unlike : ℕ → Bool
  unlike i = not (items_agree (item_at x i) (item_at y i))

  fits_nothing : Fits x xs y ys → mismatch_of x xs y ys ≡ None
  unfolding mismatch_of kinds_differ counts_differ item_differs
  fits_nothing F =
      let k = eq-eqb (kind_number x.kind) (kind_number y.kind) (ap kind_number F.kinds) in
      let c = eq-eqb (item_count x) (item_count y) F.counts in
      let i = at_none mismatch.Item (item_count x) unlike (λ i l. ap not (F.items i l)) in
      rw (k, c, i) (go x.kind refl)
    where
      go : (k : Kind) → x.kind ≡ k → by_chooser k (label_lacking x xs y ys) (label_lacking y ys x xs) ≡ None
      go End e = labels_in_nothing y ys x xs (labels_none y ys x xs (ap is_choice (sym F.kinds ∙ e)))
      go Receive e = labels_in_nothing y ys x xs (labels_none y ys x xs (ap is_choice (sym F.kinds ∙ e)))
      go Send e = labels_in_nothing y ys x xs (labels_none y ys x xs (ap is_choice (sym F.kinds ∙ e)))
      go Branch e = labels_in_nothing x xs y ys (F.replies e)
      go Choose e = labels_in_nothing y ys x xs (F.commands e)

  nothing_fits : mismatch_of x xs y ys ≡ None → Fits x xs y ys
  unfolding mismatch_of kinds_differ counts_differ item_differs
  nothing_fits e =
      let lacking : Kind → Wrong = λ k. by_chooser k (label_lacking x xs y ys) (label_lacking y ys x xs) in
      let labels = lacking x.kind in
      let a = or_else_nothing (kinds_differ x y) (or_else (counts_differ x y) (or_else (item_differs x y) labels)) e in
      let b = or_else_nothing (counts_differ x y) (or_else (item_differs x y) labels) a.1 in
      let c = or_else_nothing (item_differs x y) labels b.1 in
      record {
        kinds = kind_one x.kind y.kind (eqb-true _ _ (unless_nothing _ mismatch.Kinds a.0));
        counts = eqb-true _ _ (unless_nothing _ mismatch.Counts b.0);
        items = λ i l. not-false _ (none_at mismatch.Item (item_count x) unlike c.0 i l);
        replies = λ k. none_lacking x xs y ys (sym (ap lacking k) ∙ c.1);
        commands = λ k. none_lacking y ys x xs (sym (ap lacking k) ∙ c.1);
      }

  pub fits_exactly : (mismatch_of x xs y ys ≡ None) ↔ Fits x xs y ys
  fits_exactly = (nothing_fits, fits_nothing)

-- two tests that are the same at every position find the same wrong
at_first_alike :
    (w : ℕ → Mismatch) {n m : ℕ} {p q : ℕ → Bool} → n ≡ m → ((i : ℕ) → i < n → p i ≡ q i) → at_first w n p ≡ at_first w m q
at_first_alike w {n} {m} {p} {q} e f =
    ap₂ {C = Wrong} (λ (k l : ℕ). unless (leb k l) (w l)) e (first_alike {p = p} {q = q} e f)

or_else_alike : (a c : Wrong) {b d : Wrong} → a ≡ c → (a ≡ None → b ≡ d) → or_else a b ≡ or_else c d
or_else_alike None c e f = rw (← e) (f refl)
or_else_alike (Some w) c e f = rw (← e) refl

-- whether items agree does not depend on their links
moved_right : (n : ℕ) (a b : Item) → items_agree a (moved_item n b) ≡ items_agree a b
moved_right n (OfSort a) (OfSort b) = refl
moved_right n (OfSort a) (Session j) = refl
moved_right n (Session i) (OfSort b) = refl
moved_right n (Session i) (Session j) = refl

moved_left : (n : ℕ) (a b : Item) → items_agree (moved_item n a) b ≡ items_agree a b
moved_left n (OfSort a) (OfSort b) = refl
moved_left n (OfSort a) (Session j) = refl
moved_left n (Session i) (OfSort b) = refl
moved_left n (Session i) (Session j) = refl

-- Node z says what y says, with other links; x is compared with either. Nothing that is compared is a link.
module _ {n m : ℕ} {y z : Node} (S : Likewise n m y z) (ys : List ℕ) (x : Node) (xs : List ℕ) where
  spelled : (j : ℕ) → j < label_count y → spelling_at z ys j ≡ spelling_at y ys j
  spelled j l = ap (spelling ys) (S.each_label j l)

  placed : (w : List ℕ) → position w z ys ≡ position w y ys
  unfolding position
  placed w = first_alike S.labels (λ j l. ap (same w) (spelled j (omega (arith, S.labels))))

  lacks_right : (i : ℕ) → lacks x xs z ys i ≡ lacks x xs y ys i
  unfolding lacks
  lacks_right i = ap₂ {C = Bool} leb S.labels (placed (spelling_at x xs i))

  lacks_left : (i : ℕ) → i < label_count y → lacks z ys x xs i ≡ lacks y ys x xs i
  unfolding lacks
  lacks_left i l = ap (λ (w : List ℕ). leb (label_count x) (position w x xs)) (spelled i l)

  agree_right : (i : ℕ) → i < item_count y → items_agree (item_at x i) (item_at z i) ≡ items_agree (item_at x i) (item_at y i)
  agree_right i l = ap (items_agree (item_at x i)) (S.each_item i l) ∙ moved_right n (item_at x i) (item_at y i)

  agree_left : (i : ℕ) → i < item_count y → items_agree (item_at z i) (item_at x i) ≡ items_agree (item_at y i) (item_at x i)
  agree_left i l = ap (λ (a : Item). items_agree a (item_at x i)) (S.each_item i l) ∙ moved_left n (item_at y i) (item_at x i)

  labels_in_right : LabelsIn x xs z ys ↔ LabelsIn x xs y ys
  labels_in_right =
      (λ f i l. omega (arith, f i l, placed (spelling_at x xs i), S.labels), λ f i l. omega (arith, f i l, placed (spelling_at x xs i), S.labels))

  labels_in_left : LabelsIn z ys x xs ↔ LabelsIn y ys x xs
  labels_in_left = (
    λ f i l. rw (spelled i l) at (f i (omega (arith, S.labels))),
    λ f i l. let h : i < label_count y = omega (arith, S.labels) in rw (spelled i h) (f i h),
  )

  lacking_right : label_lacking x xs z ys ≡ label_lacking x xs y ys
  unfolding label_lacking
  lacking_right = at_first_alike mismatch.Label refl (λ i l. lacks_right i)

  lacking_left : label_lacking z ys x xs ≡ label_lacking y ys x xs
  unfolding label_lacking
  lacking_left = at_first_alike mismatch.Label S.labels (λ i l. lacks_left i (omega (arith, S.labels)))

  -- the reasons behind the first, x being the left node
  rest_right :
      or_else (counts_differ x z) (or_else (item_differs x z) (by_chooser x.kind (label_lacking x xs z ys) (label_lacking z ys x xs)))
      ≡ or_else (counts_differ x y) (or_else (item_differs x y) (by_chooser x.kind (label_lacking x xs y ys) (label_lacking y ys x xs)))
  unfolding counts_differ item_differs
  rest_right =
      or_else_alike (counts_differ x z) (counts_differ x y) (ap (λ (c : ℕ). unless (eqb (item_count x) c) mismatch.Counts) S.items)
      (λ e.
      let c : item_count x ≡ item_count y = eqb-true _ _ (unless_nothing _ mismatch.Counts e) ∙ S.items in
      ap₂ {C = Wrong} or_else (at_first_alike mismatch.Item refl (λ i l. ap not (agree_right i (omega arith))))
      (ap₂ {C = Wrong} (by_chooser x.kind) lacking_right lacking_left))

  module _ (kind : z.kind ≡ y.kind) where
    right_alike : mismatch_of x xs z ys ≡ mismatch_of x xs y ys
    unfolding mismatch_of kinds_differ
    right_alike =
        or_else_alike (kinds_differ x z) (kinds_differ x y)
        (ap (λ (k : Kind). unless (eqb (kind_number x.kind) (kind_number k)) mismatch.Kinds) kind) (λ _. rest_right)

    left_alike : mismatch_of z ys x xs ≡ mismatch_of y ys x xs
    unfolding mismatch_of kinds_differ counts_differ item_differs
    left_alike =
        or_else_alike (kinds_differ z x) (kinds_differ y x)
        (ap (λ (k : Kind). unless (eqb (kind_number k) (kind_number x.kind)) mismatch.Kinds) kind)
        (λ _.
        or_else_alike (counts_differ z x) (counts_differ y x) (ap (λ (c : ℕ). unless (eqb c (item_count x)) mismatch.Counts) S.items)
        (λ _.
        ap₂ {C = Wrong} or_else
        (at_first_alike mismatch.Item S.items (λ i l. ap not (agree_left i (omega (arith, S.items)))))
        (ap (λ (k : Kind). by_chooser k (label_lacking z ys x xs) (label_lacking x xs z ys)) kind
        ∙ ap₂ {C = Wrong} (by_chooser y.kind) lacking_left lacking_right)))

module _ (n : ℕ) (x : Node) (xs : List ℕ) (y : Node) (ys : List ℕ) where
  abbrev turned : Likewise n 0 y (turned_node n y)
  turned = turned_likewise n y

  from_turned : Fits x xs (turned_node n y) ys → Facing x xs y ys
  from_turned F =
      record {
        kinds = sym (ap turned_kind (F.kinds ∙ turned_kinds n y) ∙ turned_twice y.kind);
        counts = F.counts ∙ turned.items;
        items = λ i l. sym (agree_right turned ys x xs i (omega (arith, F.counts, turned.items))) ∙ F.items i l;
        replies = λ k. (labels_in_right turned ys x xs).0 (F.replies k);
        commands = λ k. (labels_in_left turned ys x xs).0 (F.commands k);
      }

  to_turned : Facing x xs y ys → Fits x xs (turned_node n y) ys
  to_turned F =
      record {
        kinds = sym (turned_kinds n y ∙ ap turned_kind F.kinds ∙ turned_twice x.kind);
        counts = F.counts ∙ sym turned.items;
        items = λ i l. agree_right turned ys x xs i (omega (arith, F.counts)) ∙ F.items i l;
        replies = λ k. (labels_in_right turned ys x xs).1 (F.replies k);
        commands = λ k. (labels_in_left turned ys x xs).1 (F.commands k);
      }

  -- the dual's node that was turned: when it fits, and what is wrong where it does not
  pub facing_fits : (mismatch_of x xs (turned_node n y) ys ≡ None) ↔ Facing x xs y ys
  facing_fits = Iff.trans (fits_exactly x xs (turned_node n y) ys) (from_turned, to_turned)

  pub turned_wrong : mismatch_of x xs (turned_node n y) ys ≡ facing_wrong x xs y ys
  unfolding mismatch_of kinds_differ
  turned_wrong =
      or_else_alike (kinds_differ x (turned_node n y)) _
      (ap (λ (k : Kind). unless (eqb (kind_number x.kind) (kind_number k)) mismatch.Kinds) (turned_kinds n y))
      (λ _. rest_right turned ys x xs)

  -- the dual's node that was carried over, as the right one and as the left one
  pub carried_fits : mismatch_of x xs (original_node n y) ys ≡ mismatch_of x xs y ys
  carried_fits = right_alike (original_likewise n y) ys x xs (original_kinds n y)

  pub carried_fits_left : mismatch_of (original_node n y) ys x xs ≡ mismatch_of y ys x xs
  carried_fits_left = left_alike (original_likewise n y) ys x xs (original_kinds n y)

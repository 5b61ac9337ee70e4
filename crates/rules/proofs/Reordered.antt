-- Reordering the labels of choices turns no yes into a no, and no no into a yes: labels are found by how they are spelled.
-- A reordered table is formed as well; at each pair of nodes as much fits, and for each step one leads to the same pair (Following).
-- Assumes nothing.
use Rattle.std.specs.Prelude.{None}
use mathlib.Core.Bool.{Bool, true, false, false≢true}
use mathlib.Core.List.{List}
use mathlib.Core.Path.{◌≡◌, refl, sym, ap, ap₂, ◌∙◌}
use Prim.Native.Nat.{ℕ, ◌<◌, ◌≤◌}
use native.Mathlib.Decide.{dec_lt}
use native.Mathlib.Omega.{arith}
use lib.ListN.{take}
use borrow.Author.Tests.{ltb-true, lt-ltb, le-ltb, le-leb, lt-leb}
use Rattle.rules.specs.Basics.{same, first}
use Rattle.rules.specs.Tables.{node_at, is_choice, item_count, item_at, label_count, label_at, spelling, spelling_at, continuation}
use Rattle.rules.specs.Formed.{well_formed}
use Rattle.rules.specs.Pairs.{Pair, Onward, Step, unless, position, lacks, label_lacking, by_chooser, mismatch_of, mismatch_at, onto, nowhere, exchanged, choice_step, step_by, step_of, step_at, landed, left_in, right_in}
use Rattle.rules.specs.Replace.{MayReplace}
use Rattle.rules.specs.Replies.{Areas, NoRefusal, SaysYes, SaysNo, Replaces, new_not_formed, old_not_formed, marks_short, path_short, scratch_short, says_yes, says_no, pair_count}
use Rattle.rules.proofs.Basics.{tests_same, first_found, first_nowhere, some_below_at, same_refl, same_true}
use Rattle.rules.proofs.Following.{Follows, inside_same, left_both, right_both, may_replace_follows, no_refusal_follows, yes_follows}
use Rattle.rules.proofs.Formed.{FormedChoice, FormedNode, WellFormed, formed, formed_true}
use Rattle.rules.proofs.Means.{yes-may_replace, no_may_not_replace}
use Rattle.rules.proofs.NoneMissed.{none_missed}
use Rattle.rules.proofs.OneVerdict.{one_count}
use Rattle.rules.proofs.Replies.{yes_means}
use Rattle.rules.proofs.SameSteps.{SameButLabels, mismatch_but_labels, message_step_same}
use Rattle.rules.proofs.Steps.{Within, none_lacking, no_mismatch, left_formed, right_formed}
use Rattle.table.specs.declared.Kind.{Kind}
use Rattle.table.specs.declared.Kind.TheVariants.{End, Receive, Send, Branch, Choose}
use Rattle.table.specs.declared.Label.{Label}
use Rattle.table.specs.declared.Node.{Node}
use Rattle.table.specs.declared.Table.{Table}
use Rattle.table.specs.declared.answers.Found.{Found}
use Rattle.table.specs.declared.answers.Mismatch.TheVariants as mismatch
use Rattle.table.specs.declared.answers.Verdict.TheVariants as the
use Rattle.std.specs.Prelude.{Ok}
use Rattle.rules.specs.Replies.{Answer}

-- nodes that say the same, but for the order of their labels: each label of the one is a label of the other
pub record ReorderedNode (x y : Node) : Type 0 where
  pub kind : x.kind ≡ y.kind
  pub items : item_count x ≡ item_count y
  pub each_item : (i : ℕ) → i < item_count x → item_at x i ≡ item_at y i
  pub goes_on : continuation x ≡ continuation y
  pub labels : label_count x ≡ label_count y
  pub there : (i : ℕ) → i < label_count x → (j : ℕ) × (j < label_count y) × (label_at y j ≡ label_at x i)
  pub here : (j : ℕ) → j < label_count y → (i : ℕ) × (i < label_count x) × (label_at x i ≡ label_at y j)

-- tables whose nodes are so
pub record ReorderedTable (t u : Table) : Type 0 where
  pub count : t.count ≡ u.count
  pub start : t.start ≡ u.start
  pub each : (i : ℕ) → i < t.count → ReorderedNode (node_at t i) (node_at u i)

reordered_node_sym : {x y : Node} → ReorderedNode x y → ReorderedNode y x
reordered_node_sym R =
    record {
      kind = sym R.kind;
      items = sym R.items;
      each_item = λ i l. sym (R.each_item i (omega (arith, R.items)));
      goes_on = sym R.goes_on;
      labels = sym R.labels;
      there = R.here;
      here = R.there;
    }

pub reordered_sym : {t u : Table} → ReorderedTable t u → ReorderedTable u t
reordered_sym R =
    record { count = sym R.count; start = sym R.start; each = λ i l. reordered_node_sym (R.each i (omega (arith, R.count))) }

but_labels : {x y : Node} → ReorderedNode x y → SameButLabels x y
but_labels R = record { kind = R.kind; items = R.items; each_item = R.each_item; goes_on = R.goes_on }

-- Where the label w stands: below the count if some label is so spelled; it is so spelled there, and nowhere before.
module _ (w : List ℕ) (y : Node) (ys : List ℕ) where
  position_below : (j : ℕ) → j < label_count y → w ≡ spelling_at y ys j → position w y ys < label_count y
  unfolding position
  position_below j l e =
      ltb-true _ _ (some_below_at (label_count y) (λ i. same w (spelling_at y ys i)) j l (rw (← e) (same_refl w)))

  position_spells : position w y ys < label_count y → w ≡ spelling_at y ys (position w y ys)
  unfolding position
  position_spells l = same_true _ _ ((first_found (label_count y) (λ i. same w (spelling_at y ys i))).here l)

  position_first : (j : ℕ) → j < position w y ys → w ≡ spelling_at y ys j → ⊥
  unfolding position
  position_first j l e =
      false≢true (sym ((first_found (label_count y) (λ i. same w (spelling_at y ys i))).before j l) ∙ rw (← e) (same_refl w))

-- Reordered labels are formed as well.
module _ {x y : Node} (names : List ℕ) (R : ReorderedNode x y) where
  there_spelled : (i : ℕ) (l : i < label_count x) → spelling_at x names i ≡ spelling_at y names (R.there i l).0
  there_spelled i l = ap (spelling names) (sym (R.there i l).2)

  -- Of two that were spelled alike, the second would be the position of no label of x; but these have as many positions as y has labels.
  labels_once :
      ((i j : ℕ) → i < label_count x → j < label_count x → spelling_at x names i ≡ spelling_at x names j → i ≡ j)
      → (i j : ℕ) → i < label_count y → j < label_count y → spelling_at y names i ≡ spelling_at y names j → i ≡ j
  labels_once once i j l m e = go (dec_lt i j) (dec_lt j i)
    where
      at : ℕ → ℕ
      at k = position (spelling_at x names k) y names

      at_below : (k : ℕ) → k < label_count x → at k < label_count y
      at_below k a = position_below (spelling_at x names k) y names (R.there k a).0 (R.there k a).1 (there_spelled k a)

      at_spelled : (k : ℕ) → k < label_count x → spelling_at x names k ≡ spelling_at y names (at k)
      at_spelled k a = position_spells (spelling_at x names k) y names (at_below k a)

      apart : (i j : ℕ) → i < j → j < label_count y → spelling_at y names i ≡ spelling_at y names j → ⊥
      apart i j b m e =
          none_missed (label_count x) at j (omega (arith, R.labels)) (λ k a. let h = at_below k a in omega (arith, R.labels))
          (λ k h a c d. once k h a c (at_spelled k a ∙ ap (spelling_at y names) d ∙ sym (at_spelled h c)))
          (λ k a d.
          position_first (spelling_at x names k) y names i (omega arith) (at_spelled k a ∙ ap (spelling_at y names) d ∙ sym e))

      go : Dec (i < j) → Dec (j < i) → i ≡ j
      go (yes a) b = absurd (apart i j a m e)
      go (no a) (yes b) = absurd (apart j i b l (sym e))
      go (no a) (no b) = omega arith

  formed_reordered_node : {n : ℕ} → FormedNode n names x → FormedNode n names y
  formed_reordered_node f =
      record {
        message =
            record {
              few_items = omega (arith, R.items, f.message.few_items);
              item_links = λ i k l e. f.message.item_links i k (item i l) (R.each_item i (item i l) ∙ e);
              goes_on = omega (arith, R.goes_on, f.message.goes_on);
            };
        choice =
            record {
              some_label = λ e. omega (arith, R.labels, f.choice.some_label (ap is_choice R.kind ∙ e));
              few_labels = omega (arith, R.labels, f.choice.few_labels);
              label_links = λ j l. let (i, m, e) = R.here j l in rw (← e) (f.choice.label_links i m);
              label_inside = λ j l. let (i, m, e) = R.here j l in rw (← e) (f.choice.label_inside i m);
              label_named = λ j l. let (i, m, e) = R.here j l in rw (← e) (f.choice.label_named i m);
              label_once = labels_once f.choice.label_once;
            };
      }
    where
      item : (i : ℕ) → i < item_count y → i < item_count x
      item i l = omega (arith, R.items)

pub formed_reordered : {t u : Table} {names : List ℕ} → ReorderedTable t u → WellFormed t names → WellFormed u names
formed_reordered {t} {u} {names} R w =
    record {
      some_node = omega (arith, R.count, w.some_node);
      few_nodes = omega (arith, R.count, w.few_nodes);
      begins = omega (arith, R.count, R.start, w.begins);
      each =
          λ i l.
          let m : i < t.count = omega (arith, R.count) in
          rw (← R.count) (formed_reordered_node names (R.each i m) (w.each i m));
    }

pub well_formed_reordered : {t u : Table} (names : List ℕ) → ReorderedTable t u → well_formed t names ≡ well_formed u names
well_formed_reordered names R =
    tests_same _ _ (λ e. formed_true (formed_reordered R (formed e))) (λ e. formed_true (formed_reordered (reordered_sym R) (formed e)))

-- the other way of `none_lacking`
nothing_lacking :
    (x : Node) (xs : List ℕ) (y : Node) (ys : List ℕ) → ((i : ℕ) → i < label_count x → position (spelling_at x xs i) y ys < label_count y)
    → label_lacking x xs y ys ≡ None
unfolding label_lacking lacks
nothing_lacking x xs y ys h =
    let i = first (label_count x) (lacks x xs y ys) in
    let e : label_count x ≡ i = first_nowhere (label_count x) refl (λ j l. lt-leb _ _ (h j l)) in
    ap (λ (b : Bool). unless b (mismatch.Label i)) (le-leb (label_count x) i (omega arith))

-- x and x' choose, y and y' have what is chosen
module _ {x x' y y' : Node} (xs ys : List ℕ) (S : ReorderedNode x x') (T : ReorderedNode y y') (full : label_lacking x xs y ys ≡ None) where
  still_there : (i : ℕ) → i < label_count x' → position (spelling_at x' xs i) y' ys < label_count y'
  still_there i l =
      let (k, m, e) = S.here i l in
      let p = none_lacking x xs y ys full k m in
      position_below (spelling_at x' xs i) y' ys (T.there _ p).0 (T.there _ p).1
      (ap (spelling xs) (sym e) ∙ position_spells (spelling_at x xs k) y ys p ∙ there_spelled ys T _ p)

  still_full : label_lacking x' xs y' ys ≡ None
  still_full = nothing_lacking x' xs y' ys still_there

  choice_step_reordered :
      {m : ℕ} → FormedChoice m ys y → (s : ℕ) → (r : ℕ) × (choice_step x xs y ys r ≡ choice_step x' xs y' ys s)
  unfolding choice_step
  choice_step_reordered f s = go (dec_lt s (label_count x'))
    where
      leads :
          (x : Node) (xs : List ℕ) (y : Node) (ys : List ℕ) (s : ℕ) → s < label_count x
          → choice_step x xs y ys s ≡ onto (label_at x s).to (label_at y (position (spelling_at x xs s) y ys)).to false
      leads x xs y ys s l = rw (choice_step, lt-ltb s (label_count x) l) refl

      ends : (x : Node) (xs : List ℕ) (y : Node) (ys : List ℕ) (s : ℕ) → label_count x ≤ s → choice_step x xs y ys s ≡ nowhere
      ends x xs y ys s l = rw (choice_step, le-ltb s (label_count x) l) refl

      go : Dec (s < label_count x') → (r : ℕ) × (choice_step x xs y ys r ≡ choice_step x' xs y' ys s)
      go (no l) = (s, ends x xs y ys s (omega (arith, S.labels)) ∙ sym (ends x' xs y' ys s (omega arith)))
      go (yes l) =
          let (r, m, e) = S.here s l in
          let p = none_lacking x xs y ys full r m in
          let p' = still_there s l in
          let (k, o, d) = T.here _ p' in
          let one : k ≡ position (spelling_at x xs r) y ys =
          f.label_once k _ o p
          (ap (spelling ys) d ∙ sym (position_spells (spelling_at x' xs s) y' ys p') ∙ ap (spelling xs) (sym e)
          ∙ position_spells (spelling_at x xs r) y ys p) in (
            r,
            leads x xs y ys r m
                ∙ ap₂ {C = Onward} (λ (a b : Label). onto a.to b.to false) e (ap (label_at y) (sym one) ∙ d)
                ∙ sym (leads x' xs y' ys s l),
          )

module _ {x x' y y' : Node} (xs ys : List ℕ) (S : ReorderedNode x x') (T : ReorderedNode y y') (e : mismatch_of x xs y ys ≡ None) where
  fits_reordered : mismatch_of x' xs y' ys ≡ None
  fits_reordered =
      let f = (no_mismatch x xs y ys e).1 in
      sym (mismatch_but_labels (but_labels S) (but_labels T) xs ys (f ∙ sym (go x.kind f))) ∙ e
    where
      go :
          (k : Kind) → by_chooser k (label_lacking x xs y ys) (label_lacking y ys x xs) ≡ None
          → by_chooser k (label_lacking x' xs y' ys) (label_lacking y' ys x' xs) ≡ None
      go End d = still_full ys xs T S d
      go Receive d = still_full ys xs T S d
      go Send d = still_full ys xs T S d
      go Branch d = still_full xs ys S T d
      go Choose d = still_full ys xs T S d

  step_reordered :
      {n m : ℕ} → FormedNode n xs x → FormedNode m ys y → (s : ℕ) → (r : ℕ) × (step_of x xs y ys r ≡ step_of x' xs y' ys s)
  unfolding step_of
  step_reordered fx fy s =
      let f = no_mismatch x xs y ys e in
      let (r, q) = go f.0 x.kind f.1 in
      (r, q ∙ ap (λ (k : Kind). step_by k x' xs y' ys s) S.kind)
    where
      go :
          item_count x ≡ item_count y → (k : Kind) → by_chooser k (label_lacking x xs y ys) (label_lacking y ys x xs) ≡ None
          → (r : ℕ) × (step_by k x xs y ys r ≡ step_by k x' xs y' ys s)
      go c End d = (s, refl)
      go c Receive d = (s, message_step_same (but_labels S) (but_labels T) c false s)
      go c Send d = (s, message_step_same (but_labels S) (but_labels T) c true s)
      go c Branch d = choice_step_reordered xs ys S T d fy.choice s
      go c Choose d = let (r, q) = choice_step_reordered ys xs T S d fx.choice s in (r, ap exchanged q)

module _ {new new' : Table} (new_names : List ℕ) {old old' : Table} (old_names : List ℕ) (S : ReorderedTable new new') (T : ReorderedTable old old') where
  module _ (p : Pair) (w : Within new old p) where
    left_reordered :
        ReorderedNode (left_in p.turn (node_at new p.new) (node_at old p.old))
        (left_in p.turn (node_at new' p.new) (node_at old' p.old))
    left_reordered = left_both ReorderedNode (S.each p.new w.new_below) (T.each p.old w.old_below) p.turn

    right_reordered :
        ReorderedNode (right_in p.turn (node_at new p.new) (node_at old p.old))
        (right_in p.turn (node_at new' p.new) (node_at old' p.old))
    right_reordered = right_both ReorderedNode (S.each p.new w.new_below) (T.each p.old w.old_below) p.turn

    pair_fits : mismatch_at new new_names old old_names p ≡ None → mismatch_at new' new_names old' old_names p ≡ None
    unfolding mismatch_at
    pair_fits e =
        fits_reordered (left_in p.turn new_names old_names) (right_in p.turn new_names old_names) left_reordered right_reordered e

    pair_steps :
        WellFormed new new_names → WellFormed old old_names → mismatch_at new new_names old old_names p ≡ None → (q : Pair)
        (s : ℕ) → Step new' new_names old' old_names p s q → (r : ℕ) × Step new new_names old old_names p r q
    unfolding mismatch_at step_at
    pair_steps f g e q s st =
        let a = f.each p.new w.new_below in
        let b = g.each p.old w.old_below in
        let (r, d) =
        step_reordered (left_in p.turn new_names old_names) (right_in p.turn new_names old_names) left_reordered right_reordered e
        (left_formed p.turn a b) (right_formed p.turn a b) s in
        (r, record { fits = e; leads = ap (landed p.turn) d ∙ st.leads })

module _ {new new' : Table} {new_names : List ℕ} {old old' : Table} {old_names : List ℕ} (S : ReorderedTable new new') (T : ReorderedTable old old') where
  reordered_follows : WellFormed new new_names → WellFormed old old_names → Follows new new' new_names old old' old_names
  reordered_follows f g =
      record {
        new_count = S.count;
        old_count = T.count;
        new_start = S.start;
        old_start = T.start;
        fits = λ p w e. pair_fits new_names old_names S T p w e;
        steps =
            λ p q s w st.
            let e =
            pair_fits new_names old_names (reordered_sym S) (reordered_sym T) p (inside_same S.count T.count w) st.fits in
            pair_steps new_names old_names S T p w f g e q s st;
      }

  pub reordered_may_replace :
      well_formed new new_names ≡ true → well_formed old old_names ≡ true → MayReplace new new_names old old_names
      → MayReplace new' new_names old' old_names
  reordered_may_replace a b m = may_replace_follows (reordered_follows (formed a) (formed b)) (formed a) (formed b) m

-- where no refusal applies, a reply is a yes or a no
module _ {new : Table} {new_names : List ℕ} {old : Table} {old_names : List ℕ} {before after : Areas} (N : NoRefusal new new_names old old_names before) (P : Answer → Type 0) where
  by_answer :
      {v : Answer} → ((c : ℕ) → SaysYes new new_names old old_names before after c → P (Ok (the.Yes c)))
      → ((f : Found) → SaysNo new new_names old old_names before after f → P (Ok (the.No f))) → Replaces new new_names old old_names before after v
      → P v
  by_answer y n (new_not_formed a e) = absurd (false≢true (sym a ∙ N.new_formed))
  by_answer y n (old_not_formed a b e) = absurd (false≢true (sym b ∙ N.old_formed))
  by_answer y n (marks_short a b m e) = absurd (omega (arith, N.marks_long))
  by_answer y n (path_short a b m p e) = absurd (omega (arith, N.path_long))
  by_answer y n (scratch_short a b m p s e) = absurd (omega (arith, N.scratch_long))
  by_answer y n (says_yes {count = c} M Y) = y c Y
  by_answer y n (says_no {found = f} M X) = n f X

module _ {new new' : Table} {new_names : List ℕ} {old old' : Table} {old_names : List ℕ} (S : ReorderedTable new new') (T : ReorderedTable old old') where
  module _ {before after before' after' : Areas} {v : Answer} where
    -- a yes stays a yes, with the same count and the same marks
    pub reordered_yes :
        {c : ℕ} → Replaces new new_names old old_names before after (Ok (the.Yes c)) → NoRefusal new' new_names old' old_names before'
        → Replaces new' new_names old' old_names before' after' v
        → (v ≡ Ok (the.Yes c)) × (take (pair_count new old) after.marks ≡ take (pair_count new old) after'.marks)
    reordered_yes {c} R N' R' = by_answer N' Same stays (λ f X. absurd (no_may_not_replace (says_no N' X) may)) R'
      where
        Same : Answer → Type 0
        Same w = (w ≡ Ok (the.Yes c)) × (take (pair_count new old) after.marks ≡ take (pair_count new old) after'.marks)

        may : MayReplace new' new_names old' old_names
        may = reordered_may_replace S T (yes_means R).0.new_formed (yes_means R).0.old_formed (yes-may_replace R)

        stays : (d : ℕ) → SaysYes new' new_names old' old_names before' after' d → Same (Ok (the.Yes d))
        stays d Y' =
            let (N, Y) = yes_means R in
            let F = reordered_follows S T (formed N.new_formed) (formed N.old_formed) in
            let M = no_refusal_follows F N'.new_formed N'.old_formed N in
            let G = reordered_follows (reordered_sym S) (reordered_sym T) (formed N'.new_formed) (formed N'.old_formed) in
            let (e, o) = one_count new' new_names old' old_names M (yes_follows F G N M Y) N' Y' in
            (ap (λ (n : ℕ). Ok (the.Yes n)) (sym o), rw (S.count, T.count) e)

    -- a no stays a no
    pub reordered_no :
        {f : Found} → Replaces new new_names old old_names before after (Ok (the.No f)) → NoRefusal new' new_names old' old_names before'
        → Replaces new' new_names old' old_names before' after' v → (g : Found) × (v ≡ Ok (the.No g))
    reordered_no R N' R' =
        by_answer N' (λ w. (g : Found) × (w ≡ Ok (the.No g)))
        (λ c Y.
        absurd
        (no_may_not_replace R
        (reordered_may_replace (reordered_sym S) (reordered_sym T) N'.new_formed N'.old_formed (yes-may_replace (says_yes N' Y)))))
        (λ g X. (g, refl)) R'

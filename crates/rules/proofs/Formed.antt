-- A table is well formed exactly if the record `WellFormed` holds of it: the tests of ../specs/Formed as plain facts.
-- What a node's kind leaves unused is read as 0, so the facts hold of every kind alike. Last, that unused room is never read: tables
-- that are equal up to it are well formed alike (`well_formed_same`).
-- Assumes nothing.
use mathlib.Core.Bool.{true, false, false≢true, not}
use mathlib.Core.List.{List}
use mathlib.Core.Path.{◌≡◌, refl, sym, ap, ◌∙◌}
use mathlib.Mathlib.Data.Bool.Basic.{and_elim_left, and_elim_right}
use Prim.Native.Nat.{ℕ, ◌<◌, ◌≤◌, ◌+◌}
use native.Mathlib.Decide.{dec_lt}
use native.Mathlib.Omega.{arith}
use lib.ListN.{length}
use borrow.Author.Tests.{leb-true, ltb-true, lt-ltb, not-true}
use Rattle.rules.specs.Basics.{same, every}
use Rattle.rules.specs.Words.{may_name}
use Rattle.rules.specs.Numbers.{items_most, labels_most, table_nodes_most}
use Rattle.rules.specs.Tables.{node_at, item_at, item_count, label_at, label_count, continuation, spelling_at, is_message, is_choice, SameNode, SameTable}
use Rattle.rules.specs.Formed.{item_formed, label_formed, label_new, message_formed, choice_formed, formed_by, node_formed, well_formed}
use Rattle.rules.proofs.Basics.{tests_same, every_true, every_all, same_refl, same_false}
use Rattle.rules.proofs.FormedTests.{message_formed_items, label_formed-name, choice_formed_labels, well_formed_nodes}
use Rattle.rules.proofs.Tables.{same_node_spelling, same_table_sym}
use Rattle.table.specs.declared.Kind.{Kind}
use Rattle.table.specs.declared.Kind.TheVariants.{End, Receive, Send, Branch, Choose}
use Rattle.table.specs.declared.Item.{Item}
use Rattle.table.specs.declared.Item.TheVariants.{OfSort, Session}
use Rattle.table.specs.declared.Node.{Node}
use Rattle.table.specs.declared.Table.{Table}

-- the part of a message, among n nodes
pub record FormedMessage (n : ℕ) (x : Node) : Type 0 where
  pub few_items : item_count x ≤ items_most
  pub item_links : (i k : ℕ) → i < item_count x → item_at x i ≡ Session k → k < n
  pub goes_on : continuation x < n

-- the part of a choice
pub record FormedChoice (n : ℕ) (names : List ℕ) (x : Node) : Type 0 where
  pub some_label : is_choice x.kind ≡ true → 1 ≤ label_count x
  pub few_labels : label_count x ≤ labels_most
  pub label_links : (i : ℕ) → i < label_count x → (label_at x i).to < n
  pub label_inside : (i : ℕ) → i < label_count x → (label_at x i).at + (label_at x i).len ≤ length names
  pub label_named : (i : ℕ) → i < label_count x → may_name (spelling_at x names i) ≡ true
  pub label_once : (i j : ℕ) → i < label_count x → j < label_count x → spelling_at x names i ≡ spelling_at x names j → i ≡ j

pub record FormedNode (n : ℕ) (names : List ℕ) (x : Node) : Type 0 where
  pub message : FormedMessage n x
  pub choice : FormedChoice n names x

pub record WellFormed (t : Table) (names : List ℕ) : Type 0 where
  pub some_node : 1 ≤ t.count
  pub few_nodes : t.count ≤ table_nodes_most
  pub begins : t.start < t.count
  pub each : (i : ℕ) → i < t.count → FormedNode t.count names (node_at t i)

item_link : (n : ℕ) (a : Item) (k : ℕ) → item_formed n a ≡ true → a ≡ Session k → k < n
item_link n (OfSort s) k f e = let z : ◌≡◌ {A = ℕ} 0 1 = cc in absurd (omega arith)
item_link n (Session j) k f e = let z : j ≡ k = cc in omega (arith, ltb-true j n f)

message_facts : {n : ℕ} {x : Node} → message_formed n x ≡ true → FormedMessage n x
unfolding message_formed
message_facts {n} {x} e =
    record {
      few_items = leb-true _ _ (search (and_elim_left, and_elim_right));
      item_links =
          λ i k l h.
          item_link n (item_at x i) k
          (every_true (item_count x) (λ j. item_formed n (item_at x j)) (search (and_elim_left, and_elim_right)) i l) h;
      goes_on = ltb-true _ _ (search (and_elim_left, and_elim_right));
    }

pub no_message : {n : ℕ} {x : Node} → 1 ≤ n → is_message x.kind ≡ false → FormedMessage n x
no_message {n} {x} l e =
    let z : item_count x ≡ 0 = rw e in
    let c : continuation x ≡ 0 = rw e in
    record { few_items = omega arith; item_links = λ i k h d. absurd (omega arith); goes_on = omega arith }

-- a label that is none of those before it is not twice there
labels_once :
    (names : List ℕ) (x : Node) → every (label_count x) (label_new x names) ≡ true → (i j : ℕ) → i < label_count x → j < label_count x
    → spelling_at x names i ≡ spelling_at x names j → i ≡ j
unfolding label_new
labels_once names x e i j l m d = go (dec_lt i j) (dec_lt j i)
  where
    apart : (i j : ℕ) → j < i → i < label_count x → spelling_at x names i ≡ spelling_at x names j → ⊥
    apart i j l m d =
        let f =
        not-true (same (spelling_at x names i) (spelling_at x names j))
        (every_true i (λ j. not (same (spelling_at x names i) (spelling_at x names j)))
        (every_true (label_count x) (label_new x names) e i m) j l) in
        false≢true (sym f ∙ rw d (same_refl (spelling_at x names j)))

    go : Dec (i < j) → Dec (j < i) → i ≡ j
    go (yes a) b = absurd (apart j i a m (sym d))
    go (no a) (yes b) = absurd (apart i j b l d)
    go (no a) (no b) = omega arith

module _ {n : ℕ} {names : List ℕ} {x : Node} where
  choice_facts : choice_formed n names x ≡ true → FormedChoice n names x
  unfolding choice_formed label_formed
  choice_facts e =
      record {
        some_label = λ k. leb-true _ _ (search (and_elim_left, and_elim_right));
        few_labels = leb-true _ _ (search (and_elim_left, and_elim_right));
        label_links = λ i l. let f = label i l in ltb-true _ _ (search (and_elim_left, and_elim_right));
        label_inside = λ i l. let f = label i l in leb-true _ _ (search (and_elim_left, and_elim_right));
        label_named = λ i l. let f = label i l in search (and_elim_left, and_elim_right);
        label_once = labels_once names x (search (and_elim_left, and_elim_right));
      }
    where
      label : (i : ℕ) → i < label_count x → label_formed n names (label_at x i) ≡ true
      label = every_true (label_count x) (λ i. label_formed n names (label_at x i)) (search (and_elim_left, and_elim_right))

  pub no_choice : is_choice x.kind ≡ false → FormedChoice n names x
  no_choice e =
      let z : label_count x ≡ 0 = rw e in
      record {
        some_label = λ k. absurd (false≢true (sym e ∙ k));
        few_labels = omega arith;
        label_links = λ i l. absurd (omega arith);
        label_inside = λ i l. absurd (omega arith);
        label_named = λ i l. absurd (omega arith);
        label_once = λ i j l m d. absurd (omega arith);
      }

  node_facts : 1 ≤ n → node_formed n names x ≡ true → FormedNode n names x
  unfolding node_formed
  node_facts l f = go x.kind refl f
    where
      go : (k : Kind) → x.kind ≡ k → formed_by k n names x ≡ true → FormedNode n names x
      go End e f = record { message = no_message l (ap is_message e); choice = no_choice (ap is_choice e) }
      go Receive e f = record { message = message_facts f; choice = no_choice (ap is_choice e) }
      go Send e f = record { message = message_facts f; choice = no_choice (ap is_choice e) }
      go Branch e f = record { message = no_message l (ap is_message e); choice = choice_facts f }
      go Choose e f = record { message = no_message l (ap is_message e); choice = choice_facts f }

pub formed : {t : Table} {names : List ℕ} → well_formed t names ≡ true → WellFormed t names
unfolding well_formed
formed {t} {names} e =
    let some_node : 1 ≤ t.count = leb-true _ _ (search (and_elim_left, and_elim_right)) in
    record {
      some_node = some_node;
      few_nodes = leb-true _ _ (search (and_elim_left, and_elim_right));
      begins = ltb-true _ _ (search (and_elim_left, and_elim_right));
      each =
          λ i l.
          node_facts some_node
          (every_true t.count (λ i. node_formed t.count names (node_at t i)) (search (and_elim_left, and_elim_right)) i l);
    }

-- The other way.
message_test : {n : ℕ} {x : Node} → FormedMessage n x → message_formed n x ≡ true
message_test {n} {x} f =
    message_formed_items n x f.few_items f.goes_on
    ∙ every_all (item_count x) (λ i. item_formed n (item_at x i)) (λ i l. item (item_at x i) (λ k. f.item_links i k l))
  where
    item : (a : Item) → ((k : ℕ) → a ≡ Session k → k < n) → item_formed n a ≡ true
    item (OfSort s) h = refl
    item (Session k) h = lt-ltb k n (h k refl)

module _ {n : ℕ} {names : List ℕ} {x : Node} where
  choice_test : is_choice x.kind ≡ true → FormedChoice n names x → choice_formed n names x ≡ true
  unfolding label_new
  choice_test k f =
      choice_formed_labels n names x (f.some_label k) f.few_labels
      (every_all (label_count x) (λ i. label_formed n names (label_at x i))
      (λ i l. label_formed-name n names (label_at x i) (f.label_inside i l) (f.label_links i l) ∙ f.label_named i l))
      ∙ every_all (label_count x) (label_new x names)
      (λ i l.
      every_all i (λ j. not (same (spelling_at x names i) (spelling_at x names j)))
      (λ j m.
      ap not
      (same_false _ _ (λ d. let z = f.label_once i j l (omega arith) d in omega arith))))

  node_test : FormedNode n names x → node_formed n names x ≡ true
  unfolding node_formed
  node_test f = go x.kind refl
    where
      go : (k : Kind) → x.kind ≡ k → formed_by k n names x ≡ true
      go End e = refl
      go Receive e = message_test f.message
      go Send e = message_test f.message
      go Branch e = choice_test (ap is_choice e) f.choice
      go Choose e = choice_test (ap is_choice e) f.choice

pub formed_true : {t : Table} {names : List ℕ} → WellFormed t names → well_formed t names ≡ true
formed_true {t} {names} w =
    well_formed_nodes t names w.some_node w.few_nodes w.begins (λ i l. node_test (w.each i l))

-- Unused room is never read: nodes, and tables, that say the same are formed alike.
pub formed_same_node : {n : ℕ} {names : List ℕ} {x y : Node} → SameNode x y → FormedNode n names x → FormedNode n names y
formed_same_node {n} {names} {x} {y} S f =
    record {
      message =
          record {
            few_items = omega (arith, S.items, f.message.few_items);
            item_links = λ i k l e. f.message.item_links i k (item i l) (S.each_item i (item i l) ∙ e);
            goes_on = omega (arith, S.goes_on, f.message.goes_on);
          };
      choice =
          record {
            some_label = λ e. omega (arith, S.labels, f.choice.some_label (ap is_choice S.kind ∙ e));
            few_labels = omega (arith, S.labels, f.choice.few_labels);
            label_links = λ i l. rw (← S.each_label i (label i l)) (f.choice.label_links i (label i l));
            label_inside = λ i l. rw (← S.each_label i (label i l)) (f.choice.label_inside i (label i l));
            label_named = λ i l. rw (← S.each_label i (label i l)) (f.choice.label_named i (label i l));
            label_once =
                λ i j l m e.
                f.choice.label_once i j (label i l) (label j m) (same_node_spelling names S i (label i l) ∙ e ∙ sym (same_node_spelling names S j (label j m)));
          };
    }
  where
    item : (i : ℕ) → i < item_count y → i < item_count x
    item i l = omega (arith, S.items)

    label : (i : ℕ) → i < label_count y → i < label_count x
    label i l = omega (arith, S.labels)

pub formed_same : {t u : Table} {names : List ℕ} → SameTable t u → WellFormed t names → WellFormed u names
formed_same {t} {u} S w =
    record {
      some_node = omega (arith, S.count, w.some_node);
      few_nodes = omega (arith, S.count, w.few_nodes);
      begins = omega (arith, S.count, S.start, w.begins);
      each =
          λ i l.
          let m : i < t.count = omega (arith, S.count) in
          rw (← S.count) (formed_same_node (S.each i m) (w.each i m));
    }

pub well_formed_same : {t u : Table} (names : List ℕ) → SameTable t u → well_formed t names ≡ well_formed u names
well_formed_same names S =
    tests_same _ _ (λ e. formed_true (formed_same S (formed e))) (λ e. formed_true (formed_same (same_table_sym S) (formed e)))

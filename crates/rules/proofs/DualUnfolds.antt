-- The dual of a well formed table is its dual by unfolding: `dual_unfolds`. And duality by unfolding is symmetric: `dual_symmetric`.
-- Assumes nothing.
use mathlib.Core.Bool.{Bool, true, false, ◌&&◌}
use mathlib.Core.List.{List}
use mathlib.Core.Path.{◌≡◌, refl, sym, ap, ◌∙◌, subst}
use mathlib.Mathlib.Data.Bool.Basic.{and_elim_left, and_elim_right}
use Prim.Native.Nat.{ℕ, ◌+◌, ◌<◌}
use native.Mathlib.Omega.{arith}
use lib.Dec.{eqb, ltb}
use borrow.Author.Tests.{eqb-true, eq-eqb, ltb-true, lt-ltb}
use Rattle.rules.specs.Tables.{node_at, item_count, item_at, label_at, continuation, is_message, spelling}
use Rattle.rules.specs.Formed.{well_formed}
use Rattle.rules.specs.Dual.{turned_kind, hands_over, moved_item, dual}
use Rattle.rules.specs.Unfolding.{ItemBeside, Beside, Keeps, SameByUnfolding, DualByUnfolding}
use Rattle.rules.proofs.Formed.{FormedNode, WellFormed, formed}
use Rattle.rules.proofs.Remade.{Likewise, turned_twice, turned_message, turned_likewise, original_likewise, turned_kinds, original_kinds, dual_start, dual_size, dual-turned, dual-original, session_somewhere}
use Rattle.table.specs.declared.Kind.{Kind}
use Rattle.table.specs.declared.Item.{Item}
use Rattle.table.specs.declared.Item.TheVariants.{OfSort, Session}
use Rattle.table.specs.declared.Node.{Node}
use Rattle.table.specs.declared.Table.{Table}

-- the node that is m further than one of the first n
abbrev further : ℕ → ℕ → ℕ → ℕ → Bool
further n m i j = ltb i n && eqb j (i + m)

is_further : (n m i j : ℕ) → i < n → j ≡ i + m → further n m i j ≡ true
is_further n m i j l e = rw (lt-ltb i n l, eq-eqb j (i + m) e) refl

further_is : (n m i j : ℕ) → further n m i j ≡ true → (i < n) × (j ≡ i + m)
further_is n m i j h =
    (ltb-true i n (and_elim_left (ltb i n) (eqb j (i + m)) h), eqb-true j (i + m) (and_elim_right (ltb i n) (eqb j (i + m)) h))

-- A node that says what another says, its links moved, stands beside it.
module _ {i m n : ℕ} {names : List ℕ} {x y : Node} (f : Kind → Kind) (I : ℕ → ℕ → Type 0) (S : Likewise i m x y) (g : FormedNode n names x) where
  likewise_beside :
      y.kind ≡ f x.kind → ((j k : ℕ) → j < item_count x → item_at x j ≡ Session k → I k (k + i))
      → Beside names names f I (λ k l. further n m k l ≡ true) x y
  likewise_beside e links =
      record {
        kind = e;
        items = S.items;
        each_item = λ j l. rw (S.each_item j l) (item (item_at x j) (λ k. links j k l));
        goes_on = λ h. is_further n m (continuation x) (continuation y) g.message.goes_on (S.goes_on h);
        labels = S.labels;
        each_label = λ j l. ap (spelling names) (S.each_label j l);
        leads_on =
            λ j l.
            is_further n m (label_at x j).to (label_at y j).to (g.choice.label_links j l)
            (rw (S.each_label j l) refl);
      }
    where
      item : (a : Item) → ((k : ℕ) → a ≡ Session k → I k (k + i)) → ItemBeside I a (moved_item i a)
      item (OfSort s) h = refl
      item (Session k) h = h k refl

module _ {t : Table} {names : List ℕ} (w : WellFormed t names) where
  -- the originals say the same
  abbrev same_set : ℕ → ℕ → Bool
  same_set = further t.count t.count

  original_keeps : hands_over t ≡ true → Keeps t names (dual t) names (λ k. k) (λ k l. same_set k l ≡ true) same_set
  original_keeps e = record { within = within; each = each }
    where
      within : (i j : ℕ) → same_set i j ≡ true → (i < t.count) × (j < (dual t).count)
      within i j h = let p = further_is t.count t.count i j h in (p.0, omega (arith, p.0, p.1, dual_size t e))

      each :
          (i j : ℕ) → same_set i j ≡ true
          → Beside names names (λ k. k) (λ k l. same_set k l ≡ true) (λ k l. same_set k l ≡ true) (node_at t i) (node_at (dual t) j)
      each i j h =
          let p = further_is t.count t.count i j h in
          let f = w.each i p.0 in
          rw (p.1, dual-original t e i p.0)
          (likewise_beside (λ k. k) (λ k l. same_set k l ≡ true) (original_likewise t.count (node_at t i)) f
          (original_kinds t.count (node_at t i))
          (λ q k m s. is_further t.count t.count k (k + t.count) (f.message.item_links q k m s) refl))

  pub original_same : hands_over t ≡ true → (i : ℕ) → i < t.count → SameByUnfolding t names (dual t) names i (i + t.count)
  original_same e i l =
      record {
        set = same_set;
        keeps = original_keeps e;
        holds = is_further t.count t.count i (i + t.count) l refl;
      }

  -- the turned nodes are dual
  abbrev dual_set : ℕ → ℕ → Bool
  dual_set = further t.count 0

  turned_within : (b : Bool) → hands_over t ≡ b → (i : ℕ) → i < t.count → i < (dual t).count
  turned_within true e i l = omega (arith, dual_size t e)
  turned_within false e i l = omega (arith, dual_size t e)

  turned_keeps : Keeps t names (dual t) names turned_kind (SameByUnfolding t names (dual t) names) dual_set
  turned_keeps = record { within = within; each = each }
    where
      within : (i j : ℕ) → dual_set i j ≡ true → (i < t.count) × (j < (dual t).count)
      within i j h =
          let p = further_is t.count 0 i j h in (p.0, turned_within (hands_over t) refl j (omega (arith, p.0, p.1)))

      each :
          (i j : ℕ) → dual_set i j ≡ true
          → Beside names names turned_kind (SameByUnfolding t names (dual t) names) (λ k l. dual_set k l ≡ true) (node_at t i) (node_at (dual t) j)
      each i j h =
          let p = further_is t.count 0 i j h in
          let f = w.each i p.0 in
          let c : j ≡ i = omega (arith, p.1) in
          rw (c, dual-turned t i p.0)
          (likewise_beside turned_kind (SameByUnfolding t names (dual t) names) (turned_likewise t.count (node_at t i)) f
          (turned_kinds t.count (node_at t i))
          (λ q k m s. original_same (session_somewhere t i q k p.0 m s) k (f.message.item_links q k m s)))

  node_dual : (i : ℕ) → i < t.count → DualByUnfolding t names (dual t) names i i
  node_dual i l = record { set = dual_set; keeps = turned_keeps; holds = is_further t.count 0 i i l (omega arith) }

pub dual_unfolds :
    (t : Table) (names : List ℕ) → well_formed t names ≡ true → DualByUnfolding t names (dual t) names t.start (dual t).start
dual_unfolds t names f =
    let w = formed f in
    subst (λ (j : ℕ). DualByUnfolding t names (dual t) names t.start j) (sym (dual_start t)) (node_dual w t.start w.begins)

-- An equation read from its other side, where f undoes itself.
module _ {names other_names : List ℕ} {f : Kind → Kind} {I G J H : ℕ → ℕ → Type 0} {x y : Node} where
  beside_back :
      ((k : Kind) → f (f k) ≡ k) → ((k : Kind) → is_message (f k) ≡ is_message k) → ((k l : ℕ) → I k l → J l k) → ((k l : ℕ) → G k l → H l k)
      → Beside names other_names f I G x y → Beside other_names names f J H y x
  beside_back twice messages items goes B =
      record {
        kind = sym (ap f B.kind ∙ twice x.kind);
        items = sym B.items;
        each_item = λ i l. item (item_at x i) (item_at y i) (B.each_item i (omega (arith, B.items)));
        goes_on = λ e. goes (continuation x) (continuation y) (B.goes_on (sym (ap is_message B.kind ∙ messages x.kind) ∙ e));
        labels = sym B.labels;
        each_label = λ i l. sym (B.each_label i (omega (arith, B.labels)));
        leads_on = λ i l. goes (label_at x i).to (label_at y i).to (B.leads_on i (omega (arith, B.labels)));
      }
    where
      item : (a b : Item) → ItemBeside I a b → ItemBeside J b a
      item (OfSort a) (OfSort b) h = sym h
      item (OfSort a) (Session l) h = elim h [ ]
      item (Session k) (OfSort b) h = elim h [ ]
      item (Session k) (Session l) h = items k l h

module _ {t : Table} {names : List ℕ} {u : Table} {other_names : List ℕ} where
  same_symmetric : (i j : ℕ) → SameByUnfolding t names u other_names i j → SameByUnfolding u other_names t names j i
  same_symmetric i j S =
      record {
        set = λ i j. S.set j i;
        keeps =
            record {
              within = λ i j h. let p = S.keeps.within j i h in (p.1, p.0);
              each = λ i j h. beside_back (λ k. refl) (λ k. refl) (λ k l e. e) (λ k l e. e) (S.keeps.each j i h);
            };
        holds = S.holds;
      }

  pub dual_symmetric : (i j : ℕ) → DualByUnfolding t names u other_names i j → DualByUnfolding u other_names t names j i
  dual_symmetric i j D =
      record {
        set = λ i j. D.set j i;
        keeps =
            record {
              within = λ i j h. let p = D.keeps.within j i h in (p.1, p.0);
              each = λ i j h. beside_back turned_twice turned_message same_symmetric (λ k l e. e) (D.keeps.each j i h);
            };
        holds = D.holds;
      }

-- The steps of two nodes that fit, by the links that they follow: into an item of both, or on from both, and then left and right do not
-- change places. So a run into the dual comes from the turned nodes to the originals by items only, and never back: `reached_turn`.
-- Assumes nothing.
use Rattle.std.specs.Prelude.{None}
use mathlib.Core.Bool.{Bool, true, false}
use mathlib.Core.List.{List}
use mathlib.Core.Logic.{◌⊎◌, inl, inr}
use mathlib.Core.Option.{some, some-injective, none-ne-some}
use mathlib.Core.Path.{◌≡◌, refl, sym, ap, ◌∙◌}
use Prim.Native.Nat.{ℕ, zero, suc, ◌+◌, ◌-◌, ◌<◌, ◌≤◌}
use native.Mathlib.Decide.{dec_lt}
use native.Mathlib.Omega.{arith}
use lib.Dec.{eqb, ltb}
use borrow.Author.Tests.{ltb-true}
use Rattle.rules.specs.Tables.{node_at, item_count, item_at, label_count, label_at, spelling_at, continuation, is_message}
use Rattle.rules.specs.Dual.{hands_over, turned_node, original_node, dual}
use Rattle.rules.specs.Pairs.{Pair, Onward, Step, position, mismatch_of, mismatch_at, onto, nowhere, exchanged, continuation_step, into_item, message_step, choice_step, step_by, step_of, step_at, landed, left_in, right_in, turn_after}
use Rattle.rules.specs.Runs.{Run}
use Rattle.rules.proofs.Facing.{LabelsIn, Fits, fits_exactly}
use Rattle.rules.proofs.Formed.{WellFormed}
use Rattle.rules.proofs.Remade.{Likewise, turned_likewise, original_likewise, dual_size, dual-turned, dual-original, moved-session}
use Rattle.rules.proofs.Runs.{starts_within, run_grows}
use Rattle.rules.proofs.Steps.{Within, step_within}
use Rattle.table.specs.declared.Kind.{Kind}
use Rattle.table.specs.declared.Kind.TheVariants.{End, Receive, Send, Branch, Choose}
use Rattle.table.specs.declared.Item.{Item}
use Rattle.table.specs.declared.Item.TheVariants.{OfSort, Session}
use Rattle.table.specs.declared.Label.{Label}
use Rattle.table.specs.declared.Node.{Node}
use Rattle.table.specs.declared.Table.{Table}

-- an item of x links to k
abbrev Inward : Node → ℕ → Type 0
Inward x k = (j : ℕ) × (j < item_count x) × (item_at x j ≡ Session k)

-- a label or the continuation of x links to k
data Further (x : Node) (k : ℕ) : Type 0 where
  by_label : (j : ℕ) → j < label_count x → (label_at x j).to ≡ k → Further x k
  by_continuation : is_message x.kind ≡ true → continuation x ≡ k → Further x k

-- where a step leads by both nodes' links
abbrev Follows : Node → Node → Onward → Type 0
Follows x y nowhere = Unit {0}
Follows x y (onto l r t) = (Inward x l × Inward y r) ⊎ (Further x l × Further y r × (t ≡ false))

module _ (x y : Node) (t : Bool) (s : ℕ) where
  item_follows : s < item_count x → s < item_count y → (a b : Item) → item_at x s ≡ a → item_at y s ≡ b → Follows x y (into_item a b t)
  item_follows k l (OfSort a) (OfSort b) d e = tt
  item_follows k l (OfSort a) (Session j) d e = tt
  item_follows k l (Session i) (OfSort b) d e = tt
  item_follows k l (Session i) (Session j) d e = inl ((s, k, d), (s, l, e))

  message_follows :
      item_count x ≡ item_count y → is_message x.kind ≡ true → is_message y.kind ≡ true → Follows x y (message_step x y t s)
  unfolding message_step
  message_follows c f g = go (ltb s (item_count x)) refl (eqb s continuation_step)
    where
      go :
          (a : Bool) → ltb s (item_count x) ≡ a → (b : Bool)
          → Follows x y (elim a as (λ z. Onward) [
            | true ↦ into_item (item_at x s) (item_at y s) t
            | false ↦ elim b as (λ z. Onward) [ true ↦ onto (continuation x) (continuation y) false | false ↦ nowhere ]
          ])
      go true d b = let k = ltb-true _ _ d in item_follows k (omega arith) (item_at x s) (item_at y s) refl refl
      go false d true = inr (by_continuation f refl, by_continuation g refl, refl)
      go false d false = tt

choice_follows : (x : Node) (xs : List ℕ) (y : Node) (ys : List ℕ) (s : ℕ) → LabelsIn x xs y ys → Follows x y (choice_step x xs y ys s)
unfolding choice_step
choice_follows x xs y ys s f = go (ltb s (label_count x)) refl
  where
    go :
        (a : Bool) → ltb s (label_count x) ≡ a
        → Follows x y (elim a as (λ z. Onward) [
          | true ↦ onto (label_at x s).to (label_at y (position (spelling_at x xs s) y ys)).to false
          | false ↦ nowhere
        ])
    go true d = let k = ltb-true _ _ d in inr (by_label s k refl, by_label (position (spelling_at x xs s) y ys) (f s k) refl, refl)
    go false d = tt

exchanged_follows : (x y : Node) (o : Onward) → Follows x y o → Follows y x (exchanged o)
exchanged_follows x y nowhere h = tt
exchanged_follows x y (onto l r t) (inl (a, b)) = inl (b, a)
exchanged_follows x y (onto l r t) (inr (a, b, e)) = inr (b, a, e)

node_follows : (x : Node) (xs : List ℕ) (y : Node) (ys : List ℕ) (s : ℕ) → mismatch_of x xs y ys ≡ None → Follows x y (step_of x xs y ys s)
unfolding step_of
node_follows x xs y ys s e = go ((fits_exactly x xs y ys).0 e) x.kind refl
  where
    go : Fits x xs y ys → (k : Kind) → x.kind ≡ k → Follows x y (step_by k x xs y ys s)
    go F End d = tt
    go F Receive d = message_follows x y false s F.counts (ap is_message d) (ap is_message (sym F.kinds ∙ d))
    go F Send d = message_follows x y true s F.counts (ap is_message d) (ap is_message (sym F.kinds ∙ d))
    go F Branch d = choice_follows x xs y ys s (F.replies d)
    go F Choose d = exchanged_follows y x (choice_step y ys x xs s) (choice_follows y ys x xs s (F.commands d))

-- the links of a node that was made anew
module _ {n m : ℕ} {y z : Node} (S : Likewise n m y z) where
  inward_moved : (k : ℕ) → Inward z k → n ≤ k
  inward_moved k (j, l, e) =
      let s = moved-session n (item_at y j) k (sym (S.each_item j (omega (arith, S.items))) ∙ e) in omega (arith, s.2)

  further_moved : (k : ℕ) → Further z k → m ≤ k
  further_moved k (by_label j l e) = omega (arith, ap (λ (a : Label). a.to) (S.each_label j (omega (arith, S.labels))))
  further_moved k (by_continuation f e) = omega (arith, S.goes_on (sym S.message ∙ f))

-- the pair that is got to
module _ (u l r : ℕ) (t : Bool) (q : Pair) (e : landed u (onto l r t) ≡ some q) where
  landed_turn : q.turn ≡ turn_after t u
  landed_turn = ap (λ (p : Pair). p.turn) (sym (some-injective _ q e))

  landed_old : q.old ≡ right_in u l r
  landed_old = ap (λ (p : Pair). p.old) (sym (some-injective _ q e))

module _ (n : ℕ) (x y : Node) (q : Pair) where
  -- from a turned node, in turn 0, a step that stays among the turned ones does not turn
  turned_onward : (o : Onward) → Follows x (turned_node n y) o → landed 0 o ≡ some q → q.old < n → q.turn ≡ 0
  turned_onward nowhere h e l = absurd (none-ne-some q e)
  turned_onward (onto a b t) (inl (h, i)) e l = absurd (omega (arith, inward_moved (turned_likewise n y) b i, landed_old 0 a b t q e))
  turned_onward (onto a b t) (inr (h, i, f)) e l = landed_turn 0 a b t q e ∙ ap (λ (c : Bool). turn_after c 0) f

  -- from an original, in either turn, every step leads to an original
  carried_onward : (u : ℕ) (o : Onward) → Follows (left_in u x (original_node n y)) (right_in u x (original_node n y)) o → landed u o ≡ some q → n ≤ q.old
  carried_onward u nowhere h e = absurd (none-ne-some q e)
  carried_onward zero (onto a b t) (inl (h, i)) e = omega (arith, inward_moved (original_likewise n y) b i, landed_old 0 a b t q e)
  carried_onward zero (onto a b t) (inr (h, i, f)) e = omega (arith, further_moved (original_likewise n y) b i, landed_old 0 a b t q e)
  carried_onward (suc u) (onto a b t) (inl (h, i)) e = omega (arith, inward_moved (original_likewise n y) a h, landed_old (suc u) a b t q e)
  carried_onward (suc u) (onto a b t) (inr (h, i, f)) e = omega (arith, further_moved (original_likewise n y) a h, landed_old (suc u) a b t q e)

-- the node of the dual that was carried over: its number, and what it is
pub carried_node :
    (t : Table) (j : ℕ) → t.count ≤ j → j < (dual t).count
    → (j - t.count < t.count) × (node_at (dual t) j ≡ original_node t.count (node_at t (j - t.count)))
carried_node t j l m = go (hands_over t) refl
  where
    go :
        (b : Bool) → hands_over t ≡ b
        → (j - t.count < t.count) × (node_at (dual t) j ≡ original_node t.count (node_at t (j - t.count)))
    go true e =
        let h : j - t.count < t.count = omega (arith, dual_size t e) in
        let p : j ≡ (j - t.count) + t.count = omega arith in
        (h, ap (node_at (dual t)) p ∙ dual-original t e (j - t.count) h)
    go false e = absurd (omega (arith, dual_size t e))

module _ (new : Table) (new_names : List ℕ) (other : Table) (other_names : List ℕ) (new_formed : WellFormed new new_names) (dual_formed : WellFormed (dual other) other_names) where
  -- what every pair that a run reaches keeps
  abbrev Kept : Pair → Type 0
  Kept p = Within new (dual other) p × (p.old < other.count → p.turn ≡ 0)

  step_turn :
      (p : Pair) (s : ℕ) (q : Pair) → Kept p → Step new new_names (dual other) other_names p s q → q.old < other.count → q.turn ≡ 0
  unfolding mismatch_at step_at
  step_turn p s q (w, k) S l = go (dec_lt p.old other.count)
    where
      x : Node
      x = node_at new p.new

      go : Dec (p.old < other.count) → q.turn ≡ 0
      go (yes h) =
          let y = node_at other p.old in
          let z = turned_node other.count y in
          let d = dual-turned other p.old h in
          turned_onward other.count x y q (step_of x new_names z other_names s)
          (node_follows x new_names z other_names s (rw (k h, d) at S.fits)) (rw (k h, d) at S.leads) l
      go (no h) =
          let c = carried_node other p.old (omega arith) w.old_below in
          let y = node_at other (p.old - other.count) in
          let z = original_node other.count y in
          let u = p.turn in
          let xs = left_in u new_names other_names in
          let ys = right_in u new_names other_names in
          let f = node_follows (left_in u x z) xs (right_in u x z) ys s (rw c.1 at S.fits) in
          let o = step_of (left_in u x z) xs (right_in u x z) ys s in
          absurd (omega (arith, carried_onward other.count x y q u o f (rw c.1 at S.leads)))

  -- a run that is at a turned node is in turn 0
  pub reached_turn : (r : List ℕ) (q : Pair) → Run new new_names (dual other) other_names r q → q.old < other.count → q.turn ≡ 0
  reached_turn r q L =
      (run_grows new new_names (dual other) other_names (λ r q. Kept q) (starts_within new_formed dual_formed, λ l. refl)
      (λ r p s q k S. (step_within new_formed dual_formed k.0 S, step_turn p s q k S)) r q L).1

-- What a yes and a no mean for the two descriptions themselves, where it is asked whether new is compatible with other: after a yes every
-- pair that a run reaches stands well, and a no leads to the first that does not. The dual is taken apart here once and for all.
-- Assumes nothing.
use Rattle.std.specs.Prelude.{None}
use mathlib.Core.Bool.{true}
use mathlib.Core.List.{List}
use mathlib.Core.Logic.{◌↔◌}
use mathlib.Core.Option.{some}
use mathlib.Core.Path.{◌≡◌, refl, sym, ap, ◌∙◌, subst}
use Prim.Native.Nat.{ℕ, zero, suc, ◌-◌, ◌<◌, ◌≤◌}
use native.Mathlib.Decide.{dec_lt}
use native.Mathlib.Omega.{arith}
use lib.ListN.{take, length-replicate}
use Rattle.rules.proofs.DualFormed.{dual_formed}
use Rattle.rules.proofs.Facing.{Facing, facing_wrong, facing_fits, turned_wrong, carried_fits, carried_fits_left}
use Rattle.rules.proofs.FacingSteps.{carried_node, reached_turn}
use Rattle.rules.proofs.Formed.{WellFormed, formed}
use Rattle.rules.proofs.LineAgreement.{never_refused}
use Rattle.rules.proofs.Means.{made-dual, yes-may_replace}
use Rattle.rules.proofs.Remade.{dual-turned}
use Rattle.rules.proofs.Replies.{yes_means, no_means, steps_run}
use Rattle.rules.proofs.Runs.{starts_within, leads_within}
use Rattle.rules.proofs.Smallest.{closed_no_mismatch}
use Rattle.rules.proofs.Steps.{Within}
use Rattle.rules.proofs.VerdictAgreement.{verdict_replaces}
use Rattle.rules.specs.Dual.{original_node, dual}
use Rattle.rules.specs.Formed.{well_formed}
use Rattle.rules.specs.Numbers.{table_nodes_most}
use Rattle.rules.specs.Pairs.{Wrong, Pair, reason, detail, left_in, right_in, mismatch_of, mismatch_at, starts}
use Rattle.rules.specs.Replace.{Compatible}
use Rattle.rules.specs.Replies.{Areas, AsksCompatible, then_verdict, NoRefusal, Replaces, pair_count, scratch_size}
use Rattle.rules.specs.Runs.{Run, Before}
use Rattle.rules.specs.Tables.{node_at}
use Rattle.rules.specs.computed.Line.{areas_for}
use Rattle.table.specs.declared.Node.{Node}
use Rattle.table.specs.declared.Table.{Table}
use Rattle.table.specs.declared.answers.Found.{Found}
use Rattle.table.specs.declared.answers.Made.{Made}
use Rattle.table.specs.declared.answers.Verdict.TheVariants as the
use Rattle.std.specs.Prelude.{Ok, Err}
use Rattle.rules.specs.Replies.{Answer}

-- the pair of new and other that a pair of new and the dual's originals is: they stand behind the turned nodes, in order
abbrev pub as_carried : Table → Pair → Pair
as_carried other q = record { turn = q.turn; new = q.new; old = q.old - other.count }

-- the pair that an answer tells of, and that it tells that m is wrong with it
abbrev pub met : Found → Pair
met f = record { turn = f.turn; new = f.new; old = f.old }

abbrev pub Tells : Found → Wrong → Type 0
Tells f m = (f.reason ≡ reason m) × (f.detail ≡ detail m)

module _ (new : Table) (new_names : List ℕ) (other : Table) (other_names : List ℕ) where
  -- What a pair of new and the dual of other says of new and other. Among the first n nodes of the dual, where other has n, the two
  -- descriptions talk with each other: node q .old of other itself faces the node of new. Behind them are the sessions that are handed
  -- over, which are not turned round: node q .old - n of other itself is compared with the node of new, in the pair's turn.
  pub record StandsWell (q : Pair) : Type 0 where
    pub facing : q.old < other.count → (q.turn ≡ 0) × Facing (node_at new q.new) new_names (node_at other q.old) other_names
    pub carried : other.count ≤ q.old → (q.old - other.count < other.count) × (mismatch_at new new_names other other_names (as_carried other q) ≡ None)

  -- the run ends at a pair that does not stand well, and no run that goes before it ends at such a pair
  pub record FailsFirst (run : List ℕ) (end : Pair) : Type 0 where
    pub runs : Run new new_names (dual other) other_names run end
    pub wrong : StandsWell end → ⊥
    pub earliest : (r : List ℕ) (q : Pair) → Run new new_names (dual other) other_names r q → (StandsWell q → ⊥) → Before r run → ⊥

  -- the reason and the detail of an answer, said of new and other
  pub record Explained (f : Found) : Type 0 where
    pub facing : f.old < other.count → Tells f (facing_wrong (node_at new f.new) new_names (node_at other f.old) other_names)
    pub carried : other.count ≤ f.old → Tells f (mismatch_at new new_names other other_names (as_carried other (met f)))

  -- every run ends at a pair that stands well
  abbrev pub AllStandWell : Type 0
  AllStandWell = (r : List ℕ) (q : Pair) → Run new new_names (dual other) other_names r q → StandsWell q

  -- what is wrong with a pair of the dual's turned nodes, and with one of its originals
  facing_alike :
      (q : Pair) → q.old < other.count → q.turn ≡ 0
      → mismatch_at new new_names (dual other) other_names q ≡ facing_wrong (node_at new q.new) new_names (node_at other q.old) other_names
  unfolding mismatch_at
  facing_alike q l t =
      rw (t, dual-turned other q.old l) (turned_wrong other.count (node_at new q.new) new_names (node_at other q.old) other_names)

  pub carried_alike :
      (q : Pair) → other.count ≤ q.old → q.old < (dual other).count
      → mismatch_at new new_names (dual other) other_names q ≡ mismatch_at new new_names other other_names (as_carried other q)
  unfolding mismatch_at
  carried_alike q l m = rw (carried_node other q.old l m).1 (go q.turn)
    where
      x : Node
      x = node_at new q.new

      y : Node
      y = node_at other (q.old - other.count)

      z : Node
      z = original_node other.count y

      go :
          (u : ℕ)
          → mismatch_of (left_in u x z) (left_in u new_names other_names) (right_in u x z) (right_in u new_names other_names)
          ≡ mismatch_of (left_in u x y) (left_in u new_names other_names) (right_in u x y) (right_in u new_names other_names)
      go zero = carried_fits other.count x new_names y other_names
      go (suc u) = carried_fits_left other.count x new_names y other_names

  module _ (new_formed : WellFormed new new_names) (dual_well : WellFormed (dual other) other_names) (r : List ℕ) (q : Pair) (L : Run new new_names (dual other) other_names r q) where
    reached_within : Within new (dual other) q
    reached_within = leads_within new_formed dual_well r (starts new (dual other)) q (starts_within new_formed dual_well) L

    fits_stands : mismatch_at new new_names (dual other) other_names q ≡ None → StandsWell q
    unfolding mismatch_at
    fits_stands e =
        record {
          facing =
              λ l.
              let t = reached_turn new new_names other other_names new_formed dual_well r q L l in
              let f = facing_fits other.count (node_at new q.new) new_names (node_at other q.old) other_names in
              (t, f.0 (rw (t, dual-turned other q.old l) at e));
          carried = λ l. ((carried_node other q.old l reached_within.old_below).0, sym (carried_alike q l reached_within.old_below) ∙ e);
        }

    stands_fits : StandsWell q → mismatch_at new new_names (dual other) other_names q ≡ None
    unfolding mismatch_at
    stands_fits S = go (dec_lt q.old other.count)
      where
        go : Dec (q.old < other.count) → mismatch_at new new_names (dual other) other_names q ≡ None
        go (yes l) =
            let (t, F) = S.facing l in
            rw (t, dual-turned other q.old l)
            ((facing_fits other.count (node_at new q.new) new_names (node_at other q.old) other_names).1 F)
        go (no l) =
            let m : other.count ≤ q.old = omega arith in carried_alike q m reached_within.old_below ∙ (S.carried m).1

    -- a pair that a run reaches stands well exactly if the verdict's search finds nothing wrong with it
    pub stands_exactly : (mismatch_at new new_names (dual other) other_names q ≡ None) ↔ StandsWell q
    stands_exactly = (fits_stands, stands_fits)

module _ {new : Table} {new_names : List ℕ} {other : Table} {other_names : List ℕ} {before after : Areas} where
  -- the second call was asked of the dual
  asked :
      {m : Made} {v : Answer} → AsksCompatible new new_names other other_names before after m (some v)
      → Replaces new new_names (dual other) other_names before after v
  asked (then_verdict {t} {v} e r) =
      subst (λ (d : Table). Replaces new new_names d other_names before after v) (made-dual other other_names t e) r

  -- after a yes every pair that a run reaches stands well
  pub compatible_yes :
      {m : Made} {c : ℕ} → AsksCompatible new new_names other other_names before after m (some (Ok (the.Yes c))) → (r : List ℕ) (q : Pair)
      → Run new new_names (dual other) other_names r q → StandsWell new new_names other other_names q
  compatible_yes A r q L =
      let (F, Y) = yes_means (asked A) in
      (stands_exactly new new_names other other_names (formed F.new_formed) (formed F.old_formed) r q L).0
      (closed_no_mismatch Y.smallest.closed r q L)

  -- after a no the steps that the path holds lead to the first that does not
  pub compatible_no :
      {m : Made} {f : Found} → AsksCompatible new new_names other other_names before after m (some (Ok (the.No f)))
      → FailsFirst new new_names other other_names (take f.steps after.path) (met f)
  compatible_no {f = f} A =
      let (F, X) = no_means (asked A) in
      let stands = stands_exactly new new_names other other_names (formed F.new_formed) (formed F.old_formed) in
      let first : FailsFirst new new_names other other_names X.run X.end =
      record {
        runs = X.runs;
        wrong = λ S. X.wrong ((stands X.run X.end X.runs).1 S);
        earliest = λ r q L h. X.earliest r q L (λ e. h ((stands r q L).0 e));
      } in
      rw (steps_run X, ap met X.returned) first

  -- and reason and detail are told of new and other
  pub compatible_reason :
      {m : Made} {f : Found} → AsksCompatible new new_names other other_names before after m (some (Ok (the.No f)))
      → Explained new new_names other other_names f
  compatible_reason {f = f} A =
      let (F, X) = no_means (asked A) in
      let L = (compatible_no A).runs in
      let a = formed F.new_formed in
      let b = formed F.old_formed in
      let w = leads_within a b (take f.steps after.path) (starts new (dual other)) (met f) (starts_within a b) L in
      let tells : Tells f (mismatch_at new new_names (dual other) other_names (met f)) = rw X.returned (refl, refl) in
      record {
        facing =
            λ l.
            let t = reached_turn new new_names other other_names a b (take f.steps after.path) (met f) L l in
            rw (← facing_alike new new_names other other_names (met f) l t) tells;
        carried = λ l. rw (← carried_alike new new_names other other_names (met f) l w.old_below) tells;
      }

  -- where no refusal applies, yes is the answer exactly if every run stands well
  pub compatible_exactly :
      {m : Made} {v : Answer} → NoRefusal new new_names (dual other) other_names before
      → AsksCompatible new new_names other other_names before after m (some v)
      → ((c : ℕ) × (v ≡ Ok (the.Yes c))) ↔ AllStandWell new new_names other other_names
  compatible_exactly {m} {v} F A = (λ (c, e). compatible_yes (rw e at A), go v A)
    where
      go :
          (v : Answer) → AsksCompatible new new_names other other_names before after m (some v) → AllStandWell new new_names other other_names
          → (c : ℕ) × (v ≡ Ok (the.Yes c))
      go (Ok (the.Yes c)) B all = (c, refl)
      go (Ok (the.No f)) B all = let X = compatible_no B in absurd (X.wrong (all (take f.steps after.path) (met f) X.runs))
      go (Err r) B all = absurd (never_refused F (asked B))

-- And so it is without any call: new is compatible with other exactly if every run stands well.
module _ (new : Table) (new_names : List ℕ) (other : Table) (other_names : List ℕ) where
  pub compatible_means :
      well_formed new new_names ≡ true → well_formed other other_names ≡ true → (dual other).count ≤ table_nodes_most
      → Compatible new new_names other other_names ↔ AllStandWell new new_names other other_names
  compatible_means a b few = (
    λ m r q L. (stands r q L).0 (closed_no_mismatch m.closed r q L),
    λ all. go all _ _ (verdict_replaces new new_names (dual other) other_names lent),
  )
    where
      c : well_formed (dual other) other_names ≡ true
      c = dual_formed other other_names b few

      stands :
          (r : List ℕ) (q : Pair) → Run new new_names (dual other) other_names r q
          → (mismatch_at new new_names (dual other) other_names q ≡ None) ↔ StandsWell new new_names other other_names q
      stands = stands_exactly new new_names other other_names (formed a) (formed c)

      lent : Areas
      lent = areas_for new (dual other)

      go :
          AllStandWell new new_names other other_names → (v : Answer) (after : Areas) → Replaces new new_names (dual other) other_names lent after v
          → Compatible new new_names other other_names
      go all (Ok (the.Yes n)) after R = yes-may_replace R
      go all (Ok (the.No f)) after R =
          let X = (no_means R).1 in absurd (X.wrong ((stands X.run X.end X.runs).1 (all X.run X.end X.runs)))
      go all (Err r) after R =
          absurd
          (never_refused
          (record {
            new_formed = a;
            old_formed = c;
            marks_long = omega (arith, length-replicate {A = ℕ} (pair_count new (dual other)) 0);
            path_long = omega (arith, length-replicate {A = ℕ} (pair_count new (dual other)) 0);
            scratch_long = omega (arith, length-replicate {A = ℕ} (scratch_size new (dual other)) 0);
          }) R)

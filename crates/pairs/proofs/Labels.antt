-- Where a label stands in a list. As it stands there once, its place is the same wherever the search starts; so one that starts
-- somewhere and goes round finds it. Then, that the labels of the chooser are looked for one after the other.
-- Assumes nothing.
use Rattle.std.specs.Prelude.{Option, None, Some, Ok}
use Rattle.std.specs.Option.{MatchOption}
use borrow.Author.Count.{below_more}
use borrow.Author.Tests.{le-leb, lt-leb}
use mathlib.Core.Bool.{Bool, true, false}
use mathlib.Core.List.{List}
use mathlib.Core.Path.{◌≡◌, sym, ◌∙◌}
use Prim.Native.Nat.{ℕ, ◌+◌, ◌<◌, ◌≤◌}
use native.Mathlib.Decide.{dec_lt}
use native.Mathlib.Omega.{arith}
use lib.ListN.{length, get_or, set, length-set}
use lib.Seq.{get_or-set_same, get_or-set_other}
use Rattle.rules.specs.Basics.{first, same}
use Rattle.rules.specs.Numbers.{labels_most}
use Rattle.rules.specs.Tables.{label_count, spelling_at}
use Rattle.rules.specs.Pairs.{position, lacks, label_lacking}
use Rattle.rules.proofs.Basics.{same_true, same_false, first_here, first_found}
use Rattle.pairs.specs.Beside.{ListOnce, spelled, FirstBetween, Covers}
use Rattle.pairs.proofs.Firsts.{first_some, first_none, at_first_some, at_first_none}
use Rattle.table.specs.declared.Label.{Label}
use Rattle.table.specs.declared.Node.{Node}
use Rattle.table.specs.declared.answers.Mismatch.TheVariants as mismatch

-- whether a list has the label w at a position
abbrev pub stands : List ℕ → List Label → List ℕ → ℕ → Bool
stands w labels names j = same w (spelled labels names j)

-- the first position at which a list of `count` labels has the label w: `position`, of the list alone
abbrev pub place : List ℕ → List Label → ℕ → List ℕ → ℕ
place w labels count names = first count (stands w labels names)

module _ (w : List ℕ) {labels : List Label} {count : ℕ} {names : List ℕ} where
  -- a position that has the label is the one
  pub place_found :
      (j : ℕ) → ListOnce labels count names → j < count → same w (spelled labels names j) ≡ true → j ≡ place w labels count names
  place_found j O l e = first_here j l before e
    where
      before : (i : ℕ) → i < j → same w (spelled labels names i) ≡ false
      before i k =
          same_false w (spelled labels names i)
          (λ f. let d = O.once i j (omega arith) l (sym f ∙ same_true w (spelled labels names j) e) in omega arith)

  -- so one that is found between two positions is
  pub found_there :
      {low high r : ℕ} → ListOnce labels count names → high ≤ count → FirstBetween low high (stands w labels names) (Some r)
      → r ≡ place w labels count names
  found_there {r = r} O l F = place_found r O (omega (arith, F.1)) F.2

  -- a search from `start` on, and, where that finds nothing, one from the front up to there
  pub found_round :
      {start : ℕ} {P : Type 0} (o r : Option ℕ) → ListOnce labels count names → start ≤ count
      → FirstBetween start count (stands w labels names) o → (P → FirstBetween 0 start (stands w labels names) r)
      → MatchOption o P (λ i. r ≡ Some i) → FirstBetween 0 count (stands w labels names) r
  found_round (Some i) r O k F f e =
      let d = found_there O (omega arith) F in
      rw e (omega arith, F.1, F.2, λ j m l. (first_found count (stands w labels names)).before j (omega arith))
  found_round {start} None r O k F f p = go r (f p)
    where
      none : FirstBetween 0 start (stands w labels names) None → (j : ℕ) → 0 ≤ j → j < count → same w (spelled labels names j) ≡ false
      none G j m l = elim (dec_lt j start) [ yes b ↦ G j m b | no h ↦ F j (omega arith) l ]

      go : (r : Option ℕ) → FirstBetween 0 start (stands w labels names) r → FirstBetween 0 count (stands w labels names) r
      go (Some i) G = (omega arith, omega (arith, G.1), G.2, G.3)
      go None G = none G

module _ (x : Node) (xs : List ℕ) (y : Node) (ys : List ℕ) where
  -- the labels of the chooser before position i stand in the other list, and the places say where
  pub record PlacedBefore (i : ℕ) (places : List ℕ) : Type 0 where
    pub room : length places ≡ labels_most
    pub there : (j : ℕ) → j < i → lacks x xs y ys j ≡ false
    pub placed : (j : ℕ) → j < i → get_or places j 0 ≡ position (spelling_at x xs j) y ys

  -- what the search for one label says
  module _ {w : List ℕ} (i : ℕ) {other : ℕ} (word : w ≡ spelled x.labels xs i) (counted : other ≡ label_count y) where
    found : {at : ℕ} → FirstBetween 0 other (stands w y.labels ys) (Some at) → (at ≡ position (spelling_at x xs i) y ys) × (lacks x xs y ys i ≡ false)
    unfolding lacks position
    found {at} F = let f = first_some (rw (word, counted) at F) in (f.1, lt-leb _ _ (rw f.1 at f.0))

    missing : FirstBetween 0 other (stands w y.labels ys) None → lacks x xs y ys i ≡ true
    unfolding lacks position
    missing F = let f = first_none (rw (word, counted) at F) in le-leb _ _ (omega arith)

    -- one more is found
    pub place_one :
        {places : List ℕ} {at : ℕ} → PlacedBefore i places → i < labels_most
        → FirstBetween 0 other (stands w y.labels ys) (Some at) → PlacedBefore (i + 1) (set places i at)
    place_one {places} {at} P l F =
        let f = found F in
        record {
          room = length-set places i at ∙ P.room;
          there = below_more _ i P.there f.1;
          placed =
              below_more _ i (λ j k. get_or-set_other places i j at 0 (omega arith) ∙ P.placed j k)
              (get_or-set_same places i at 0 (omega (arith, P.room)) ∙ f.0);
        }

    -- one is not
    pub lacks_one :
        {places : List ℕ} → PlacedBefore i places → i < label_count x → FirstBetween 0 other (stands w y.labels ys) None
        → label_lacking x xs y ys ≡ Some (mismatch.Label i)
    unfolding label_lacking
    lacks_one P l F = at_first_some mismatch.Label (omega arith, l, missing F, λ j k m. P.there j m)

  -- each is found
  pub lacks_none : {i : ℕ} {places : List ℕ} → PlacedBefore i places → i ≡ label_count x → Covers x xs y ys (Ok places)
  unfolding label_lacking
  lacks_none P e =
      (at_first_none mismatch.Label (λ j k l. P.there j (omega arith)), λ j l. P.placed j (omega arith))

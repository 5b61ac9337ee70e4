-- The two texts of an input are its parts before and behind the first byte 0.
-- Assumes nothing.
use Rattle.std.proofs.Common.{◌≡◌, ℕ, Bool, true, false, not, cond, List, [], Some, None, ◌≤◌, ◌+◌, ◌-◌, ◌==◌, refl, sym, ap, ◌∙◌, arith}
use Rattle.std.specs.List.{position, position_or_len}
use Rattle.std.proofs.lemmas.List.Quantifiers.{position-Some}
use Rattle.std.proofs.lemmas.List.Sums.{prefix_len_passes}
use mathlib.Core.Bool.{false≢true}
use borrow.Author.Tests.{eqb-true, eq-eqb, ltb-false}
use borrow.Author.Rules.{part_to_end}
use lib.ListN.{length, take, drop, get_or, drop_of_length-le}
use Rattle.rules.specs.Line.{first_text, second_text}
use Rattle.rules.proofs.Split.{split_at, split_none}

-- the test that looks for it
abbrev is_zero : ℕ → Bool
is_zero b = b == 0

module _ (s : List ℕ) {k : ℕ} (e : position is_zero s ≡ Some k) where
  here : (first_text s ≡ take k s) × (second_text s ≡ drop (k + 1) s)
  here =
      let p = position-Some is_zero s k 0 e in
      split_at s k p.0 (λ j l h. false≢true (sym (p.2 j l) ∙ eq-eqb _ _ h)) (eqb-true _ _ p.1)

  pub before_zero : take k s ≡ first_text s
  before_zero = sym here.0

  pub behind_zero : take (length s - (k + 1)) (drop (k + 1) s) ≡ second_text s
  behind_zero = part_to_end s (k + 1) ∙ sym here.1

-- where it is not found, the count of what comes before it is no position
none_found : (b : Bool) (n : ℕ) → cond b (Some n) None ≡ None → b ≡ false
none_found true n q = absurd cc
none_found false n q = refl

module _ (s : List ℕ) (e : position is_zero s ≡ None) where
  none : (first_text s ≡ s) × (second_text s ≡ [])
  none =
      let n : length s ≤ position_or_len is_zero s = ltb-false _ _ (none_found _ _ e) in
      split_none s
      (λ j l h. false≢true (sym (ap not (eq-eqb (get_or s j 0) 0 h)) ∙ prefix_len_passes (λ x. not (is_zero x)) s j 0 (omega arith)))

  pub first_whole : s ≡ first_text s
  first_whole = sym none.0

  pub second_empty : take (length s - length s) (drop (length s) s) ≡ second_text s
  second_empty = part_to_end s (length s) ∙ drop_of_length-le s {i = length s} (omega arith) ∙ sym none.1

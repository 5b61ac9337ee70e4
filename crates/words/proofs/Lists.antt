-- The recursions of document 01's words are those that the library's methods on slices answer.
-- Assumes nothing.
use mathlib.Core.Bool.{Bool, true, false, false≢true, ◌&&◌}
use mathlib.Core.List.{List, [], ◌∷◌}
use mathlib.Core.Path.{◌≡◌, refl, sym, ap, ◌∙◌}
use Prim.Native.Nat.{ℕ}
use native.Mathlib.Omega.{arith}
use borrow.Author.Tests.{eqb-true, eq-eqb}
use denote.Param.Members.{Mut}
use lib.Dec.{eqb, leb}
use lib.ListN.{length, get_or}
use lib.Pointwise.{pointwise}
use Rattle.std.proofs.iter.Yields.{nat_range_steps}
use Rattle.std.specs.Fn.{Called}
use Rattle.std.specs.Iterator.{YieldsThen}
use Rattle.std.specs.List.{FoldsTo, list_all}
use Rattle.std.specs.Option.{MatchOption}
use Rattle.std.specs.Prelude.{Option}
use Rattle.std.specs.declared.ops.Range.{Range}
use Rattle.rules.specs.Basics.{same, every}
use Rattle.rules.proofs.Basics.{tests_same, every_all, every_true, same_true, same_all, same_lengths}
use Rattle.rules.specs.Words.{letter, word_byte, word_bytes, word_most, is_word}
use Rattle.words.proofs.Every.{every_by_all}

both : (t : Bool) {c d : Bool} → c ≡ d → elim t as (λ x. Bool) [ true ↦ c | false ↦ false ] ≡ (t && d)
both true e = e
both false e = refl

-- `==`
pub same_pointwise : (a b : List ℕ) → same a b ≡ pointwise eqb a b
unfolding same
same_pointwise [] [] = refl
same_pointwise [] (y ∷ b) = refl
same_pointwise (x ∷ a) [] = refl
same_pointwise (x ∷ a) (y ∷ b) = both (eqb x y) (same_pointwise a b)

-- What `==` says, written out byte by byte: the lengths, and `all` over the places. Of these are the bodies that the must-fail edits of
-- `same_bytes` plant, with one operand wrong, and the proof is held to them there.
same_every :
    (a b : List ℕ) → length a ≡ length b → same a b ≡ every (length a) (λ i. eqb (get_or a i 0) (get_or b i 0))
same_every a b e =
    tests_same _ _
    (λ t. every_all _ _ (λ i l. eq-eqb _ _ (ap (λ (s : List ℕ). get_or s i 0) (same_true a b t))))
    (λ t. same_all a b e (λ i l. eqb-true _ _ (every_true _ _ t i l)))

pub same_by_all :
    {F : Type 0} {g : Mut F (ℕ × Unit {0}) Bool} (a b : List ℕ) {f : F} {u : Range ℕ} {r : Bool}
    → length a ≡ length b
    → (xs : List ℕ) × (o : Option ℕ) × (j : F) × YieldsThen nat_range_steps (record { start = 0; end = length a }) xs o u
    × FoldsTo (λ p x q. Called g p (x, tt) true q) f xs j
    × MatchOption o (r ≡ true) (λ x. (r ≡ false) × ((h : F) × Called g j (x, tt) false h))
    → ((x : ℕ) (t : Bool) (q : F) → Called g f (x, tt) t q → (q ≡ f) × (t ≡ eqb (get_or a x 0) (get_or b x 0))) → r ≡ same a b
same_by_all {F} {g} a b {f} {u} {r} e ran calls =
    every_by_all {g = g} (length a) (λ i. eqb (get_or a i 0) (get_or b i 0)) f u r ran calls ∙ sym (same_every a b e)

pub same_unlike : (a b : List ℕ) → eqb (length a) (length b) ≡ false → same a b ≡ false
same_unlike a b f = same_lengths a b (λ e. absurd (false≢true (sym f ∙ eq-eqb _ _ e)))

-- `all`
pub word_bytes_list : (w : List ℕ) → word_bytes w ≡ list_all word_byte w
unfolding word_bytes
word_bytes_list [] = refl
word_bytes_list (b ∷ w) = ap (λ t. word_byte b && t) (word_bytes_list w)

-- `split_first`
pub is_word_none : (w : List ℕ) → length w ≡ 0 → is_word w ≡ false
unfolding is_word
is_word_none [] e = refl
is_word_none (b ∷ w) e = absurd (omega arith)

pub is_word_some : (w s : List ℕ) (b : ℕ) → w ≡ b ∷ s → is_word w ≡ (letter b && word_bytes s && leb (length w) word_most)
unfolding is_word
is_word_some w s b e = rw e

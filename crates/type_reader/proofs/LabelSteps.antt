-- The labels of a choice so far, and where the machine goes from a label and from what stands behind one.
-- Assumes nothing.
use mathlib.Core.Bool.{true, false, false≢true}
use mathlib.Core.List.{List, [], ◌∷◌}
use mathlib.Core.Path.{◌≡◌, refl, sym, ap, ap₂, ◌∙◌}
use mathlib.Mathlib.Data.Bool.Basic.{Bool-eq-false}
use Prim.Native.Char.{code}
use Prim.Native.Nat.{ℕ, zero, suc, ◌+◌, ◌*◌, ◌<◌, ◌≤◌}
use native.Mathlib.Decide.{dec_lt}
use native.Mathlib.Omega.{arith}
use lib.ListN.{length, get_or}
use Rattle.rules.specs.Basics.{part, same, first}
use Rattle.rules.specs.Tokens.{Token, Symbol, word, reserved_word, one_byte}
use Rattle.rules.specs.Refusals.{a_label, one_of, among}
use Rattle.rules.proofs.Basics.{same_true, same_refl, some_below_true, some_below_at}
use Rattle.rules.proofs.Machine.{this, a_type, more_labels, Stack, on, stuck, look, step}
use Rattle.rules.proofs.Machine as expect
use Rattle.rules.proofs.OneToken.{next_symbol}
use Rattle.flat.specs.Flat.{row, word_of, words_of}
use Rattle.type_reader.proofs.Begins.{look-past, no-row}
use Rattle.type_reader.proofs.Signs.{Plain}

same_back : (a b : List ℕ) → same a b ≡ true → same b a ≡ true
same_back a b e = rw (same_true a b e) (same_refl b)

-- one word more in front
among_here : (v : List ℕ) (ws : List (List ℕ)) (w : List ℕ) → same v w ≡ true → among (v ∷ ws) w ≡ true
unfolding among
among_here v ws w e = some_below_at (suc (length ws)) (λ i. same w (get_or (v ∷ ws) i [])) 0 (omega arith) (same_back v w e)

among_later : (v : List ℕ) (ws : List (List ℕ)) (w : List ℕ) → among ws w ≡ true → among (v ∷ ws) w ≡ true
unfolding among
among_later v ws w e =
    let (i, l, h) = some_below_true (length ws) (λ i. same w (get_or ws i [])) e in
    some_below_at (suc (length ws)) (λ i. same w (get_or (v ∷ ws) i [])) (suc i) (omega arith) h

among_split : (v : List ℕ) (ws : List (List ℕ)) (w : List ℕ) → same v w ≡ false → among ws w ≡ false → among (v ∷ ws) w ≡ false
unfolding among
among_split v ws w e f = Bool-eq-false (λ h. go (some_below_true (suc (length ws)) (λ i. same w (get_or (v ∷ ws) i [])) h))
  where
    at : (i : ℕ) → i < suc (length ws) → same w (get_or (v ∷ ws) i []) ≡ true → ⊥
    at zero l h = false≢true (sym e ∙ same_back w v h)
    at (suc i) l h = false≢true (sym f ∙ some_below_at (length ws) (λ i. same w (get_or ws i [])) i (omega arith) h)

    go : ((i : ℕ) × (i < suc (length ws)) × (same w (get_or (v ∷ ws) i []) ≡ true)) → ⊥
    go (i, l, h) = at i l h

among_none : (w : List ℕ) → among [] w ≡ false
unfolding among first
among_none w = refl

module _ (s a : List ℕ) (i : ℕ) (w : List ℕ) where
  pub among_words : (n j : ℕ) → j < n → same (word_of s a i j) w ≡ true → among (words_of s a i n) w ≡ true
  among_words zero j l e = absurd (omega arith)
  among_words (suc n) j l e = go (among_words n j) (dec_lt j n)
    where
      go : (j < n → same (word_of s a i j) w ≡ true → among (words_of s a i n) w ≡ true) → Dec (j < n) → among (words_of s a i (suc n)) w ≡ true
      go again (yes q) = among_later (word_of s a i n) (words_of s a i n) w (again q e)
      go again (no q) = let z : j ≡ n = omega arith in among_here (word_of s a i n) (words_of s a i n) w (rw (← z) e)

  pub among-no_words : (n : ℕ) → ((j : ℕ) → j < n → same (word_of s a i j) w ≡ false) → among (words_of s a i n) w ≡ false
  among-no_words zero f = among_none w
  among-no_words (suc n) f = among_split (word_of s a i n) (words_of s a i n) w (f n (omega arith)) (among-no_words n (λ j l. f j (omega arith)))

pub words_long : (s a : List ℕ) (i n : ℕ) → length (words_of s a i n) ≡ n
words_long s a i zero = refl
words_long s a i (suc n) = ap suc (words_long s a i n)

-- the words of rows that stay
pub words_same :
    (s a b : List ℕ) (i n : ℕ) → ((j : ℕ) → i ≤ j → j < i + n * row → get_or b j 0 ≡ get_or a j 0) → words_of s b i n ≡ words_of s a i n
words_same s a b i zero f = refl
words_same s a b i (suc n) f =
    ap₂ (λ v ws. v ∷ ws) (ap₂ (λ p q. part s p q) (f (i + n * row) (omega arith) (omega arith)) (f (i + n * row + 1) (omega arith) (omega arith)))
    (words_same s a b i n (λ j l m. f j l (omega arith)))

-- where a label leads
pub label_leads : (K : Stack) (w : Token) → step (expect.a_label ∷ K) (word w) ≡ on (this (code ":") ∷ a_type ∷ more_labels ∷ K)
unfolding step
label_leads K w = refl

pub label-stuck : (K : Stack) (y : Symbol) → ((w : Token) → y ≡ word w → ⊥) → step (expect.a_label ∷ K) y ≡ stuck
unfolding step
label-stuck K (word w) n = absurd (n w refl)
label-stuck K (reserved_word i) n = no-row i
label-stuck K (one_byte b) n = no-row b

pub more_closes : (K : Stack) → step (more_labels ∷ K) (one_byte (code "}")) ≡ on K
unfolding step look
more_closes K = refl

pub more_bar : (K : Stack) → step (more_labels ∷ K) (one_byte (code "|")) ≡ on (expect.a_label ∷ K)
unfolding step look
more_bar K = refl

pub more_stuck : (K : Stack) (y : Symbol) → (y ≡ one_byte (code "}") → ⊥) → (y ≡ one_byte (code "|") → ⊥) → step (more_labels ∷ K) y ≡ stuck
unfolding step
more_stuck K (word w) n m = refl
more_stuck K (reserved_word i) n m = no-row i
more_stuck K (one_byte b) n m = look-past b (code "|") _ _ (λ q. m (ap one_byte q)) (look-past b (code "}") K [] (λ q. n (ap one_byte q)) (no-row b))

pub bar : Plain (code "|")
unfolding one_of first
bar = record { byte = omega arith; no_opening = refl; no_closing = refl; no_node = refl }

pub bar_next : next_symbol (one_byte (code "|")) ≡ a_label
unfolding one_of first
bar_next = refl

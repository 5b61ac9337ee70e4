-- What an input holds behind its first 8,194 bytes makes no difference to the printed line, so that code need keep no more of it:
-- where that cuts a text, the text is too long with what is cut off and without it.
-- Assumes nothing.
use mathlib.Core.List.{List, [], ◌∷◌}
use mathlib.Core.Logic.{◌⊎◌, inl, inr, ◌↔◌}
use mathlib.Core.Path.{◌≡◌, refl, sym, ap, ◌∙◌}
use Prim.Native.Nat.{ℕ, zero, suc, ◌+◌, ◌-◌, ◌*◌, ◌<◌, ◌≤◌}
use native.Mathlib.Decide.{dec_lt, ℕ_discrete}
use native.Mathlib.Omega.{arith}
use lib.ListN.{length, take}
use lib.Seq.{take_all, take-nil, length-take-le}
use Rattle.rules.specs.Numbers.{text_most}
use Rattle.rules.specs.Replies.{Areas, Reads, made}
use Rattle.rules.specs.Line.{Answers, Prints, first_text, second_text}
use Rattle.table.specs.declared.answers.Question.{Question}
use Rattle.rules.specs.Line as line
use Rattle.rules.specs.computed.Line.{printed}
use Rattle.rules.proofs.Agreement.{reads_long}
use Rattle.rules.proofs.LineAgreement.{prints_printed, printed_exactly}
use Rattle.rules.proofs.OneLine.{not_refused}
use Rattle.rules.proofs.OneReading.{one_reading}
use Rattle.rules.proofs.Split.{first_ends, second_begins, first_goes_on, second_behind}
use Rattle.table.specs.declared.Table.{Table}
use Rattle.table.specs.declared.answers.Made.{Made}

-- a first text of 4,096 bytes, the byte 0, a second text of 4,096 bytes, and one byte more that shows a text to be too long
abbrev pub input_most : ℕ
input_most = 8194

-- Texts that are equal, or too long both.
abbrev Alike : List ℕ → List ℕ → Type 0
Alike a b = (a ≡ b) ⊎ ((text_most < length a) × (text_most < length b))

alike_sym : {a b : List ℕ} → Alike a b → Alike b a
alike_sym (inl e) = inl (sym e)
alike_sym (inr (l, m)) = inr (m, l)

alike_short : {a b : List ℕ} → Alike a b → length b ≤ text_most → length a ≤ text_most
alike_short (inl e) l = rw e l
alike_short (inr (k, m)) l = absurd (omega arith)

-- they have one reading
alike_reads : {a b : List ℕ} {m : Made} → Alike a b → Reads a m → Reads b m
alike_reads (inl e) r = rw e at r
alike_reads (inr (l, k)) r = rw (one_reading r (reads_long l)) (reads_long k)

-- and a text that has a table is not too long
read_short : {s : List ℕ} {t : Table} → Reads s (made t) → length s ≤ text_most
read_short {s} r = let long : text_most < length s → ⊥ = λ l. not_refused r (reads_long l) in omega arith

alike_made : {a b : List ℕ} {t : Table} → Alike a b → Reads a (made t) → a ≡ b
alike_made (inl e) r = e
alike_made (inr (l, k)) r = absurd (not_refused r (reads_long l))

answers_alike :
    {q : Question} {new new' old old' : List ℕ} {before after : Areas} {l : List ℕ} → Alike new new'
    → (length new ≤ text_most → Alike old old') → Answers q new old before after l → Answers q new' old' before after l
answers_alike a b (line.first_refused r e) = line.first_refused (alike_reads a r) e
answers_alike a b (line.second_refused r s e) = line.second_refused (alike_reads a r) (alike_reads (b (read_short r)) s) e
answers_alike a b (line.yes r s R) =
    let d = alike_made a r in
    let e = alike_made (b (read_short r)) s in
    rw (← d, ← e) (line.yes r s R)
answers_alike a b (line.no r s R) =
    let d = alike_made a r in
    let e = alike_made (b (read_short r)) s in
    rw (← d, ← e) (line.no r s R)

-- Where an input is cut behind k bytes: inside its first text, or behind the byte 0.
data Cut (s : List ℕ) (k : ℕ) : Type 0 where
  in_first : k ≤ length (first_text s) → length (first_text (take k s)) ≡ k → Cut s k
  in_second :
      length (first_text s) < k → first_text (take k s) ≡ first_text s
      → second_text (take k s) ≡ take (k - suc (length (first_text s))) (second_text s) → Cut s k

cut_on : (b : ℕ) (s : List ℕ) (k : ℕ) → (b ≡ 0 → ⊥) → Cut s k → Cut (b ∷ s) (suc k)
cut_on b s k f (in_first l e) =
    in_first (rw (first_goes_on b s f) (omega arith)) (rw (first_goes_on b (take k s) f) (omega arith))
cut_on b s k f (in_second l d e) =
    let n : suc k - suc (suc (length (first_text s))) ≡ k - suc (length (first_text s)) = omega arith in
    in_second
    (rw (first_goes_on b s f) (omega arith))
    (first_goes_on b (take k s) f ∙ ap (λ (t : List ℕ). b ∷ t) d ∙ sym (first_goes_on b s f))
    (second_behind b (take k s) f ∙ e ∙ (rw (first_goes_on b s f, n, second_behind b s f)))

cut : (s : List ℕ) (k : ℕ) → Cut s k
unfolding first_text second_text
cut [] zero = in_first (omega arith) (omega arith)
cut [] (suc k) = in_second (omega arith) refl (sym (take-nil (suc k - 1)))
cut (b ∷ s) zero = in_first (omega arith) (omega arith)
cut (b ∷ s) (suc k) = go (ℕ_discrete b 0) (cut s k)
  where
    go : Dec (b ≡ 0) → Cut s k → Cut (b ∷ s) (suc k)
    go (yes e) c =
        let n : suc k - 1 ≡ k = omega arith in
        in_second
        (rw (first_ends b s e) (omega arith))
        (first_ends b (take k s) e ∙ sym (first_ends b s e))
        (second_begins b (take k s) e ∙ (rw (first_ends b s e, n, second_begins b s e)))
    go (no f) c = cut_on b s k f c

-- a text cut behind more than 4,096 bytes
take_alike : (s : List ℕ) (k : ℕ) → text_most < k → Alike s (take k s)
take_alike s k l = go (dec_lt k (length s))
  where
    go : Dec (k < length s) → Alike s (take k s)
    go (yes m) = inr (omega arith, omega (arith, length-take-le k s (omega arith)))
    go (no m) = inl (sym (take_all k s (omega arith)))

module _ (s : List ℕ) (k : ℕ) (l : 2 * text_most + 2 ≤ k) where
  first_alike : Alike (first_text s) (first_text (take k s))
  first_alike = go (cut s k)
    where
      go : Cut s k → Alike (first_text s) (first_text (take k s))
      go (in_first m e) = inr (omega arith, omega arith)
      go (in_second m d e) = inl (sym d)

  second_alike : length (first_text s) ≤ text_most → Alike (second_text s) (second_text (take k s))
  second_alike h = go (cut s k)
    where
      go : Cut s k → Alike (second_text s) (second_text (take k s))
      go (in_first m e) = absurd (omega arith)
      go (in_second m d e) = rw e (take_alike (second_text s) (k - suc (length (first_text s))) (omega arith))

  pub front_prints : (q : Question) (l : List ℕ) → Prints q s l ↔ Prints q (take k s) l
  front_prints q l = (
    λ P. record { before = P.before; after = P.after; answers = answers_alike first_alike second_alike P.answers },
    λ P.
        record {
          before = P.before;
          after = P.after;
          answers = answers_alike (alike_sym first_alike) (λ h. alike_sym (second_alike (alike_short first_alike h))) P.answers;
        },
  )

pub first_bytes : (q : Question) (input l : List ℕ) → Prints q input l ↔ Prints q (take input_most input) l
first_bytes q input l = front_prints input input_most (omega arith) q l

pub printed_first : (q : Question) (input : List ℕ) → printed q input ≡ printed q (take input_most input)
printed_first q input =
    let P = (first_bytes q input (printed q input)).0 (prints_printed q input) in
    (printed_exactly q (take input_most input) (printed q input)).0 P

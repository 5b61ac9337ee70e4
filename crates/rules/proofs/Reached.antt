-- How far a reader has got in a text: to the tokens `rest`, with what is expected there and what has been counted before them; and,
-- by where it stops, which refusal of the text goes first.
-- Assumes nothing.
use mathlib.Core.List.{List, [], ◌∷◌, ◌++◌, append_assoc, append-nil}
use mathlib.Core.Logic.{◌⊎◌, inl, inr}
use mathlib.Core.Option.{none, some, none-ne-some}
use mathlib.Core.Path.{◌≡◌, refl, sym, ap, ◌∙◌}
use Prim.Native.Nat.{ℕ, ◌<◌, ◌≤◌}
use native.Mathlib.Omega.{arith}
use lib.ListN.{length}
use Rattle.rules.specs.Tokens.{Token, tokens, symbol, symbols}
use Rattle.rules.specs.Notation.{Text, Writes}
use Rattle.rules.specs.Numbers.{text_most}
use Rattle.rules.specs.Refusals.{Could, Stands, TokenFault, Fault, long_text, no_text_has, none_may_end, at_token, undefined_name, round_name, GoesFirst, Seen, unseen, seen_after, seen_from, seen, unexpected, name_twice}
use Rattle.rules.specs.Replies.{Reads, refuses, refused}
use Rattle.rules.specs.computed.Reading.{token_fault, place}
use Rattle.rules.proofs.Machine.{Expect, Stack, on, stuck, start, step, run}
use Rattle.rules.proofs.Refusals.{group_middle, group_late, token_fault_declared, token_fault-lowest}
use Rattle.rules.proofs.TokenLists.{token_place, same_place, later_place}
use Rattle.rules.proofs.Viable.{never}
use Rattle.rules.proofs.Unexpected.{taken_front, could_exactly, taken_one, token_numbers, unexpected_token, unexpected_end, taken_text}
use Rattle.rules.specs.Refusals.{number}
use Rattle.table.specs.declared.answers.RefusalKind.{RefusalKind}

-- that no token is refused with 3 to 7
abbrev pub Clear : Seen → List Token → Type 0
Clear z [] = Unit {0}
Clear z (t ∷ ts) = (token_fault z t ≡ none) × Clear (seen_after z t) ts

pub record Reached (s : List ℕ) (rest : List Token) (K : Stack) (z : Seen) : Type 0 where
  pub done : List Token
  pub split : tokens s ≡ done ++ rest
  pub ran : run start (symbols done) ≡ on K
  pub clear : Clear unseen done
  pub counted : seen done ≡ z

-- that the text s is refused with n at p: it applies, and none goes before it
pub record Refuses (s : List ℕ) (n p : ℕ) : Type 0 where
  pub applies : Fault s n p
  pub first : (m q : ℕ) → Fault s m q → GoesFirst m q n p → ⊥

-- What is counted, and that no token is refused, token by token.
pub seen-append : (z : Seen) (a b : List Token) → seen_from z (a ++ b) ≡ seen_from (seen_from z a) b
unfolding seen_from
seen-append z [] b = refl
seen-append z (t ∷ a) b = seen-append (seen_after z t) a b

pub clear_append : (z : Seen) (a b : List Token) → Clear z a → Clear (seen_from z a) b → Clear z (a ++ b)
unfolding seen_from
clear_append z [] b p q = q
clear_append z (t ∷ a) b p q = (p.0, clear_append (seen_after z t) a b p.1 q)

pub clear_at : (z : Seen) (a b : List Token) (t : Token) → Clear z (a ++ (t ∷ b)) → token_fault (seen_from z a) t ≡ none
unfolding seen_from
clear_at z [] b t p = p.0
clear_at z (d ∷ a) b t p = clear_at (seen_after z d) a b t p.1

-- The beginning, and one token more.
pub reached_start : (s : List ℕ) → Reached s (tokens s) start unseen
unfolding run seen_from
reached_start s = record { done = []; split = refl; ran = refl; clear = tt; counted = refl }

pub reached_on :
    {s : List ℕ} {ts : List Token} {t : Token} {K J : Stack} {z : Seen} → Reached s (t ∷ ts) K z → step K (symbol t) ≡ on J
    → token_fault z t ≡ none → Reached s ts J (seen_after z t)
unfolding seen_from
reached_on {ts} {t} {K} {J} {z} R e f =
    record {
      done = R.done ++ (t ∷ []);
      split = R.split ∙ sym (append_assoc R.done (t ∷ []) ts);
      ran = taken_one R.done t K J R.ran e;
      clear = clear_append unseen R.done (t ∷ []) R.clear (rw R.counted (f, tt));
      counted = seen-append unseen R.done (t ∷ []) ∙ ap (λ (y : Seen). seen_after y t) R.counted;
    }

-- Of 2 to 7 "the least place, and at one place the lowest number" goes first; 8 and 9 do not go before them.
middle_first :
    (m q n p : ℕ) → unexpected ≤ m → m ≤ name_twice → unexpected ≤ n → n ≤ name_twice → GoesFirst m q n p
    → (q < p) ⊎ ((q ≡ p) × (m < n))
middle_first m q n p a b c d (inl l) = absurd (omega (arith, group_middle m a b, group_middle n c d))
middle_first m q n p a b c d (inr (e, h)) = h

late_not_first : (m q n p : ℕ) → name_twice < m → unexpected ≤ n → n ≤ name_twice → GoesFirst m q n p → ⊥
late_not_first m q n p a c d (inl l) = omega (arith, group_late m a, group_middle n c d)
late_not_first m q n p a c d (inr (e, h)) = omega (arith, group_late m a, group_middle n c d)

-- Where a reader has got to, no token before is refused.
module _ {s : List ℕ} {rest : List Token} {K : Stack} {z : Seen} (R : Reached s rest K z) where
  -- a token with a lesser place is done
  earlier_done : {a : List Token} {u : Token} → Stands s a u → u.at < place (length s) rest → (e : List Token) × (R.done ≡ a ++ (u ∷ e))
  earlier_done {a} {u} S l = go rest R.split l
    where
      go : (rest : List Token) → tokens s ≡ R.done ++ rest → u.at < place (length s) rest → (e : List Token) × (R.done ≡ a ++ (u ∷ e))
      go [] e l = (S.rest, sym (append-nil R.done) ∙ sym e ∙ S.split)
      go (t ∷ ts) e l = let (b, x, y) = later_place s a S.rest R.done ts u t S.split e l in (b, x)

  earlier_could : {a : List Token} {u : Token} → Stands s a u → u.at < place (length s) rest → Could (a ++ (u ∷ []))
  earlier_could {a} {u} S l =
      let (b, x) = earlier_done S l in
      let y : R.done ≡ (a ++ (u ∷ [])) ++ b = x ∙ sym (append_assoc a (u ∷ []) b) in
      (could_exactly s (a ++ (u ∷ [])) S.rest (S.split ∙ sym (append_assoc a (u ∷ []) S.rest))).1
      (taken_front (a ++ (u ∷ [])) b K (rw y at R.ran))

  earlier_clear : {a : List Token} {u : Token} {m : ℕ} → Stands s a u → u.at < place (length s) rest → TokenFault (seen a) u m → ⊥
  earlier_clear {a} {u} {m} S l f =
      let (b, x) = earlier_done S l in
      let (n, y, o) = token_fault-lowest (seen a) u m f in
      none-ne-some n (sym (clear_at unseen a b u (rw x at R.clear)) ∙ y)

  place_within : place (length s) rest ≤ length s
  place_within = go rest R.split
    where
      go : (rest : List Token) → tokens s ≡ R.done ++ rest → place (length s) rest ≤ length s
      go [] e = omega arith
      go (t ∷ ts) e = omega (arith, token_place s R.done ts t e)

  -- So a refusal of 2 to 7 that applies here goes first, unless one with a lower number applies here.
  module _ (short : length s ≤ text_most) (n : ℕ) (c : unexpected ≤ n) (d : n ≤ name_twice) where
    abbrev NoneLower : Type 0
    NoneLower = (m q : ℕ) → Fault s m q → q ≡ place (length s) rest → unexpected ≤ m → m < n → ⊥

    none_before : NoneLower → (m q : ℕ) → Fault s m q → GoesFirst m q n (place (length s) rest) → ⊥
    none_before g m q (long_text l) h = omega arith
    none_before g m q (no_text_has {done = a} {t = u} S b f) h =
        elim (middle_first m q n (place (length s) rest) (omega arith) (omega arith) c d h) [
          | inl l ↦ f (earlier_could S l)
          | inr (e, l) ↦ g m q (no_text_has S b f) e (omega arith) l
        ]
    none_before g m q (none_may_end b f) h =
        elim (middle_first m q n (place (length s) rest) (omega arith) (omega arith) c d h) [
          | inl l ↦ omega (arith, place_within)
          | inr (e, l) ↦ g m q (none_may_end b f) e (omega arith) l
        ]
    none_before g m q (at_token S f) h =
        let (a, b) = token_numbers f in
        elim (middle_first m q n (place (length s) rest) (omega arith) b c d h) [
          | inl l ↦ earlier_clear S l f
          | inr (e, l) ↦ g m q (at_token S f) e (omega arith) l
        ]
    none_before g m q (undefined_name w u e) h = late_not_first m q n (place (length s) rest) (omega arith) c d h
    none_before g m q (round_name w u e) h = late_not_first m q n (place (length s) rest) (omega arith) c d h

    refused_here : Fault s n (place (length s) rest) → NoneLower → Refuses s n (place (length s) rest)
    refused_here f g = record { applies = f; first = none_before g }

-- the token that comes next
next_stands : {s : List ℕ} {ts : List Token} {t : Token} {K : Stack} {z : Seen} (R : Reached s (t ∷ ts) K z) → Stands s R.done t
next_stands {ts} R = record { rest = ts; split = R.split }

-- a token at which the machine is stuck
pub reached_stuck :
    {s : List ℕ} {ts : List Token} {t : Token} {K : Stack} {z : Seen} → length s ≤ text_most → Reached s (t ∷ ts) K z
    → step K (symbol t) ≡ stuck → Refuses s unexpected t.at
reached_stuck {K} short R e =
    refused_here R short unexpected (omega arith) (omega arith) ((unexpected_token (next_stands R)).1 (K, R.ran, e))
    (λ m q f p l b. omega arith)

-- all tokens done
all_done : {s : List ℕ} {K : Stack} {z : Seen} (R : Reached s [] K z) → R.done ≡ tokens s
all_done R = sym (append-nil R.done) ∙ sym R.split

-- the end of the text where something is expected
pub reached_end :
    {s : List ℕ} {e : Expect} {K : Stack} {z : Seen} → length s ≤ text_most → Reached s [] (e ∷ K) z → Refuses s unexpected (length s)
reached_end {s} {e} {K} short R =
    refused_here R short unexpected (omega arith) (omega arith) ((unexpected_end s).1 (e, K, rw (all_done R) at R.ran))
    (λ m q f p l b. omega arith)

-- a token that a text could have there, refused with 3 to 7
module _ {s : List ℕ} {ts : List Token} {t : Token} {K J : Stack} {z : Seen} {n : RefusalKind} (R : Reached s (t ∷ ts) K z) (e : step K (symbol t) ≡ on J) (f : token_fault z t ≡ some n) where
  not_unexpected : Fault s unexpected t.at → ⊥
  not_unexpected h =
      let (L, r, w) = (unexpected_token (next_stands R)).0 h in
      let y : L ≡ K = cc in
      never (rw y at w) e

  token_lowest : {d : List Token} {u : Token} {m : ℕ} → Stands s d u → u.at ≡ t.at → TokenFault (seen d) u m → number n ≤ m
  token_lowest {d} {u} {m} S p g =
      let (x, y, w) = same_place s d S.rest R.done ts u t S.split R.split p in
      let (k, v, l) = token_fault-lowest z t m (rw (x, y, R.counted) at g) in
      let i : k ≡ n = cc in
      let j : number k ≡ number n = ap number i in
      omega arith

  none_lower : number n ≤ name_twice → (m q : ℕ) → Fault s m q → q ≡ t.at → unexpected ≤ m → m < number n → ⊥
  none_lower c m q (long_text l) p a b = omega arith
  none_lower c m q (no_text_has S x g) p a b = not_unexpected (rw p at (no_text_has S x g))
  none_lower c m q (none_may_end x g) p a b = omega (arith, token_place s R.done ts t R.split)
  none_lower c m q (at_token S g) p a b = omega (arith, token_lowest S p g)
  none_lower c m q (undefined_name w u d) p a b = omega arith
  none_lower c m q (round_name w u d) p a b = omega arith

pub reached_fault :
    {s : List ℕ} {ts : List Token} {t : Token} {K J : Stack} {z : Seen} {n : RefusalKind} → length s ≤ text_most → Reached s (t ∷ ts) K z
    → step K (symbol t) ≡ on J → token_fault z t ≡ some n → Refuses s (number n) t.at
reached_fault {t} {z} {n} short R e f =
    let g = token_fault_declared z t n f in
    let (a, b) = token_numbers g in
    refused_here R short (number n) (omega arith) b (at_token (next_stands R) (rw R.counted g)) (none_lower R e f b)

-- the end of the text where nothing is expected
pub reached_text : {s : List ℕ} {z : Seen} → Reached s [] [] z → ((x : Text) × Writes s x) × Clear unseen (tokens s)
reached_text {s} R = (taken_text s (rw (all_done R) at R.ran), rw (all_done R) at R.clear)

-- a reply to a text so refused
pub refuses_reads : {s : List ℕ} {k : RefusalKind} {p : ℕ} → Refuses s (number k) p → Reads s (refused k p)
refuses_reads r = refuses r.applies r.first

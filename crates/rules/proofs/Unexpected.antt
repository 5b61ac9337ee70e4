-- Refusal 2 by the machine: it stands at a token exactly if the machine takes the tokens before it and is stuck there, and at the end of a
-- text exactly if the machine takes all the tokens and still expects something.
-- Assumes nothing.
use mathlib.Core.List.{List, [], ◌∷◌, ◌++◌, append_assoc, append-nil}
use mathlib.Core.Logic.{◌↔◌}
use mathlib.Core.Path.{◌≡◌, refl, sym, ◌∙◌}
use Prim.Native.Nat.{ℕ, ◌≤◌}
use native.Mathlib.Omega.{arith}
use lib.ListN.{length}
use Rattle.rules.specs.Tokens.{Token, symbol, symbols, tokens}
use Rattle.rules.specs.Notation.{Text, Writes}
use Rattle.rules.specs.Refusals.{Could, Stands, Seen, TokenFault, long_word, open_bracket, definition_more, node_more, label_more, item_more, same_label, same_name, Fault, long_text, no_text_has, none_may_end, at_token, undefined_name, round_name, unexpected, word_too_long, name_twice}
use Rattle.rules.proofs.Machine.{Expect, Stack, Next, on, stuck, step, run, start}
use Rattle.rules.proofs.TokenLists.{token_place, same_place}
use Rattle.rules.proofs.Viable.{run_front, run_behind, symbols-append, text_is, is_text, could, could_not}

-- the machine takes all the tokens ts
abbrev pub RunsThrough : List Token → Type 0
RunsThrough ts = (K : Stack) × (run start (symbols ts) ≡ on K)

-- it takes those before t and is stuck at t
abbrev pub StuckAt : List Token → Token → Type 0
StuckAt done t = (K : Stack) × (run start (symbols done) ≡ on K) × (step K (symbol t) ≡ stuck)

-- it takes all the tokens of s and still expects something
abbrev pub StillExpects : List ℕ → Type 0
StillExpects s = (e : Expect) × (K : Stack) × (run start (symbols (tokens s)) ≡ on (e ∷ K))

-- it takes what some text has first
pub taken_front : (ts us : List Token) (J : Stack) → run start (symbols (ts ++ us)) ≡ on J → RunsThrough ts
taken_front ts us J h = let (L, p, q) = run_front (symbols ts) (symbols us) start J (rw (symbols-append ts us) at h) in (L, p)

could_taken : (ts : List Token) → Could ts → RunsThrough ts
could_taken ts c =
    taken_front ts c.more [] (rw c.begins at (text_is (symbols (tokens c.text)) c.tree c.writes.written))

-- Of the tokens that a text s begins with: some text has them first exactly if the machine takes them.
pub could_exactly : (s : List ℕ) (done rest : List Token) → tokens s ≡ done ++ rest → Could done ↔ RunsThrough done
could_exactly s done rest e = (could_taken done, λ (K, h). could s done rest K e h)

-- one token more
pub taken_one : (done : List Token) (t : Token) (K J : Stack) → run start (symbols done) ≡ on K → step K (symbol t) ≡ on J → run start (symbols (done ++ (t ∷ []))) ≡ on J
unfolding run
taken_one done t K J h e = run_behind done (t ∷ []) K h ∙ rw (run, e) refl

module _ {s : List ℕ} {done : List Token} {t : Token} (S : Stands s done t) where
  -- the token t can be taken too
  could_one : (K J : Stack) → run start (symbols done) ≡ on K → step K (symbol t) ≡ on J → Could (done ++ (t ∷ []))
  could_one K J h e =
      could s (done ++ (t ∷ [])) S.rest J (S.split ∙ sym (append_assoc done (t ∷ []) S.rest)) (taken_one done t K J h e)

  -- t is the first token that no text could have there, exactly if the machine is stuck at it
  pub could_not_exactly : (Could done × (Could (done ++ (t ∷ [])) → ⊥)) ↔ StuckAt done t
  could_not_exactly = (there, λ (K, h, e). (could s done (t ∷ S.rest) K S.split h, could_not done t K h e))
    where
      there : Could done × (Could (done ++ (t ∷ [])) → ⊥) → StuckAt done t
      there (c, f) = let (K, h) = could_taken done c in go K h (step K (symbol t)) refl
        where
          go : (K : Stack) → run start (symbols done) ≡ on K → (n : Next) → step K (symbol t) ≡ n → StuckAt done t
          go K h (on J) e = absurd (f (could_one K J h e))
          go K h stuck e = (K, h, e)

-- the numbers that a token alone is refused with
pub token_numbers : {z : Seen} {t : Token} {n : ℕ} → TokenFault z t n → (word_too_long ≤ n) × (n ≤ name_twice)
token_numbers (long_word l) = (omega arith, omega arith)
token_numbers (open_bracket o l) = (omega arith, omega arith)
token_numbers (definition_more d l) = (omega arith, omega arith)
token_numbers (node_more d l) = (omega arith, omega arith)
token_numbers (label_more d l) = (omega arith, omega arith)
token_numbers (item_more d l) = (omega arith, omega arith)
token_numbers (same_label d l) = (omega arith, omega arith)
token_numbers (same_name d l) = (omega arith, omega arith)

-- Refusal 2 stands at a token exactly if the machine takes the tokens before it and is stuck there ..
module _ {s : List ℕ} {done : List Token} {t : Token} (S : Stands s done t) where
  stuck_there : {m q : ℕ} → Fault s m q → m ≡ unexpected → q ≡ t.at → StuckAt done t
  stuck_there (long_text l) e p = absurd (omega arith)
  stuck_there (no_text_has {done = a} {t = u} R c f) e p =
      let (x, y, z) = same_place s a R.rest done S.rest u t R.split S.split p in
      (could_not_exactly S).0 (rw x at c, rw (x, y) at f)
  stuck_there (none_may_end c f) e p = absurd (omega (arith, token_place s done S.rest t S.split))
  stuck_there (at_token R f) e p = absurd (omega (arith, (token_numbers f).0))
  stuck_there (undefined_name w u d) e p = absurd (omega arith)
  stuck_there (round_name w u d) e p = absurd (omega arith)

  pub unexpected_token : Fault s unexpected t.at ↔ StuckAt done t
  unexpected_token = (λ f. stuck_there f refl refl, λ k. let (c, f) = (could_not_exactly S).1 k in no_text_has S c f)

-- .. and at the end of a text exactly if the machine takes all the tokens and still expects something.
module _ (s : List ℕ) where
  all_there : tokens s ≡ tokens s ++ []
  all_there = sym (append-nil (tokens s))

  -- where it expects nothing, the text is one of the notation
  pub taken_text : run start (symbols (tokens s)) ≡ on [] → (x : Text) × Writes s x
  taken_text h = let (x, w) = is_text (symbols (tokens s)) h in (x, record { written = w })

  pub text_taken : (x : Text) → Writes s x → run start (symbols (tokens s)) ≡ on []
  text_taken x w = text_is (symbols (tokens s)) x w.written

  still_there : {m q : ℕ} → Fault s m q → m ≡ unexpected → q ≡ length s → StillExpects s
  still_there (long_text l) e p = absurd (omega arith)
  still_there (no_text_has {done} {t} S c f) e p = absurd (omega (arith, token_place s done S.rest t S.split))
  still_there (none_may_end c f) e p = let (K, h) = could_taken (tokens s) c in go K h
    where
      go : (K : Stack) → run start (symbols (tokens s)) ≡ on K → StillExpects s
      go [] h = let (x, w) = taken_text h in absurd (f x w)
      go (d ∷ K) h = (d, K, h)
  still_there (at_token S f) e p = absurd (omega (arith, (token_numbers f).0))
  still_there (undefined_name w u d) e p = absurd (omega arith)
  still_there (round_name w u d) e p = absurd (omega arith)

  no_text_ends : (e : Expect) (K : Stack) → run start (symbols (tokens s)) ≡ on (e ∷ K) → (x : Text) → Writes s x → ⊥
  no_text_ends e K h x w =
      let d : on [] ≡ on (e ∷ K) = sym (text_taken x w) ∙ h in
      let z : ◌≡◌ {A = ℕ} 0 1 = cc in
      omega arith

  pub unexpected_end : Fault s unexpected (length s) ↔ StillExpects s
  unexpected_end =
      (λ f. still_there f refl refl, λ (e, K, h). none_may_end (could s (tokens s) [] (e ∷ K) all_there h) (no_text_ends e K h))

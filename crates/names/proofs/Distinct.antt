-- No two definitions of a text whose tokens are all in order have one name; so a definition's name leads where it does. By going along the
-- tokens with the names that are counted before each definition.
-- Assumes nothing.
use mathlib.Core.Bool.{false, false≢true}
use mathlib.Core.List.{List, [], ◌∷◌, ◌++◌, nil≢cons}
use mathlib.Core.Option.{none, none-ne-some}
use mathlib.Core.Path.{◌≡◌, refl, sym, ◌∙◌}
use mathlib.Mathlib.Data.Bool.Basic.{Bool-eq-false}
use Prim.Native.Nat.{ℕ, suc, ◌<◌}
use native.Mathlib.Omega.{arith}
use lib.ListN.{length, get_or}
use Rattle.rules.specs.Basics.{same}
use Rattle.rules.specs.Tokens.{Token, Symbol, word, symbol, symbols, tokens}
use Rattle.rules.specs.Notation.{Ty, Text, last_definition, definition, sign, write_type, write_text, Writes}
use Rattle.rules.specs.Numbering.{behind, lead, definition_leads}
use Rattle.rules.specs.Refusals.{a_definition, Seen, unseen, seen_after, seen_from, among, name_twice, same_name}
use Rattle.rules.specs.computed.Reading.{token_fault}
use Rattle.rules.proofs.Basics.{same_refl, same_false, some_below_at}
use Rattle.rules.proofs.OneToken.{counted}
use Rattle.rules.proofs.Counting.{plain, after_word, after_equals, after_dot, type_some, type_takes}
use Rattle.rules.proofs.NamesInOrder.{symbol_word}
use Rattle.rules.proofs.Reached.{Clear}
use Rattle.rules.proofs.Refusals.{token_fault-lowest}
use Rattle.names.proofs.Definitions.{Row, the_last, the_first, later}

-- each definition's name is none of those before it, and none of ns
abbrev pub Fresh : Text → List (List ℕ) → Type 0
Fresh (last_definition w x) ns = among ns w.spelled ≡ false
Fresh (definition w x ds) ns = (among ns w.spelled ≡ false) × Fresh ds (w.spelled ∷ ns)

clear_rest : (z : Seen) (a b : List Token) → Clear z (a ++ b) → Clear (seen_from z a) b
unfolding seen_from
clear_rest z [] b c = c
clear_rest z (t ∷ a) b c = clear_rest (seen_after z t) a b c.1

-- a token that defines a name, and is not refused
new_name : (z : Seen) (t : Token) → token_fault z t ≡ none → z.next ≡ a_definition → among z.names t.spelled ≡ false
new_name z t e b =
    Bool-eq-false (λ f. let (m, g, l) = token_fault-lowest z t name_twice (same_name b f) in none-ne-some m (sym e ∙ g))

-- past one token
module _ {G : Type 0} where
  clear_one :
      (z : Seen) {a : Symbol} {j : List Symbol} (ts : List Token) → symbols ts ≡ a ∷ j → Clear z ts
      → ((t : Token) (rest : List Token) → symbol t ≡ a → symbols rest ≡ j → token_fault z t ≡ none → Clear (seen_after z t) rest → G) → G
  clear_one z [] e c g = absurd (nil≢cons e)
  clear_one z (t ∷ ts) e c g = g t ts (cc) (cc) c.0 c.1

  -- past a type that nothing is counted before but names
  clear_type :
      (ns : List (List ℕ)) (x : Ty) (k : List Symbol) (n : ℕ) (ts : List Token) → symbols ts ≡ write_type x k → Clear (plain ns n []) ts
      → ((rest : List Token) → symbols rest ≡ k → Clear (plain ns (behind x n) []) rest → G) → G
  clear_type ns x k n [] e c g = absurd (type_some x k e)
  clear_type ns x k n (t ∷ ts) e c g =
      let T = type_takes ns x t ts k n [] e in
      g T.rest T.written (rw T.counted at (clear_rest (seen_after (plain ns n []) t) T.taken T.rest (rw T.split at c.1)))

  -- past a definition
  clear_definition :
      (w : Token) (x : Ty) (ts : List Token) (k : List Symbol) (n : ℕ) (ns : List (List ℕ))
      → symbols ts ≡ word w ∷ sign "=" ∷ write_type x (sign "." ∷ k) → Clear (counted a_definition n ns []) ts
      → (among ns w.spelled ≡ false → (rest : List Token) → symbols rest ≡ k
      → Clear (counted a_definition (behind x n) (w.spelled ∷ ns) []) rest → G)
      → G
  clear_definition w x ts k n ns e c g =
      let z = counted a_definition n ns [] in
      let ms = w.spelled ∷ ns in
      clear_one z ts e c (λ t ts₁ p e₁ f c₁.
      clear_one (plain ms n []) ts₁ e₁ (rw (after_word z t w p, symbol_word t w p) at c₁) (λ o ts₂ q e₂ _ c₂.
      clear_type ms x (sign "." ∷ k) n ts₂ e₂ (rw (after_equals (plain ms n []) o q) at c₂) (λ ts₃ e₃ c₃.
      clear_one (plain ms (behind x n) []) ts₃ e₃ c₃ (λ u rest r e₄ _ c₄.
      g (rw (← symbol_word t w p) (new_name z t f refl)) rest e₄ (rw (after_dot (plain ms (behind x n) []) u r) at c₄)))))

names_fresh :
    (x : Text) (ts : List Token) (n : ℕ) (ns : List (List ℕ)) → symbols ts ≡ write_text x → Clear (counted a_definition n ns []) ts → Fresh x ns
names_fresh (last_definition w x) ts n ns e c = clear_definition w x ts [] n ns e c (λ f rest q r. f)
names_fresh (definition w x ds) ts n ns e c =
    clear_definition w x ts (write_text ds) n ns e c (λ f rest q r. (f, names_fresh ds rest (behind x n) (w.spelled ∷ ns) q r))

-- a definition's name is none of ns
not_among : (ns : List (List ℕ)) (v : List ℕ) → among ns v ≡ false → (i : ℕ) → i < length ns → same v (get_or ns i []) ≡ false
unfolding among
not_among ns v e i l =
    Bool-eq-false (λ h. false≢true (sym e ∙ some_below_at (length ns) (λ i. same v (get_or ns i [])) i l h))

fresh_row :
    {t : Text} {k u i : ℕ} {v : Token} {y : Ty} {j m : ℕ} (ns : List (List ℕ)) → Row t k u i v y j m → Fresh t ns
    → (e : ℕ) → e < length ns → same v.spelled (get_or ns e []) ≡ false
fresh_row {v} ns the_last F = not_among ns v.spelled F
fresh_row {v} ns the_first F = not_among ns v.spelled F.0
fresh_row ns (later {w} R) F = λ e l. fresh_row (w.spelled ∷ ns) R F.1 (suc e) (omega arith)

same_turned : (a b : List ℕ) → same a b ≡ false → same b a ≡ false
same_turned a b e = same_false b a (λ q. false≢true (sym e ∙ rw q (same_refl a)))

fresh_leads :
    {t : Text} {k u i : ℕ} {v : Token} {y : Ty} {j m : ℕ} (ns : List (List ℕ)) → Row t k u i v y j m → Fresh t ns
    → definition_leads t k v.spelled ≡ lead y j
unfolding definition_leads
fresh_leads {v} ns the_last F = rw (definition_leads, same_refl v.spelled) refl
fresh_leads {v} ns the_first F = rw (definition_leads, same_refl v.spelled) refl
fresh_leads {v} ns (later {w} R) F =
    rw (definition_leads, same_turned v.spelled w.spelled (fresh_row (w.spelled ∷ ns) R F.1 0 (omega arith)))
    (fresh_leads (w.spelled ∷ ns) R F.1)

pub own_leads :
    {s : List ℕ} {x : Text} {u i : ℕ} {v : Token} {y : Ty} {j m : ℕ} → Writes s x → Clear unseen (tokens s) → Row x 0 u i v y j m
    → definition_leads x 0 v.spelled ≡ lead y j
own_leads {s} {x} w c R = fresh_leads [] R (names_fresh x (tokens s) 0 [] (sym w.written) c)

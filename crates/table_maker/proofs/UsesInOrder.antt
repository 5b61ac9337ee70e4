-- The numbers of a text's uses are those of its list of used names.
-- Assumes nothing.
use mathlib.Core.List.{List, [], ◌∷◌, ◌++◌, append_assoc}
use mathlib.Core.Path.{◌≡◌, refl, sym, ◌∙◌}
use Prim.Native.Nat.{ℕ, ◌+◌}
use native.Mathlib.Omega.{arith}
use lib.ListN.{length, length-append}
use Rattle.rules.specs.Tokens.{Token}
use Rattle.rules.specs.Notation.{Ty, ended, name, message, choice, Items, no_items, sort, session, Labels, last_label, label, Text}
use Rattle.rules.specs.Refusals.{uses, uses_items, uses_labels, used_names}
use Rattle.flat.specs.Flat.{used, used_items, used_labels}

module _ (t : Text) where
  -- the names that the text uses from number u on are ts
  pub record UsesFrom (u : ℕ) (ts : List Token) : Type 0 where
    pub before : List Token
    pub split : used_names t ≡ before ++ ts
    pub count : length before ≡ u

  pub all_uses : UsesFrom 0 (used_names t)
  all_uses = record { before = []; split = refl; count = refl }

  past-name : (w : Token) (u : ℕ) (ts : List Token) → UsesFrom u (w ∷ ts) → UsesFrom (u + 1) ts
  past-name w u ts U =
      record {
        before = U.before ++ (w ∷ []);
        split = U.split ∙ sym (append_assoc U.before (w ∷ []) ts);
        count = omega (arith, length-append U.before (w ∷ []), U.count);
      }

  -- past a tree
  mutual
    pub past_type : (x : Ty) (u : ℕ) (ts : List Token) → UsesFrom u (uses x ts) → UsesFrom (used x u) ts
    past_type ended u ts U = U
    past_type (name w) u ts U = past-name w u ts U
    past_type (message d xs x) u ts U = past_type x (used_items xs u) ts (past_items xs u (uses x ts) U)
    past_type (choice d ls) u ts U = past_labels ls u ts U

    pub past_items : (xs : Items) (u : ℕ) (ts : List Token) → UsesFrom u (uses_items xs ts) → UsesFrom (used_items xs u) ts
    past_items no_items u ts U = U
    past_items (sort s xs) u ts U = past_items xs u ts U
    past_items (session x xs) u ts U = past_items xs (used x u) ts (past_type x u (uses_items xs ts) U)

    past_labels : (ls : Labels) (u : ℕ) (ts : List Token) → UsesFrom u (uses_labels ls ts) → UsesFrom (used_labels ls u) ts
    past_labels (last_label w x) u ts U = past_type x u ts U
    past_labels (label w x ls) u ts U = past_labels ls (used x u) ts (past_type x u (uses_labels ls ts) U)

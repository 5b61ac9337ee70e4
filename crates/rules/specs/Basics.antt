-- Words of everyday mathematics that the definitions of document 01 are written in. No sentence of the document is said here.
-- Assumes nothing.
use Rattle.std.specs.Prelude.{Bool, true, false, List, [], ◌∷◌, ◌++◌, ℕ, zero, suc, ◌-◌, eqb, ltb, length, replicate, take, drop}
use Prim.Native.Char.{code}
use Prim.Native.String.{String}
use Prim.Native.String as quoted

-- the bytes of a quoted text (of ASCII characters)
abbrev pub bytes : String → List ℕ
bytes quoted.[] = []
bytes (quoted.◌∷◌ c s) = code c ∷ bytes s

-- the n bytes that stand at `at`
abbrev pub part : List ℕ → ℕ → ℕ → List ℕ
part s at n = take n (drop at s)

-- whether two lists of bytes are the same
unfoldable pub same : List ℕ → List ℕ → Bool
same [] [] = true
same [] (b ∷ v) = false
same (a ∷ u) [] = false
same (a ∷ u) (b ∷ v) = elim (eqb a b) [ true ↦ same u v | false ↦ false ]

-- whether every position below n passes the test
unfoldable pub every : ℕ → (ℕ → Bool) → Bool
every zero p = true
every (suc n) p = elim (p n) [ true ↦ every n p | false ↦ false ]

-- the first position below n that passes the test; n where none does
unfoldable pub first : ℕ → (ℕ → Bool) → ℕ
first zero p = zero
first (suc n) p = elim (p zero) [ true ↦ zero | false ↦ suc (first n (λ i. p (suc i))) ]

-- whether some position below n passes the test
abbrev pub some_below : ℕ → (ℕ → Bool) → Bool
some_below n p = ltb (first n p) n

-- f at 0, 1 and so on, n of them
unfoldable pub listed : {A : Type 0} → ℕ → (ℕ → A) → List A
listed zero f = []
listed (suc n) f = f zero ∷ listed n (λ i. f (suc i))

-- a list made n long with d behind it
abbrev pub fill : {A : Type 0} → ℕ → A → List A → List A
fill n d xs = xs ++ replicate (n - length xs) d

-- Where names lead, told by the areas of ../../flat alone: a use to the definition that it names, a definition to a node.
-- Assumes nothing.
use Rattle.std.specs.Prelude.{Option, true, false, List, ◌≡◌, ℕ, zero, suc, ◌+◌, ◌-◌, ◌*◌, ◌<◌, ◌≤◌, leb, ltb, length, get_or}
use Rattle.rules.specs.Basics.{part, first}
use Rattle.rules.specs.Numbers.{text_most, definitions_most}
use Rattle.rules.specs.Words.{word_byte}
use Rattle.rules.proofs.TokensBehind.{past}
use Rattle.words.specs.Found.{found}
use Rattle.flat.specs.Flat.{row, a_use, word_found}

-- the word that use i names: it begins at the use's place and goes as far as word bytes do
abbrev pub use_word : List ℕ → List ℕ → ℕ → List ℕ
use_word s b i = part s (get_or b i 0) (past word_byte s (get_or b i 0) - get_or b i 0)

-- which of the n definitions in the rows d use i names; n where it names none
abbrev pub owner : List ℕ → List ℕ → ℕ → List ℕ → ℕ → ℕ
owner s d n b i = word_found s d n (use_word s b i)

-- the link of definition i: a node's number, or 64 and the number of a use
abbrev pub link_at : List ℕ → ℕ → ℕ
link_at d i = get_or d (i * row + 2) 0

-- the node that definition i leads to through at most n names, its own one of them; 64 where that is not enough
unfoldable pub leads : List ℕ → List ℕ → ℕ → ℕ → ℕ
leads d owners zero i = a_use
leads d owners (suc n) i =
    elim (ltb (link_at d i) a_use) [
      | true ↦ link_at d i
      | false ↦ leads d owners n (get_or owners (link_at d i - a_use) 0)
    ]

-- The numbers f i stand in the area `after`, which was `before`, as far as they are below m: r is the first of `count` positions whose
-- number is not, or `count`.
pub record Written (f : ℕ → ℕ) (m count : ℕ) (before after : List ℕ) (r : ℕ) : Type 0 where
  pub answer : r ≡ first count (λ i. leb m (f i))
  pub holds : (i : ℕ) → i < r → get_or after i 0 ≡ f i
  pub long : length after ≡ length before
  pub within : (k : ℕ) → m ≤ k → ((i : ℕ) → get_or before i 0 < k) → (i : ℕ) → get_or after i 0 < k

-- the same, with an answer that is `None` where the number of each position is below m
pub record WrittenAs (f : ℕ → ℕ) (m count : ℕ) (before after : List ℕ) (r : Option ℕ) : Type 0 where
  pub reached : ℕ
  pub written : Written f m count before after reached
  pub answered : r ≡ found count reached

-- of the uses b, r is the first that names none of the n definitions; what each use before it names is written
abbrev pub OwnersFound : List ℕ → List ℕ → ℕ → List ℕ → ℕ → List ℕ → List ℕ → Option ℕ → Type 0
OwnersFound s b uses d n before after r = WrittenAs (owner s d n b) n uses before after r

-- of the n definitions, r is the first that leads to no node; the node that each one before it leads to is written
abbrev pub EndsFound : List ℕ → List ℕ → ℕ → List ℕ → List ℕ → Option ℕ → Type 0
EndsFound d owners n before after r = WrittenAs (leads d owners n) a_use n before after r

-- each of the n definitions links to a node, or to a use that names one of them
pub record Followable (d owners : List ℕ) (n : ℕ) : Type 0 where
  pub few : n ≤ definitions_most
  pub links : (i : ℕ) → i < n → link_at d i < a_use + text_most
  pub owned : (i : ℕ) → i < n → a_use ≤ link_at d i → get_or owners (link_at d i - a_use) 0 < n

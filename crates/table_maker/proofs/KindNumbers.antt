-- What a kind says of the number that it was made of, and a node by that number.
-- Assumes nothing.
use borrow.Author.Tests.{eq-eqb, ne_eqb, lt-ltb, le-ltb}
use mathlib.Core.List.{List}
use mathlib.Core.Logic.{◌⊎◌, ⊎_elim}
use mathlib.Core.Path.{◌≡◌}
use Prim.Native.Nat.{ℕ, ◌<◌, ◌≤◌}
use native.Mathlib.Omega.{arith}
use Rattle.std.proofs.lemmas.Bool.Decides.{nat_tests}
use Rattle.table.specs.declared.Kind.{Kind}
use Rattle.table.specs.declared.Kind.TheVariants.{End, Receive, Send, Branch, Choose}
use Rattle.rules.specs.Tables.{blank_node}
use Rattle.table_maker.specs.Making.{kind_of, kind_number, message_from, choice_from, node_from}

module _ {v : ℕ} {k : Kind} (e : k ≡ kind_of v) where
  pub end_number : k ≡ End → v ≡ 0
  unfolding kind_of
  end_number i = grind (arith, nat_tests)

  pub message_number : (k ≡ Receive) ⊎ (k ≡ Send) → (0 < v) × (v < 3)
  unfolding kind_of
  message_number = ⊎_elim (λ r. (grind (arith, nat_tests), grind (arith, nat_tests))) (λ s. (grind (arith, nat_tests), grind (arith, nat_tests)))

  pub choice_number : (k ≡ Branch) ⊎ (k ≡ Choose) → 3 ≤ v
  unfolding kind_of
  choice_number = ⊎_elim (λ b. grind (arith, nat_tests)) (λ c. grind (arith, nat_tests))

-- a node, by its kind's number
module _ (owners ends a : List ℕ) (k : ℕ) where
  pub from_end : kind_number a k ≡ 0 → node_from owners ends a k ≡ blank_node
  unfolding node_from
  from_end e = rw (node_from, eq-eqb (kind_number a k) 0 e)

  pub from_message : 0 < kind_number a k → kind_number a k < 3 → node_from owners ends a k ≡ message_from owners ends a k
  unfolding node_from
  from_message l m = rw (node_from, ne_eqb (kind_number a k) 0 (λ e. omega arith), lt-ltb (kind_number a k) 3 m)

  pub from_choice : 3 ≤ kind_number a k → node_from owners ends a k ≡ choice_from owners ends a k
  unfolding node_from
  from_choice l = rw (node_from, ne_eqb (kind_number a k) 0 (λ e. omega arith), le-ltb (kind_number a k) 3 l)

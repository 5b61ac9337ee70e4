-- Worked examples of the definitions, beside the starred rows: the session that hands itself over, and the missing label.
-- Assumes nothing.
use mathlib.Core.Bool.{true}
use mathlib.Core.List.{List, [], ◌∷◌}
use mathlib.Core.Path.{◌≡◌, refl}
use Prim.Native.Nat.{ℕ}
use Prim.Native.String.{String}
use native.Mathlib.Omega.{arith}
use Rattle.rules.proofs.Computes.{computes}
use Rattle.rules.proofs.DualUnfolds.{original_same, dual_unfolds}
use Rattle.rules.proofs.Formed.{formed}
use Rattle.rules.proofs.LineAgreement.{prints_printed}
use Rattle.rules.proofs.Starred.{Holds, compared, R, N, M, P, Q}
use Rattle.rules.specs.Basics.{bytes, fill}
use Rattle.rules.specs.Numbers.{items_most, table_nodes_most}
use Rattle.rules.specs.Tables.{blank_slot, blank_labels, blank_node}
use Rattle.rules.specs.Formed.{well_formed}
use Rattle.rules.specs.Dual.{dual}
use Rattle.rules.specs.Unfolding.{SameByUnfolding, DualByUnfolding}
use Rattle.rules.specs.Replies.{made, dual_reply, missing_label}
use Rattle.rules.specs.computed.Reading.{reading}
use Rattle.table.specs.declared.Kind.{Kind}
use Rattle.table.specs.declared.Kind.TheVariants.{Receive, Send}
use Rattle.table.specs.declared.Item.TheVariants.{Session}
use Rattle.table.specs.declared.Node.{Node}
use Rattle.table.specs.declared.Table.{Table}
use Rattle.table.specs.declared.answers.Verdict.TheVariants.{No}
use Rattle.std.specs.Prelude.{Ok}
use Rattle.table.specs.declared.answers.Refusal.{Refusal}

abbrev pub A : String
A = "A = ![A]; end ."

-- a message of this kind, whose one item is the session at node i, and which goes on to node n
abbrev pub handing_over : Kind → ℕ → ℕ → Node
handing_over k i n =
    record {
      kind = k;
      items = fill items_most blank_slot (record { item = Session i } ∷ []);
      item_count = 1;
      labels = blank_labels;
      label_count = 0;
      next = n;
    }

-- "For `A = ![A]; end .` the dual is `?` of A itself, then `end`": nodes 0 and 1 are turned, 2 and 3 are A itself
pub own_dual :
    dual_reply (reading (bytes A)).table (bytes A)
    ≡ made
    (record {
      nodes = fill table_nodes_most blank_node (handing_over Receive 2 1 ∷ blank_node ∷ handing_over Send 2 3 ∷ blank_node ∷ []);
      count = 4;
      start = 0;
    })
unfolding computes
own_dual = refl

-- by unfolding too: it is dual to A, and what it carries is A itself
abbrev own_table : Table
own_table = (reading (bytes A)).table

own_formed : well_formed own_table (bytes A) ≡ true
unfolding computes
own_formed = refl

pub own_unfolds : DualByUnfolding own_table (bytes A) (dual own_table) (bytes A) 0 0
unfolding computes
own_unfolds = dual_unfolds own_table (bytes A) own_formed

pub own_carried : SameByUnfolding own_table (bytes A) (dual own_table) (bytes A) 0 2
unfolding computes
own_carried = original_same (formed own_formed) refl 0 (omega arith)

-- Figure 4 to the letter has `A = ?(A); end .`, where the name stands for the turned session also as an item. That is not dual by unfolding.
abbrev pub by_the_letter : String
by_the_letter = "A = ?(A); end ."

pub letter_not_dual : DualByUnfolding own_table (bytes A) (reading (bytes by_the_letter)).table (bytes by_the_letter) 0 0 → ⊥
unfolding computes
letter_not_dual D =
    let item = (D.keeps.each 0 0 D.holds).each_item 0 (omega arith) in
    let e : Receive ≡ Send = (item.keeps.each 0 0 item.holds).kind in
    let z : ◌≡◌ {A = ℕ} 0 1 = cc in
    omega arith

-- each pair is reached in both turns
pub own_session : Holds (compared A A "yes 4\n")
unfolding computes
own_session = prints_printed _ _

-- the missing label of two texts, for a mismatch of this reason, detail, new node, old node and turn
abbrev pub missing_of : String → String → ℕ → ℕ → ℕ → ℕ → ℕ → List ℕ
missing_of new old r d i j t =
    missing_label {E = Refusal} (reading (bytes new)).table (bytes new) (reading (bytes old)).table (bytes old)
    (Ok (No (record { reason = r; detail = d; new = i; old = j; turn = t; steps = 0 })))

-- By kind and turn: `&` in turn 0 is listed by the new text, `+` in turn 0 by the old one, and in turn 1 by the new one.
pub late_missing : missing_of N R 23 1 2 2 0 ≡ bytes "late"
unfolding computes
late_missing = refl

pub reset_missing : missing_of R M 23 2 0 0 0 ≡ bytes "reset"
unfolding computes
reset_missing = refl

pub b_missing : missing_of Q P 23 1 1 1 1 ≡ bytes "b"
unfolding computes
b_missing = refl

-- An answer fits whether or not the label is missing; it does not for another reason, a turn that does not exist, a position past the
-- chooser's list, nodes of two kinds, or a node that is no choice.
pub sum_fits : missing_of R M 23 0 0 0 0 ≡ bytes "sum"
unfolding computes
sum_fits = refl

pub none_fits :
    (missing_of R M 22 2 0 0 0 ≡ []) × (missing_of R M 23 2 0 0 2 ≡ []) × (missing_of R M 23 3 0 0 0 ≡ [])
    × (missing_of R M 23 0 0 2 0 ≡ []) × (missing_of R M 23 0 1 1 0 ≡ []) × (missing_of R M 23 0 9 0 0 ≡ [])
unfolding computes
none_fits = (refl, refl, refl, refl, refl, refl)

-- A node that begins with a sign and an opening bracket: a message or a choice, as far as the bracket.
-- Assumes nothing.
use mathlib.Core.List.{List, [], ◌∷◌}
use mathlib.Core.Path.{◌≡◌, ◌∙◌}
use Prim.Native.Nat.{ℕ, ◌+◌, ◌<◌, ◌≤◌}
use native.Mathlib.Omega.{arith}
use lib.ListN.{length}
use Rattle.rules.specs.Words.{word_most}
use Rattle.rules.specs.Tokens.{one_byte, symbols}
use Rattle.rules.specs.Numbers.{text_most, text_nodes_most}
use Rattle.rules.specs.Refusals.{nothing_new}
use Rattle.rules.specs.Replies.{refusal}
use Rattle.rules.proofs.Machine.{a_type, this, Stack, on, step}
use Rattle.rules.proofs.Reached.{Reached}
use Rattle.rules.proofs.OneToken.{counted, next_symbol}
use Rattle.rules.proofs.TokensBehind.{tokens_behind}
use Rattle.cursor.specs.Takes.{reserved_kind, kind_of}
use Rattle.cursor.specs.declared.Cursor.{Cursor}
use Rattle.cursor.specs.declared.Taken.{Taken}
use Rattle.type_reader.specs.Leaves.{behind_node, Opened, NodeOpened, node_too_many, node_not_opened}
use Rattle.type_reader.specs.Answers.{TypeRead}
use Rattle.type_reader.specs.Answers as answers
use Rattle.std.specs.Prelude.{Ok, Err}
use Rattle.table.specs.declared.answers.Refusal.{Refusal}
use Rattle.table.specs.declared.answers.RefusalKind.TheVariants as kind
use Rattle.type_reader.proofs.Took.{Took, took_byte}
use Rattle.type_reader.proofs.Signs.{short_token, Opening, bracket_refused, bracket_past}
use Rattle.type_reader.proofs.Begins.{acts_step, entries_long, node_reached, node_refused}
use Rattle.type_reader.proofs.Standing.{Standing, inside, type_read, NodeSign, opened_counts}

-- the sign's byte b and the bracket's byte o, and what is expected behind the bracket
pub record Shape (b o : ℕ) (Inner : Stack → Stack) : Type 0 where
  pub byte : b < reserved_kind
  pub node : NodeSign (one_byte b)
  pub bracket : Opening o
  pub leads : (K : Stack) → step (a_type ∷ K) (one_byte b) ≡ on (this o ∷ Inner K)

pub inside_deep : {s : List ℕ} {t : Taken} {deep : ℕ} (z : Standing s t deep) → length (inside z) ≡ deep
inside_deep z = entries_long z.fits _ ∙ z.depth

module _ {s : List ℕ} (l : length s ≤ text_most) {b o : ℕ} {Inner : Stack → Stack} (g : Shape b o Inner) {t : Taken} (e : kind_of t ≡ b) {deep : ℕ} where
  pub sign_took : (z : Standing s t deep) → Took s t z.ts (λ u. one_byte b)
  sign_took z = took_byte z.ahead b e g.byte

  sign_short : (z : Standing s t deep) → length (sign_took z).token.spelled ≤ word_most
  sign_short z = short_token z.ahead (sign_took z) (λ q. omega (arith, g.byte))

  sign-step : (z : Standing s t deep) → step (z.x ∷ z.J) (one_byte b) ≡ on (this o ∷ Inner z.K)
  sign-step z = acts_step (z.x ∷ z.J) (a_type ∷ z.K) (sign_took z) z.acts ∙ g.leads z.K

  node_full : {a b' a₁ b₁ : List ℕ} → text_nodes_most ≤ t.next.nodes → TypeRead s a b' a₁ b₁ t deep (Err (refusal kind.OneTooMany t.at))
  node_full q =
      type_read (λ z.
      let n = g.node in
      answers.refused
      (node_refused l (one_byte b) n.no_opening n.no_closing n.begins n.goes_on (sign_took z) (sign_short z) {L = this o ∷ Inner z.K} t.next.nodes z.ns z.fits q z.reached (sign-step z)))

  behind_sign :
      (z : Standing s t deep) → t.next.nodes < text_nodes_most
      → Reached s (tokens_behind s t.next.at) (this o ∷ Inner z.K) (counted nothing_new (t.next.nodes + 1) z.ns (inside z))
  behind_sign z q =
      let n = g.node in
      node_reached l (one_byte b) n.no_opening n.no_closing n.begins n.goes_on (sign_took z) (sign_short z) t.next.nodes z.ns z.fits q z.reached (sign-step z)

  module _ (q : t.next.nodes < text_nodes_most) where
    no_bracket : {a b' a₁ b₁ : List ℕ} {no : Refusal} → Opened s (behind_node t.next) o deep (Err no) → TypeRead s a b' a₁ b₁ t deep (Err no)
    no_bracket h =
        type_read (λ z.
        answers.refused (bracket_refused l g.bracket (t.next.nodes + 1) z.ns (inside z) (inside_deep z) h (behind_sign z q)))

    pub behind_bracket :
        {c : Cursor} → Opened s (behind_node t.next) o deep (Ok c) → (z : Standing s t deep)
        → Reached s (tokens_behind s c.at) (Inner z.K) (counted (next_symbol (one_byte o)) c.nodes z.ns ([] ∷ inside z))
        × (symbols (tokens_behind s t.next.at) ≡ one_byte o ∷ symbols (tokens_behind s c.at))
    behind_bracket h z =
        let r = bracket_past l g.bracket (t.next.nodes + 1) z.ns (inside z) (inside_deep z) h (behind_sign z q) in
        (rw (opened_counts h).0 r.0, r.1)

  pub node_unopened : {a b' a₁ b₁ : List ℕ} {no : Refusal} → NodeOpened s t o deep (Err no) → TypeRead s a b' a₁ b₁ t deep (Err no)
  node_unopened (node_too_many q) = node_full q
  node_unopened (node_not_opened q h) = no_bracket q h

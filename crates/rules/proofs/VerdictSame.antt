-- Unused room is never read: tables that are equal up to it get the same verdict, marks and run.
-- At the pairs of their nodes the same is wrong and the same steps lead on; runs and the smallest closed set stay at such pairs.
-- Assumes nothing.
use mathlib.Core.Bool.{Bool}
use mathlib.Core.List.{List, [], ◌∷◌}
use mathlib.Core.Path.{◌≡◌, sym, ap, subst, ◌∙◌}
use Prim.Native.Nat.{ℕ}
use lib.ListN.{length}
use Rattle.rules.specs.Tables.{node_at, SameNode, SameTable}
use Rattle.rules.specs.Formed.{well_formed}
use Rattle.rules.specs.Pairs.{Wrong, Pair, Step, starts, left_in, right_in, mismatch_at, step_at, landed, reason, detail}
use Rattle.rules.specs.Runs.{Leads, Run}
use Rattle.rules.specs.Replies.{Areas, NoRefusal, SaysNo, Replaces, new_not_formed, old_not_formed, marks_short, path_short, scratch_short, says_yes, says_no}
use Rattle.rules.proofs.Following.{Follows, inside_same, starts_same, left_both, right_both, no_refusal_follows, yes_follows}
use Rattle.rules.proofs.Formed.{WellFormed, formed, well_formed_same}
use Rattle.rules.proofs.Runs.{starts_within, leads_within}
use Rattle.rules.proofs.SameSteps.{mismatch_same, step_same}
use Rattle.rules.proofs.Steps.{Within, step_within}
use Rattle.rules.proofs.Tables.{same_table_sym}
use Rattle.table.specs.declared.Table.{Table}
use Rattle.table.specs.declared.answers.Found.{Found}
use Rattle.rules.specs.Replies.{Answer}

module _ {new new' : Table} (new_names : List ℕ) {old old' : Table} (old_names : List ℕ) (S : SameTable new new') (T : SameTable old old') where
  module _ (p : Pair) (w : Within new old p) where
    left_same :
        SameNode (left_in p.turn (node_at new p.new) (node_at old p.old))
        (left_in p.turn (node_at new' p.new) (node_at old' p.old))
    left_same = left_both SameNode (S.each p.new w.new_below) (T.each p.old w.old_below) p.turn

    right_same :
        SameNode (right_in p.turn (node_at new p.new) (node_at old p.old))
        (right_in p.turn (node_at new' p.new) (node_at old' p.old))
    right_same = right_both SameNode (S.each p.new w.new_below) (T.each p.old w.old_below) p.turn

    mismatch_at_same : mismatch_at new new_names old old_names p ≡ mismatch_at new' new_names old' old_names p
    unfolding mismatch_at
    mismatch_at_same = mismatch_same (left_in p.turn new_names old_names) (right_in p.turn new_names old_names) left_same right_same

    step_at_same : (s : ℕ) (q : Pair) → Step new new_names old old_names p s q → Step new' new_names old' old_names p s q
    unfolding mismatch_at step_at
    step_at_same s q st =
        record {
          fits = sym mismatch_at_same ∙ st.fits;
          leads =
              ap (landed p.turn)
              (sym (step_same (left_in p.turn new_names old_names) (right_in p.turn new_names old_names) left_same right_same st.fits s))
              ∙ st.leads;
        }

module _ {new new' : Table} (new_names : List ℕ) {old old' : Table} (old_names : List ℕ) (S : SameTable new new') (T : SameTable old old') where
  same_follows : Follows new new' new_names old old' old_names
  same_follows =
      record {
        new_count = S.count;
        old_count = T.count;
        new_start = S.start;
        old_start = T.start;
        fits = λ p w e. sym (mismatch_at_same new_names old_names S T p w) ∙ e;
        steps =
            λ p q s w st. (
              s,
              step_at_same new_names old_names (same_table_sym S) (same_table_sym T) p (inside_same S.count T.count w) s q st,
            );
      }

  module _ (new_formed : WellFormed new new_names) (old_formed : WellFormed old old_names) where
    leads_same :
        (r : List ℕ) (p q : Pair) → Within new old p → Leads new new_names old old_names p r q
        → Leads new' new_names old' old_names p r q
    leads_same [] p q w L = L
    leads_same (s ∷ r) p q w L =
        (L.0, step_at_same new_names old_names S T p w s L.0 L.1, leads_same r L.0 q (step_within new_formed old_formed w L.1) L.2)

    run_same : (r : List ℕ) (q : Pair) → Run new new_names old old_names r q → Run new' new_names old' old_names r q
    run_same r q L =
        subst (λ (p : Pair). Leads new' new_names old' old_names p r q) (starts_same same_follows)
        (leads_same r (starts new old) q (starts_within new_formed old_formed) L)

    -- a run's last pair
    end_same :
        (r : List ℕ) (q : Pair) → Run new new_names old old_names r q
        → mismatch_at new new_names old old_names q ≡ mismatch_at new' new_names old' old_names q
    end_same r q L =
        mismatch_at_same new_names old_names S T q
        (leads_within new_formed old_formed r (starts new old) q (starts_within new_formed old_formed) L)

module _ {new new' : Table} (new_names : List ℕ) {old old' : Table} (old_names : List ℕ) (S : SameTable new new') (T : SameTable old old') where
  module _ {before after : Areas} (N : NoRefusal new new_names old old_names before) (N' : NoRefusal new' new_names old' old_names before) where
    no_same : {f : Found} → SaysNo new new_names old old_names before after f → SaysNo new' new_names old' old_names before after f
    no_same X =
        let a = formed N.new_formed in
        let b = formed N.old_formed in
        let a' = formed N'.new_formed in
        let b' = formed N'.old_formed in
        let S' = same_table_sym S in
        let T' = same_table_sym T in
        let e = end_same new_names old_names S T a b X.run X.end X.runs in
        record {
          run = X.run;
          end = X.end;
          runs = run_same new_names old_names S T a b X.run X.end X.runs;
          wrong = λ d. X.wrong (e ∙ d);
          earliest =
              λ r q L bad l.
              X.earliest r q (run_same new_names old_names S' T' a' b' r q L)
              (λ d. bad (end_same new_names old_names S' T' a' b' r q L ∙ d)) l;
          returned =
              X.returned
              ∙ ap (λ (m : Wrong).
              record {
                reason = reason m;
                detail = detail m;
                new = X.end.new;
                old = X.end.old;
                turn = X.end.turn;
                steps = length X.run;
              }) e;
          marks = rw (← S.count, ← T.count) X.marks;
          path = X.path;
          scratch = rw (← S.count, ← T.count) X.scratch;
        }

pub replaces_same :
    {new new' : Table} {new_names : List ℕ} {old old' : Table} {old_names : List ℕ} {before after : Areas} {v : Answer}
    → SameTable new new' → SameTable old old' → Replaces new new_names old old_names before after v
    → Replaces new' new_names old' old_names before after v
replaces_same {new} {new'} {new_names} {old} {old'} {old_names} {before} {after} S T R = go R
  where
    new_too : {b : Bool} → well_formed new new_names ≡ b → well_formed new' new_names ≡ b
    new_too e = sym (well_formed_same new_names S) ∙ e

    old_too : {b : Bool} → well_formed old old_names ≡ b → well_formed old' old_names ≡ b
    old_too e = sym (well_formed_same old_names T) ∙ e

    F : Follows new new' new_names old old' old_names
    F = same_follows new_names old_names S T

    G : Follows new' new new_names old' old old_names
    G = same_follows new_names old_names (same_table_sym S) (same_table_sym T)

    allowed : NoRefusal new new_names old old_names before → NoRefusal new' new_names old' old_names before
    allowed N = no_refusal_follows F (new_too N.new_formed) (old_too N.old_formed) N

    go : {v : Answer} → Replaces new new_names old old_names before after v → Replaces new' new_names old' old_names before after v
    go (new_not_formed a e) = new_not_formed (new_too a) e
    go (old_not_formed a b e) = old_not_formed (new_too a) (old_too b) e
    go (marks_short a b m e) = marks_short (new_too a) (old_too b) (rw (← S.count, ← T.count) m) e
    go (path_short a b m p e) =
        path_short (new_too a) (old_too b) (rw (← S.count, ← T.count) m) (rw (← S.count, ← T.count) p) e
    go (scratch_short a b m p s e) =
        scratch_short (new_too a) (old_too b) (rw (← S.count, ← T.count) m) (rw (← S.count, ← T.count) p) (rw (← S.count, ← T.count) s) e
    go (says_yes N Y) = let N' = allowed N in says_yes N' (yes_follows F G N N' Y)
    go (says_no N X) = let N' = allowed N in says_no N' (no_same new_names old_names S T N N' X)

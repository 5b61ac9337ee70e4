-- The first run to a mismatch goes through no pair twice, so it has fewer steps than there are pairs in both turns. By marking the pairs
-- along it: each is new, or there were a shorter run.
-- Assumes nothing.
use mathlib.Core.Bool.{Bool, true, false}
use mathlib.Core.List.{List, [], ◌∷◌, ◌++◌}
use mathlib.Core.Logic.{inl}
use mathlib.Core.Path.{◌≡◌, refl, sym, subst, ap, ◌∙◌}
use Prim.Native.Nat.{ℕ, suc, ◌+◌, ◌<◌, ◌≤◌}
use native.Mathlib.Decide.{dec_lt}
use native.Mathlib.Omega.{arith}
use lib.ListN.{length, get_or, length-append, get_or-append}
use lib.Seq.{get_or-append_seam}
use Rattle.rules.proofs.Entries.{pair_of, run_of, reached_where, unreached_unmarked, marks_within, marks_more, one_mark}
use Rattle.rules.proofs.Formed.{WellFormed, formed}
use Rattle.rules.proofs.Runs.{leads_snoc, starts_within}
use Rattle.rules.proofs.Steps.{Within, step_within}
use Rattle.rules.specs.Pairs.{Pair, starts}
use Rattle.rules.specs.Runs.{Leads, Run}
use Rattle.rules.specs.Replies.{Areas, NoRefusal, SaysNo, pair_count, count_marks}
use Rattle.rules.specs.computed.Verdict.{Entry, no_entry, reached, marks_of}
use Rattle.table.specs.declared.Table.{Table}
use Rattle.table.specs.declared.answers.Found.{Found}

module _ (new : Table) (new_names : List ℕ) (old : Table) (old_names : List ℕ) where
  leads_append :
      (a b : List ℕ) (p m q : Pair) → Leads new new_names old old_names p a m → Leads new new_names old old_names m b q
      → Leads new new_names old old_names p (a ++ b) q
  leads_append [] b p m q L M = rw L M
  leads_append (s ∷ a) b p m q L M = (L.0, L.1, leads_append a b L.0 m q L.2 M)

  module _ (new_formed : WellFormed new new_names) (old_formed : WellFormed old old_names) (q : Pair) where
    -- what is known behind n steps: an entry for each pair on the way, each marked once, with a run of at most n steps to it
    record Gone (n : ℕ) (es : List Entry) : Type 0 where
      counted : count_marks (marks_of new old es) ≡ suc n
      inside : (j : ℕ) → j < length es → Within new old (pair_of es j)
      known : (j : ℕ) → j < length es → Run new new_names old old_names (run_of es j) (pair_of es j) × (length (run_of es j) ≤ n)

    begin : Gone 0 (record { pair = starts new old; run = [] } ∷ [])
    begin =
        let w = starts_within new_formed old_formed in
        let only : (j : ℕ) → j < 1 → j ≡ 0 = λ j l. omega arith in
        record {
          counted = one_mark new old (record { pair = starts new old; run = [] }) w;
          inside = λ j l. rw (only j l) w;
          known = λ j l. rw (only j l) (refl, omega arith);
        }

    -- one step more leads to a pair that was not gone through
    go_on :
        (a : List ℕ) (s : ℕ) (m : Pair) (es : List Entry) → Within new old m → Run new new_names old old_names (a ++ (s ∷ [])) m
        → reached es m ≡ false → Gone (length a) es → Gone (length a + 1) (es ++ (record { pair = m; run = a ++ (s ∷ []) } ∷ []))
    go_on a s m es w R u G =
        let d : Entry = record { pair = m; run = a ++ (s ∷ []) } in
        let n : length (es ++ (d ∷ [])) ≡ length es + 1 = length-append es (d ∷ []) in
        let same : (j : ℕ) → j < length es → get_or (es ++ (d ∷ [])) j no_entry ≡ get_or es j no_entry = λ j l. get_or-append es (d ∷ []) no_entry j l in
        let last : (j : ℕ) → (j < length es → ⊥) → j < length (es ++ (d ∷ [])) → get_or (es ++ (d ∷ [])) j no_entry ≡ d =
        λ j f l. let e : j ≡ length es = omega (arith, n, f, l) in rw e (get_or-append_seam es d [] no_entry) in
        record {
          counted = marks_more new old es d w (unreached_unmarked new old es G.inside m w u) ∙ ap suc G.counted ∙ omega arith;
          inside =
              λ j l. by_place j (dec_lt j (length es)) (λ (e : Entry). Within new old e.pair)
              (λ h. rw (same j h) (G.inside j h)) (λ f. rw (last j f l) w);
          known =
              λ j l. by_place j (dec_lt j (length es)) (λ (e : Entry). Run new new_names old old_names e.run e.pair × (length e.run ≤ length a + 1))
              (λ h. rw (same j h) ((G.known j h).0, omega (arith, (G.known j h).1)))
              (λ f. rw (last j f l) (R, omega (arith, length-append a (s ∷ []))));
        }
      where
        by_place :
            (j : ℕ) → Dec (j < length es) → (P : Entry → Type 0)
            → (j < length es → P (get_or (es ++ (record { pair = m; run = a ++ (s ∷ []) } ∷ [])) j no_entry))
            → ((j < length es → ⊥) → P (get_or (es ++ (record { pair = m; run = a ++ (s ∷ []) } ∷ [])) j no_entry))
            → P (get_or (es ++ (record { pair = m; run = a ++ (s ∷ []) } ∷ [])) j no_entry)
        by_place j (yes h) P f g = f h
        by_place j (no h) P f g = g h

    -- no run to q has fewer steps than k
    abbrev NoneShorter : ℕ → Type 0
    NoneShorter k = (c : List ℕ) → Run new new_names old old_names c q → length c < k → ⊥

    goes_on :
        (b a : List ℕ) (p : Pair) (es : List Entry) → Within new old p → Run new new_names old old_names a p
        → Leads new new_names old old_names p b q → Gone (length a) es → NoneShorter (length a + length b)
        → length a + length b < pair_count new old
    goes_on [] a p es w R L G none = omega (arith, G.counted, marks_within new old es)
    goes_on (s ∷ b) a p es w R L G none = by_reached (reached es L.0) refl (goes_on b (a ++ (s ∷ [])) L.0 (es ++ (next ∷ [])) inside run L.2)
      where
        next : Entry
        next = record { pair = L.0; run = a ++ (s ∷ []) }

        n : length (a ++ (s ∷ [])) ≡ length a + 1
        n = length-append a (s ∷ [])

        inside : Within new old L.0
        inside = step_within new_formed old_formed w L.1

        run : Run new new_names old old_names (a ++ (s ∷ [])) L.0
        run = leads_snoc a (starts new old) R L.1

        by_reached :
            (r : Bool) → reached es L.0 ≡ r
            → (Gone (length (a ++ (s ∷ []))) (es ++ (next ∷ [])) → NoneShorter (length (a ++ (s ∷ [])) + length b)
            → length (a ++ (s ∷ [])) + length b < pair_count new old)
            → length a + suc (length b) < pair_count new old
        by_reached true e again =
            let v = reached_where es L.0 e in
            let k = G.known v.0 v.1 in
            let c = run_of es v.0 in
            absurd
            (none (c ++ b) (leads_append c b (starts new old) L.0 q (rw v.2 at k.0) L.2) (omega (arith, length-append c b, k.1)))
        by_reached false e again =
            omega (
              arith,
              n,
              again (subst (λ (k : ℕ). Gone k (es ++ (next ∷ []))) (sym n) (go_on a s L.0 es inside run e G))
                  (λ c R l. none c R (omega (arith, n, l))),
            )

-- "the steps": after a no
pub steps_few :
    {new : Table} {new_names : List ℕ} {old : Table} {old_names : List ℕ} {before after : Areas} {found : Found}
    → NoRefusal new new_names old old_names before → (X : SaysNo new new_names old old_names before after found)
    → length X.run < pair_count new old
steps_few {new} {new_names} {old} {old_names} F X =
    let a = formed F.new_formed in
    let b = formed F.old_formed in
    let few =
    goes_on new new_names old old_names a b X.end X.run [] (starts new old) (record { pair = starts new old; run = [] } ∷ []) (starts_within a b)
    refl X.runs (begin new new_names old old_names a b X.end) (λ c R l. X.earliest c X.end R X.wrong (inl (omega (arith, l)))) in
    omega (arith, few)

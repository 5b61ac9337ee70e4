-- A verdict that computes: a search over pairs, breadth first, and what the areas then hold.
-- Assumes nothing.
use Rattle.std.specs.Prelude.{Bool, true, false, ◌&&◌, List, [], ◌∷◌, ◌++◌, ℕ, zero, suc, eqb, ltb, length, get_or, drop, Ok, Err, Some, None}
use Rattle.std.proofs.Math.Option.{none, some}
use Rattle.rules.specs.Basics.{listed}
use Rattle.rules.specs.Numbers.{labels_most}
use Rattle.rules.specs.Formed.{well_formed}
use Rattle.rules.specs.Pairs.{Wrong, Pair, starts, mismatch_at, step_at, reason, detail}
use Rattle.rules.specs.Replies.{Answer, refusal, Areas, pair_count, scratch_size, mark_place, mark, count_marks, cleared}
use Rattle.table.specs.declared.Table.{Table}
use Rattle.table.specs.declared.answers.RefusalKind.{RefusalKind}
use Rattle.table.specs.declared.answers.RefusalKind.TheVariants as kind
use Rattle.table.specs.declared.answers.Verdict.TheVariants as the

-- a pair that was reached, and the first run to it
pub record Entry : Type 0 where
  pub pair : Pair
  pub run : List ℕ

abbrev pub no_entry : Entry
no_entry = record { pair = record { turn = 0; new = 0; old = 0 }; run = [] }

-- the entry of the pair q that step s of e leads to
abbrev pub entry_behind : Entry → ℕ → Pair → Entry
entry_behind e s q = record { pair = q; run = e.run ++ (s ∷ []) }

-- what a search comes to: every reached pair, or the first that is a mismatch
pub data Outcome : Type 0 where
  all_fit : List Entry → Outcome
  mismatched : Entry → Outcome
  unfinished : Outcome

abbrev pub same_pair : Pair → Pair → Bool
same_pair p q = eqb p.turn q.turn && eqb p.new q.new && eqb p.old q.old

-- whether a pair has an entry
unfoldable pub reached : List Entry → Pair → Bool
reached [] p = false
reached (e ∷ es) p = elim (same_pair e.pair p) [ true ↦ true | false ↦ reached es p ]

abbrev pub fits : Wrong → Bool
fits None = true
fits (Some w) = false

module _ (new : Table) (new_names : List ℕ) (old : Table) (old_names : List ℕ) where
  -- the entries with what step s of e leads to
  unfoldable pub visit : Entry → ℕ → List Entry → List Entry
  visit e s es =
      elim (step_at new new_names old old_names e.pair s) [
        | none ↦ es
        | some q ↦ elim (reached es q) [ true ↦ es | false ↦ es ++ (entry_behind e s q ∷ []) ]
      ]

  -- n steps of e, from step s on
  unfoldable pub expand : Entry → ℕ → ℕ → List Entry → List Entry
  expand e zero s es = es
  expand e (suc n) s es = expand e n (suc s) (visit e s es)

  -- the entries from entry h on, at most n of them
  unfoldable pub explore : ℕ → List Entry → ℕ → Outcome
  explore zero es h = unfinished
  explore (suc n) es h =
      elim (ltb h (length es)) [
        | false ↦ all_fit es
        | true ↦
            elim (fits (mismatch_at new new_names old old_names (get_or es h no_entry).pair)) [
              | false ↦ mismatched (get_or es h no_entry)
              | true ↦ explore n (expand (get_or es h no_entry) labels_most zero es) (suc h)
            ]
      ]

  unfoldable pub outcome : Outcome
  outcome = explore (suc (pair_count new old)) (record { pair = starts new old; run = [] } ∷ []) zero

module _ (new old : Table) where
  -- whether a place is the mark's place of an entry
  unfoldable pub marked_at : List Entry → ℕ → Bool
  marked_at [] i = false
  marked_at (e ∷ es) i = elim (eqb (mark_place new old e.pair) i) [ true ↦ true | false ↦ marked_at es i ]

  unfoldable pub marks_of : List Entry → List ℕ
  marks_of es = listed (pair_count new old) (λ i. mark (marked_at es i))

-- an answer, and the areas behind it
pub record Reply : Type 0 where
  pub answer : Answer
  pub areas : Areas

module _ (new : Table) (new_names : List ℕ) (old : Table) (old_names : List ℕ) (before : Areas) where
  abbrev pub refuse : RefusalKind → ℕ → Reply
  refuse k p = record { answer = Err (refusal k p); areas = before }

  unfoldable pub settle : Outcome → Reply
  settle (all_fit es) =
      record {
        answer = Ok (the.Yes (count_marks (marks_of new old es)));
        areas =
            record {
              marks = marks_of new old es ++ drop (pair_count new old) before.marks;
              path = before.path;
              scratch = cleared (scratch_size new old) before.scratch;
            };
      }
  settle (mismatched e) =
      record {
        answer =
            Ok
            (the.No
            (record {
              reason = reason (mismatch_at new new_names old old_names e.pair);
              detail = detail (mismatch_at new new_names old old_names e.pair);
              new = e.pair.new;
              old = e.pair.old;
              turn = e.pair.turn;
              steps = length e.run;
            }));
        areas =
            record {
              marks = cleared (pair_count new old) before.marks;
              path = e.run ++ drop (length e.run) before.path;
              scratch = cleared (scratch_size new old) before.scratch;
            };
      }
  -- does not come: every search ends (`outcome_comes` in proofs/VerdictAgreement)
  settle unfinished = refuse kind.AreaTooShort 0

  unfoldable pub verdict : Reply
  verdict =
      elim (well_formed new new_names) [
        | false ↦ refuse kind.NotWellFormed 1
        | true ↦
            elim (well_formed old old_names) [
              | false ↦ refuse kind.NotWellFormed 2
              | true ↦
                  elim (ltb (length before.marks) (pair_count new old)) [
                    | true ↦ refuse kind.AreaTooShort 1
                    | false ↦
                        elim (ltb (length before.path) (pair_count new old)) [
                          | true ↦ refuse kind.AreaTooShort 2
                          | false ↦
                              elim (ltb (length before.scratch) (scratch_size new old)) [
                                | true ↦ refuse kind.AreaTooShort 3
                                | false ↦ settle (outcome new new_names old old_names)
                              ]
                        ]
                  ]
            ]
      ]

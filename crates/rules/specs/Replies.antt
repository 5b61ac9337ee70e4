-- What each public function answers, and what each lent area then holds: one definition for each promise, for every input.
-- Assumes nothing.
use Rattle.std.specs.Prelude.{Bool, true, false, ◌&&◌, List, [], ◌∷◌, ◌++◌, ◌≡◌, ℕ, suc, ◌<◌, ◌≤◌, ◌+◌, ◌*◌, eqb, ltb, length, get_or, take, drop, replicate, Result, Ok, Err, Some}
use Rattle.std.proofs.Math.Option.{Option, none, some}
use Rattle.rules.specs.Numbers.{table_nodes_most}
use Rattle.rules.specs.Notation.{Text, Writes}
use Rattle.rules.specs.Numbering.{table_of}
use Rattle.rules.specs.Refusals.{number, Fault, GoesFirst}
use Rattle.rules.specs.Tables.{blank_table, node_at, label_count, spelling_at, is_choice}
use Rattle.rules.specs.Formed.{well_formed}
use Rattle.rules.specs.Dual.{dual, dual_count, hands_over}
use Rattle.rules.specs.Pairs.{Pair, turns_most, left_in, right_in, by_chooser, IsMismatch, mismatch_at, reason, detail, kind_number}
use Rattle.rules.specs.Runs.{Run, Before}
use Rattle.rules.specs.Replace.{Smallest}
use Rattle.table.specs.declared.Kind.{Kind}
use Rattle.table.specs.declared.Node.{Node}
use Rattle.table.specs.declared.Table.{Table}
use Rattle.table.specs.declared.answers.RefusalKind.{RefusalKind}
use Rattle.table.specs.declared.answers.RefusalKind.TheVariants as kind
use Rattle.table.specs.declared.answers.Refusal.{Refusal}
use Rattle.table.specs.declared.answers.Made.{Made}
use Rattle.table.specs.declared.answers.Mismatch.TheVariants as mismatch
use Rattle.table.specs.declared.answers.Found.{Found}
use Rattle.table.specs.declared.answers.Verdict.{Verdict}
use Rattle.table.specs.declared.answers.Verdict.TheVariants as verdict

-- "The table is the answer itself"
abbrev pub made : Table → Made
made t = record { table = t; answer = Ok tt }

-- "A refusal returns number and place"; "Beside a refusal the table has no nodes and start 0."
abbrev pub refusal : RefusalKind → ℕ → Refusal
refusal k p = record { kind = k; place = p }

abbrev pub refused : RefusalKind → ℕ → Made
refused k p = record { table = blank_table; answer = Err (refusal k p) }

-- The reply of reading the text s: the table of its tree if no refusal of the list applies, else the refusal that goes first.
pub data Reads (s : List ℕ) : Made → Type 0 where
  accepts : {x : Text} → Writes s x → ((n p : ℕ) → Fault s n p → ⊥) → Reads s (made (table_of x))
  refuses :
      {k : RefusalKind} {p : ℕ} → Fault s (number k) p → ((m q : ℕ) → Fault s m q → GoesFirst m q (number k) p → ⊥)
      → Reads s (refused k p)

-- The reply of "well formed" is `well_formed` itself.

-- The reply of the dual: "For a dual: 10 (place 1), 13", at the "node count of the table".
unfoldable pub dual_reply : Table → List ℕ → Made
dual_reply t names =
    elim (well_formed t names) [
      | false ↦ refused kind.NotWellFormed 1
      | true ↦
          elim (ltb table_nodes_most (dual_count (hands_over t) t.count)) [
            | true ↦ refused kind.DualTooLarge t.count
            | false ↦ made (dual t)
          ]
    ]

-- what the three lent areas hold
pub record Areas : Type 0 where
  pub marks : List ℕ
  pub path : List ℕ
  pub scratch : List ℕ

-- "With n and m nodes the lent areas are: marks, 2 × n × m bytes; path, 2 × n × m numbers of 16 bits; scratch, 4 × n × m numbers of 16 bits."
abbrev pub pair_count : Table → Table → ℕ
pair_count new old = turns_most * new.count * old.count

abbrev pub scratch_size : Table → Table → ℕ
scratch_size new old = 4 * new.count * old.count

-- "A pair's mark stands at turn × n × m + new × m + old, with turn 0 or 1."
abbrev pub mark_place : Table → Table → Pair → ℕ
mark_place new old p = p.turn * new.count * old.count + p.new * old.count + p.old

abbrev pub mark : Bool → ℕ
mark true = 1
mark false = 0

-- "the count of marks"
unfoldable pub count_marks : List ℕ → ℕ
count_marks [] = 0
count_marks (b ∷ s) = elim (eqb b 1) [ true ↦ suc (count_marks s) | false ↦ count_marks s ]

-- zeros over the first k of an area; "what is beyond stays"
abbrev pub cleared : ℕ → List ℕ → List ℕ
cleared k a = replicate k 0 ++ drop k a

-- what a verdict answers: yes or no, or a refusal
abbrev pub Answer : Type 0
Answer = Result Verdict Refusal

-- no refusal applies: both tables are well formed, and every area is long enough
pub record NoRefusal (new : Table) (new_names : List ℕ) (old : Table) (old_names : List ℕ) (before : Areas) : Type 0 where
  pub new_formed : well_formed new new_names ≡ true
  pub old_formed : well_formed old old_names ≡ true
  pub marks_long : pair_count new old ≤ length before.marks
  pub path_long : pair_count new old ≤ length before.path
  pub scratch_long : scratch_size new old ≤ length before.scratch

module _ (new : Table) (new_names : List ℕ) (old : Table) (old_names : List ℕ) (before after : Areas) where
  -- "After yes: reached pairs are marked 1, others 0; path untouched; the count of marks is returned." "Scratch is 0 after either."
  pub record SaysYes (count : ℕ) : Type 0 where
    pub set : Pair → Bool
    pub smallest : Smallest new new_names old old_names set
    pub size : length after.marks ≡ length before.marks
    pub marked :
        (p : Pair) → p.turn < turns_most → p.new < new.count → p.old < old.count
        → get_or after.marks (mark_place new old p) 0 ≡ mark (set p)
    pub beyond : drop (pair_count new old) after.marks ≡ drop (pair_count new old) before.marks
    pub counted : count ≡ count_marks (take (pair_count new old) after.marks)
    pub path : after.path ≡ before.path
    pub scratch : after.scratch ≡ cleared (scratch_size new old) before.scratch

  -- "After no: marks 0; the path holds the steps and beyond them is untouched; reason, detail, both nodes, turn and step count are
  -- returned." Demand 3: the steps are a run to a mismatch, and no run to a mismatch goes before it.
  pub record SaysNo (found : Found) : Type 0 where
    pub run : List ℕ
    pub end : Pair
    pub runs : Run new new_names old old_names run end
    pub wrong : IsMismatch new new_names old old_names end
    pub earliest :
        (r : List ℕ) (q : Pair) → Run new new_names old old_names r q → IsMismatch new new_names old old_names q → Before r run → ⊥
    pub returned :
        found
        ≡ record {
          reason = reason (mismatch_at new new_names old old_names end);
          detail = detail (mismatch_at new new_names old old_names end);
          new = end.new;
          old = end.old;
          turn = end.turn;
          steps = length run;
        }
    pub marks : after.marks ≡ cleared (pair_count new old) before.marks
    pub path : after.path ≡ run ++ drop (length run) before.path
    pub scratch : after.scratch ≡ cleared (scratch_size new old) before.scratch

  -- The reply of a verdict: "For a verdict: 10 for the first table, 10 for the second, then 11 for the least area. Each is given exactly
  -- then. A refusal returns number and place and writes nothing."
  pub data Replaces : Answer → Type 0 where
    new_not_formed : well_formed new new_names ≡ false → after ≡ before → Replaces (Err (refusal kind.NotWellFormed 1))
    old_not_formed :
        well_formed new new_names ≡ true → well_formed old old_names ≡ false → after ≡ before
        → Replaces (Err (refusal kind.NotWellFormed 2))
    marks_short :
        well_formed new new_names ≡ true → well_formed old old_names ≡ true → length before.marks < pair_count new old → after ≡ before
        → Replaces (Err (refusal kind.AreaTooShort 1))
    path_short :
        well_formed new new_names ≡ true → well_formed old old_names ≡ true → pair_count new old ≤ length before.marks
        → length before.path < pair_count new old → after ≡ before → Replaces (Err (refusal kind.AreaTooShort 2))
    scratch_short :
        well_formed new new_names ≡ true → well_formed old old_names ≡ true → pair_count new old ≤ length before.marks
        → pair_count new old ≤ length before.path → length before.scratch < scratch_size new old → after ≡ before
        → Replaces (Err (refusal kind.AreaTooShort 3))
    says_yes : {count : ℕ} → NoRefusal new new_names old old_names before → SaysYes count → Replaces (Ok (verdict.Yes count))
    says_no : {found : Found} → NoRefusal new new_names old old_names before → SaysNo found → Replaces (Ok (verdict.No found))

-- "New is compatible with other .. is asked in two calls, the dual and then the verdict, each with its own refusals; marks, nodes and
-- runs are then those of new and the dual." The first call's reply, and the second's where it is made.
pub data AsksCompatible (new : Table) (new_names : List ℕ) (other : Table) (other_names : List ℕ) (before after : Areas) : Made → Option Answer → Type 0 where
  no_dual :
      {k : RefusalKind} {p : ℕ} → dual_reply other other_names ≡ refused k p → after ≡ before
      → AsksCompatible new new_names other other_names before after (refused k p) none
  then_verdict :
      {t : Table} {v : Answer} → dual_reply other other_names ≡ made t → Replaces new new_names t other_names before after v
      → AsksCompatible new new_names other other_names before after (made t) (some v)

-- The missing label: of what is the new table's and what is the old one's, what is the chooser's, "by kind and turn".
abbrev pub of_chooser : {A : Type 0} → Kind → ℕ → A → A → A
of_chooser k turn new old = by_chooser k (left_in turn new old) (right_in turn new old)

-- the kind of the new table's node: both nodes have it, where the answer fits
abbrev pub kind_found : Table → Found → Kind
kind_found new f = (node_at new f.new).kind

unfoldable pub chooser : Table → Table → Found → Node
chooser new old f = of_chooser (kind_found new f) f.turn (node_at new f.new) (node_at old f.old)

unfoldable pub chooser_names : Table → List ℕ → List ℕ → Found → List ℕ
chooser_names new new_names old_names f = of_chooser (kind_found new f) f.turn new_names old_names

-- "An answer handed in for this fits exactly if its reason is 23, both tables are well formed, nodes and turn exist, both nodes are
-- choices of one kind and the detail is a position in the chooser's list."
unfoldable pub found_fits : Table → List ℕ → Table → List ℕ → Found → Bool
found_fits new new_names old old_names f =
    eqb f.reason (reason (Some (mismatch.Label f.detail))) && well_formed new new_names && well_formed old old_names
    && ltb f.new new.count && ltb f.old old.count && ltb f.turn turns_most && is_choice (kind_found new f)
    && eqb (kind_number (kind_found new f)) (kind_number (node_at old f.old).kind)
    && ltb f.detail (label_count (chooser new old f))

-- "the missing label is handed back as a part of the chooser's name bytes .. If it does not fit, the part is empty."
unfoldable pub missing_label : {E : Type 0} → Table → List ℕ → Table → List ℕ → Result Verdict E → List ℕ
missing_label new new_names old old_names (Ok (verdict.Yes c)) = []
missing_label new new_names old old_names (Err e) = []
missing_label new new_names old old_names (Ok (verdict.No f)) =
    elim (found_fits new new_names old old_names f) [
      | true ↦ spelling_at (chooser new old f) (chooser_names new new_names old_names f) f.detail
      | false ↦ []
    ]

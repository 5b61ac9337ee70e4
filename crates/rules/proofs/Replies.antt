-- What replies are made of: a table made is no refusal, a refusal's number and place are its own, and a verdict's answer holds what it says.
-- Assumes nothing.
use mathlib.Core.List.{List}
use mathlib.Core.Path.{◌≡◌, ap}
use Prim.Native.Nat.{ℕ}
use lib.ListN.{length, take, drop}
use lib.Seq.{take-append_seam}
use Rattle.rules.specs.Replies.{Areas, NoRefusal, SaysYes, SaysNo, Replaces, says_yes, says_no, made, refused}
use Rattle.table.specs.declared.Table.{Table}
use Rattle.std.specs.Prelude.{Result, Ok, Err, ⊤}
use Rattle.table.specs.declared.answers.RefusalKind.{RefusalKind}
use Rattle.table.specs.declared.answers.Refusal.{Refusal}
use Rattle.table.specs.declared.answers.Found.{Found}
use Rattle.table.specs.declared.answers.Made.{Made}
use Rattle.table.specs.declared.answers.Verdict.TheVariants as the

pub made_not_refused : {t : Table} {k : RefusalKind} {p : ℕ} → made t ≡ refused k p → ⊥
made_not_refused {t} {k} {p} e = apart (ap (λ (m : Made). m.answer) e)
  where
    apart : {a : ⊤} {r : Refusal} → ◌≡◌ {A = Result ⊤ Refusal} (Ok a) (Err r) → ⊥
    apart q = absurd cc

pub refused_one : {k j : RefusalKind} {p q : ℕ} → refused k p ≡ refused j q → (k ≡ j) × (p ≡ q)
refused_one {k} {j} {p} {q} e = parts (ap (λ (m : Made). m.answer) e)
  where
    parts : {r s : Refusal} → ◌≡◌ {A = Result ⊤ Refusal} (Err r) (Err s) → (r.kind ≡ s.kind) × (r.place ≡ s.place)
    parts d = (cc, cc)

module _ {new : Table} {new_names : List ℕ} {old : Table} {old_names : List ℕ} {before after : Areas} where
  pub yes_means :
      {c : ℕ} → Replaces new new_names old old_names before after (Ok (the.Yes c))
      → NoRefusal new new_names old old_names before × SaysYes new new_names old old_names before after c
  yes_means (says_yes F Y) = (F, Y)

  pub no_means :
      {f : Found} → Replaces new new_names old old_names before after (Ok (the.No f))
      → NoRefusal new new_names old old_names before × SaysNo new new_names old old_names before after f
  no_means (says_no F X) = (F, X)

  -- the steps that are printed are the run
  pub steps_run : {f : Found} (X : SaysNo new new_names old old_names before after f) → take f.steps after.path ≡ X.run
  steps_run {f} X =
      let e : f.steps ≡ length X.run = ap (λ (g : Found). g.steps) X.returned in
      rw (e, X.path) (take-append_seam X.run (drop (length X.run) before.path))

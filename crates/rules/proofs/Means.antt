-- What a reply means: a yes that new may replace old, a no that it may not; when the dual is refused and when it is given; and what a yes
-- and a no mean for compatible, through the dual.
-- Assumes nothing.
use mathlib.Core.Bool.{Bool, true, false}
use mathlib.Core.List.{List}
use mathlib.Core.Option.{some}
use mathlib.Core.Path.{◌≡◌, refl, sym, ap, ◌∙◌, subst}
use Prim.Native.Nat.{ℕ, ◌+◌, ◌<◌, ◌≤◌}
use native.Mathlib.Decide.{dec_lt}
use native.Mathlib.Omega.{arith}
use borrow.Author.Tests.{lt-ltb, le-ltb}
use Rattle.rules.proofs.DualFormed.{dual_formed}
use Rattle.rules.proofs.Formed.{formed}
use Rattle.rules.proofs.Remade.{dual_size}
use Rattle.rules.proofs.Replies.{made_not_refused, yes_means, no_means}
use Rattle.rules.proofs.Smallest.{closed_no_mismatch}
use Rattle.rules.specs.Dual.{dual, dual_count, hands_over}
use Rattle.rules.specs.Formed.{well_formed}
use Rattle.rules.specs.Numbers.{table_nodes_most}
use Rattle.std.specs.Prelude.{Ok}
use Rattle.table.specs.declared.answers.RefusalKind.TheVariants as kind
use Rattle.rules.specs.Replace.{MayReplace, Compatible}
use Rattle.rules.specs.Replies.{Areas, AsksCompatible, then_verdict, Replaces, dual_reply, made, refused}
use Rattle.table.specs.declared.Table.{Table}
use Rattle.table.specs.declared.answers.Found.{Found}
use Rattle.table.specs.declared.answers.Made.{Made}
use Rattle.table.specs.declared.answers.Verdict.TheVariants as the

module _ {new : Table} {new_names : List ℕ} {old : Table} {old_names : List ℕ} {before after : Areas} where
  pub yes-may_replace : {c : ℕ} → Replaces new new_names old old_names before after (Ok (the.Yes c)) → MayReplace new new_names old old_names
  yes-may_replace r = let Y = (yes_means r).1 in record { set = Y.set; closed = Y.smallest.closed }

  pub no_may_not_replace :
      {f : Found} → Replaces new new_names old old_names before after (Ok (the.No f)) → MayReplace new new_names old old_names → ⊥
  no_may_not_replace r m = let X = (no_means r).1 in X.wrong (closed_no_mismatch m.closed X.run X.end X.runs)

-- What the dual is refused for, and what it is given for: each exactly then.
module _ (t : Table) (names : List ℕ) where
  pub dual_not_formed : well_formed t names ≡ false → dual_reply t names ≡ refused kind.NotWellFormed 1
  unfolding dual_reply
  dual_not_formed f = rw (dual_reply, f) refl

  pub dual_large :
      well_formed t names ≡ true → table_nodes_most < dual_count (hands_over t) t.count
      → dual_reply t names ≡ refused kind.DualTooLarge t.count
  unfolding dual_reply
  dual_large f l = rw (dual_reply, f, lt-ltb table_nodes_most (dual_count (hands_over t) t.count) l) refl

  pub dual_given : well_formed t names ≡ true → dual_count (hands_over t) t.count ≤ table_nodes_most → dual_reply t names ≡ made (dual t)
  unfolding dual_reply
  dual_given f l = rw (dual_reply, f, le-ltb table_nodes_most (dual_count (hands_over t) t.count) l) refl

  -- without session items it is given for every well formed table; with any, for at most half of the nodes that there is room for
  pub dual-without_items : well_formed t names ≡ true → hands_over t ≡ false → dual_reply t names ≡ made (dual t)
  dual-without_items f e = dual_given f (rw e (formed f).few_nodes)

  pub dual-with_items :
      well_formed t names ≡ true → hands_over t ≡ true → t.count + t.count ≤ table_nodes_most → dual_reply t names ≡ made (dual t)
  dual-with_items f e l = dual_given f (rw e l)

  pub dual_items_many :
      well_formed t names ≡ true → hands_over t ≡ true → table_nodes_most < t.count + t.count
      → dual_reply t names ≡ refused kind.DualTooLarge t.count
  dual_items_many f e l = dual_large f (rw e l)

-- a dual that is handed back: no refusal applied, and it is the dual
pub given_means :
    (t : Table) (names : List ℕ) (u : Table) → dual_reply t names ≡ made u
    → (well_formed t names ≡ true) × (dual_count (hands_over t) t.count ≤ table_nodes_most) × (u ≡ dual t)
given_means t names u e = go (well_formed t names) refl (dec_lt table_nodes_most (dual_count (hands_over t) t.count))
  where
    go :
        (b : Bool) → well_formed t names ≡ b → Dec (table_nodes_most < dual_count (hands_over t) t.count)
        → (well_formed t names ≡ true) × (dual_count (hands_over t) t.count ≤ table_nodes_most) × (u ≡ dual t)
    go false f d = absurd (made_not_refused (sym e ∙ dual_not_formed t names f))
    go true f (yes l) = absurd (made_not_refused (sym e ∙ dual_large t names f l))
    go true f (no l) =
        let few : dual_count (hands_over t) t.count ≤ table_nodes_most = omega arith in
        (f, few, ap (λ (m : Made). m.table) (sym e ∙ dual_given t names f few))

pub made-dual : (t : Table) (names : List ℕ) (u : Table) → dual_reply t names ≡ made u → u ≡ dual t
made-dual t names u e = (given_means t names u e).2

-- and it is well formed with the same name bytes, so that nobody is refused for it
pub given_formed : (t : Table) (names : List ℕ) (u : Table) → dual_reply t names ≡ made u → well_formed u names ≡ true
given_formed t names u e =
    let g = given_means t names u e in
    rw g.2 (dual_formed t names g.0 (rw (dual_size t refl) g.1))

module _ {new : Table} {new_names : List ℕ} {other : Table} {other_names : List ℕ} {before after : Areas} where
  pub yes_compatible :
      {m : Made} {c : ℕ} → AsksCompatible new new_names other other_names before after m (some (Ok (the.Yes c))) → Compatible new new_names other other_names
  yes_compatible (then_verdict {t} e r) =
      subst (λ (d : Table). MayReplace new new_names d other_names) (made-dual other other_names t e) (yes-may_replace r)

  pub no_not_compatible :
      {m : Made} {f : Found} → AsksCompatible new new_names other other_names before after m (some (Ok (the.No f)))
      → Compatible new new_names other other_names → ⊥
  no_not_compatible (then_verdict {t} e r) k =
      no_may_not_replace r (subst (λ (d : Table). MayReplace new new_names d other_names) (sym (made-dual other other_names t e)) k)

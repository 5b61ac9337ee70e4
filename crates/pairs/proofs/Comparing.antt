-- What is found for the chooser is what is found for two nodes, where nothing else is wrong with them.
-- Assumes nothing.
use Rattle.std.specs.Prelude.{Result, Ok, Err}
use mathlib.Core.Bool.{true, false, false≢true}
use mathlib.Core.List.{List}
use mathlib.Core.Path.{◌≡◌, refl, sym, ◌∙◌}
use Prim.Native.Nat.{ℕ}
use Rattle.rules.specs.Pairs.{Wrong, label_lacking, by_chooser, mismatch_of}
use Rattle.pairs.specs.Beside.{Placed, ChooserPlaced, Finds, Covers, Compares}
use Rattle.table.specs.declared.Kind.{Kind}
use Rattle.table.specs.declared.Kind.TheVariants.{End, Receive, Send, Branch, Choose}
use Rattle.table.specs.declared.Node.{Node}
use Rattle.table.specs.declared.answers.Mismatch.{Mismatch}

finds_likewise :
    {v w : Wrong} {P Q : List ℕ → Type 0} → v ≡ w → ((places : List ℕ) → P places → Q places) → (r : Result (List ℕ) Mismatch) → Finds w P r
    → Finds v Q r
finds_likewise e f (Ok places) C = (e ∙ C.0, f places C.1)
finds_likewise e f (Err m) C = e ∙ C

module _
    (x : Node) (xs : List ℕ) (y : Node) (ys : List ℕ) (r : Result (List ℕ) Mismatch)
    (e : mismatch_of x xs y ys ≡ by_chooser x.kind (label_lacking x xs y ys) (label_lacking y ys x xs))
  where
    pub compared_left : by_chooser x.kind true false ≡ true → Covers x xs y ys r → Compares x xs y ys r
    compared_left f = let g = chosen x.kind f in finds_likewise (e ∙ g.0) g.1 r
      where
        chosen :
            (k : Kind) → by_chooser k true false ≡ true
            → (by_chooser k (label_lacking x xs y ys) (label_lacking y ys x xs) ≡ label_lacking x xs y ys)
            × ((places : List ℕ) → Placed x xs y ys places → ChooserPlaced k x xs y ys places)
        chosen End f = absurd (false≢true f)
        chosen Receive f = absurd (false≢true f)
        chosen Send f = absurd (false≢true f)
        chosen Branch f = (refl, λ places P. P)
        chosen Choose f = absurd (false≢true f)

    pub compared_right : by_chooser x.kind true false ≡ false → Covers y ys x xs r → Compares x xs y ys r
    compared_right f = let g = chosen x.kind f in finds_likewise (e ∙ g.0) g.1 r
      where
        chosen :
            (k : Kind) → by_chooser k true false ≡ false
            → (by_chooser k (label_lacking x xs y ys) (label_lacking y ys x xs) ≡ label_lacking y ys x xs)
            × ((places : List ℕ) → Placed y ys x xs places → ChooserPlaced k x xs y ys places)
        chosen End f = (refl, λ places P. P)
        chosen Receive f = (refl, λ places P. P)
        chosen Send f = (refl, λ places P. P)
        chosen Branch f = absurd (false≢true (sym f))
        chosen Choose f = (refl, λ places P. P)

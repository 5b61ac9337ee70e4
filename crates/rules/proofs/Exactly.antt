-- What each reply to a text says, and that nothing more is asked for it: a table is the table of the text's tree, and no refusal applies;
-- a refusal applies, and none goes before it.
-- Assumes nothing.
use mathlib.Core.List.{List}
use mathlib.Core.Logic.{◌↔◌}
use mathlib.Core.Path.{◌≡◌, refl, sym, ap}
use Prim.Native.Nat.{ℕ}
use Rattle.rules.specs.Notation.{Text, Writes}
use Rattle.rules.specs.Numbering.{table_of}
use Rattle.rules.specs.Tokens.{Token}
use Rattle.rules.specs.Refusals.{number, Fault, long_text, no_text_has, none_may_end, at_token, undefined_name, round_name, Seen, TokenFault, long_word, open_bracket, definition_more, node_more, label_more, item_more, same_label, same_name, GoesFirst}
use Rattle.rules.specs.Replies.{Reads, accepts, refuses, made, refused}
use Rattle.rules.proofs.Replies.{made_not_refused, refused_one}
use Rattle.table.specs.declared.Table.{Table}
use Rattle.table.specs.declared.answers.Made.{Made}
use Rattle.table.specs.declared.answers.RefusalKind.{RefusalKind}
use Rattle.table.specs.declared.answers.RefusalKind.TheVariants as kind

pub accepted_exactly :
    (s : List ℕ) (t : Table) → Reads s (made t) ↔ ((x : Text) × Writes s x × (t ≡ table_of x) × ((n p : ℕ) → Fault s n p → ⊥))
accepted_exactly s t = (λ r. there r refl, λ (x, w, e, f). rw e (accepts w f))
  where
    there : {m : Made} → Reads s m → m ≡ made t → (x : Text) × Writes s x × (t ≡ table_of x) × ((n p : ℕ) → Fault s n p → ⊥)
    there (accepts {x} w f) e = (x, w, ap (λ (m : Made). m.table) (sym e), f)
    there (refuses f g) e = absurd (made_not_refused (sym e))

-- The same of a refusal by its kind ..
pub refused_by_kind :
    (s : List ℕ) (k : RefusalKind) (p : ℕ)
    → Reads s (refused k p) ↔ (Fault s (number k) p × ((m q : ℕ) → Fault s m q → GoesFirst m q (number k) p → ⊥))
refused_by_kind s k p = (λ r. there r refl, λ (f, g). refuses f g)
  where
    there :
        {r : Made} → Reads s r → r ≡ refused k p
        → Fault s (number k) p × ((m q : ℕ) → Fault s m q → GoesFirst m q (number k) p → ⊥)
    there (accepts w f) e = absurd (made_not_refused e)
    there (refuses f g) e = let (a, b) = refused_one e in rw (← a, ← b) (f, g)

-- .. and each refusal that may apply to a text has a kind,
token_kind : {z : Seen} {t : Token} {n : ℕ} → TokenFault z t n → (k : RefusalKind) × (number k ≡ n)
token_kind (long_word l) = (kind.WordTooLong, refl)
token_kind (open_bracket o l) = (kind.BracketTooMany, refl)
token_kind (definition_more d l) = (kind.OneTooMany, refl)
token_kind (node_more d l) = (kind.OneTooMany, refl)
token_kind (label_more d l) = (kind.OneTooMany, refl)
token_kind (item_more d l) = (kind.OneTooMany, refl)
token_kind (same_label d l) = (kind.LabelTwice, refl)
token_kind (same_name d l) = (kind.NameTwice, refl)

pub fault_kind : {s : List ℕ} {n p : ℕ} → Fault s n p → (k : RefusalKind) × (number k ≡ n)
fault_kind (long_text l) = (kind.TextTooLong, refl)
fault_kind (no_text_has S c f) = (kind.Unexpected, refl)
fault_kind (none_may_end c f) = (kind.Unexpected, refl)
fault_kind (at_token S f) = token_kind f
fault_kind (undefined_name w o e) = (kind.NeverDefined, refl)
fault_kind (round_name w o e) = (kind.LeadsRound, refl)

-- so that it is so of every number.
pub refused_exactly :
    (s : List ℕ) (n p : ℕ)
    → ((k : RefusalKind) × (number k ≡ n) × Reads s (refused k p))
    ↔ (Fault s n p × ((m q : ℕ) → Fault s m q → GoesFirst m q n p → ⊥))
refused_exactly s n p = (
  λ (k, e, r). rw (← e) ((refused_by_kind s k p).0 r),
  λ (f, g). let (k, e) = fault_kind f in (k, e, (refused_by_kind s k p).1 (rw e (f, g))),
)

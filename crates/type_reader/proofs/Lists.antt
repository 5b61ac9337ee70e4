-- A list in brackets: its end, a mark between two entries, an entry that is written, and one entry more in front.
-- Assumes nothing.
use mathlib.Core.List.{List, [], ◌∷◌, ◌++◌}
use mathlib.Core.Logic.{inl, inr}
use mathlib.Core.Option.{none}
use mathlib.Core.Path.{◌≡◌, refl, ap, ◌∙◌}
use Prim.Native.Nat.{ℕ, suc, ◌+◌, ◌*◌, ◌≤◌}
use native.Mathlib.Omega.{arith}
use lib.ListN.{length, get_or}
use Rattle.rules.specs.Tokens.{Token, one_byte, symbols}
use Rattle.rules.specs.Notation.{Ty}
use Rattle.rules.specs.Numbering.{behind}
use Rattle.rules.specs.Refusals.{Begins, nothing_new, entries_after, bracket_closed}
use Rattle.rules.specs.computed.Reading.{token_fault}
use Rattle.rules.proofs.Links.{behind_more}
use Rattle.rules.proofs.Machine.{Stack, on, step}
use Rattle.rules.proofs.Reached.{Reached}
use Rattle.rules.proofs.OneToken.{counted, next_symbol, nodes_same, brackets_plain, brackets_shut}
use Rattle.rules.proofs.TokensBehind.{tokens_behind}
use Rattle.cursor.specs.Takes.{Takes, kind_of}
use Rattle.cursor.specs.declared.Cursor.{Cursor}
use Rattle.cursor.specs.declared.Taken.{Taken}
use Rattle.flat.specs.Flat.{room, used, Holds, Stored, Kept, KeptBut}
use Rattle.type_reader.specs.Answers.{TypeRoom, alone, as_item, PastType, PastList}
use Rattle.type_reader.proofs.Took.{took_byte, took_symbols, took_counted, fault_here}
use Rattle.type_reader.proofs.Signs.{short_token, Plain}
use Rattle.type_reader.proofs.Begins.{kept_all, names_room}
use Rattle.type_reader.proofs.Standing.{kept_then}
use Rattle.type_reader.proofs.Messages.{holds_from}
use Rattle.type_reader.proofs.ItemSteps.{Closing}
use Rattle.type_reader.proofs.Frames.{Same, holds_none, holds_more, holds_same, stored_same}

closed_room : {nx : Begins} {es : List (List ℕ)} {bs : List (List (List ℕ))} → TypeRoom nx (es ∷ bs) → (w : List ℕ) → bracket_closed (entries_after nx w (es ∷ bs)) ≡ bs
closed_room alone w = refl
closed_room (as_item l) w = refl

module _
    {s : List ℕ} {c : Cursor} {t : Taken} (k : Takes s c t) {b : ℕ} (e : kind_of t ≡ b) {J K : Stack} {nx : Begins} (ns es : List (List ℕ))
    (bs : List (List (List ℕ))) (fits : TypeRoom nx (es ∷ bs)) (r : Reached s (tokens_behind s c.at) J (counted nx c.nodes ns (es ∷ bs)))
    (leads : step J (one_byte b) ≡ on K) where
  -- the closing bracket
  pub list_closes :
      Closing b
      → Reached s (tokens_behind s t.next.at) K (counted nothing_new t.next.nodes ns bs)
      × (symbols (tokens_behind s c.at) ≡ one_byte b ∷ symbols (tokens_behind s t.next.at))
  list_closes p =
      let d = took_byte k.ahead b e p.byte in
      let f : token_fault (counted nx c.nodes ns (es ∷ bs)) d.token ≡ none =
      fault_here d.token (one_byte b) nx c.nodes ns (es ∷ bs) d.means (short_token k.ahead d (λ q. omega (arith, p.byte))) fits
      ∙ rw (p.no_opening, p.no_node) refl in
      let g = took_counted d nx c.nodes ns (es ∷ bs) r leads f in (
        rw k.nodes
            (rw (
              p.goes_on,
              nodes_same (one_byte b) c.nodes p.no_node,
              brackets_shut (one_byte b) (entries_after nx d.token.spelled (es ∷ bs)) p.no_opening p.closing,
              names_room fits d.token.spelled ns,
              closed_room fits d.token.spelled,
            ) at g),
        took_symbols d,
      )

-- a mark between two entries
pub mark_taken :
    {s : List ℕ} {c : Cursor} {t : Taken} (k : Takes s c t) {b : ℕ} (e : kind_of t ≡ b) {J K : Stack} (ns : List (List ℕ)) (bs : List (List (List ℕ)))
    → Plain b → Reached s (tokens_behind s c.at) J (counted nothing_new c.nodes ns bs) → step J (one_byte b) ≡ on K
    → Reached s (tokens_behind s t.next.at) K (counted (next_symbol (one_byte b)) t.next.nodes ns bs)
    × (symbols (tokens_behind s c.at) ≡ one_byte b ∷ symbols (tokens_behind s t.next.at))
mark_taken {s} {c} {t} k {b} e ns bs p r leads =
    let d = took_byte k.ahead b e p.byte in
    let f : token_fault (counted nothing_new c.nodes ns bs) d.token ≡ none =
    fault_here d.token (one_byte b) nothing_new c.nodes ns bs d.means (short_token k.ahead d (λ q. omega (arith, p.byte))) alone
    ∙ rw (p.no_opening, p.no_node) refl in
    let g = took_counted d nothing_new c.nodes ns bs r leads f in
    (rw k.nodes (rw (nodes_same (one_byte b) c.nodes p.no_node, brackets_plain (one_byte b) bs p.no_opening p.no_closing) at g), took_symbols d)

-- a list that ends here
pub list_ended :
    {s : List ℕ} (a b : List ℕ) {c : Cursor} {t : Taken} → Takes s c t → {K : Stack} {ns : List (List ℕ)} {bs : List (List (List ℕ))} (from to : ℕ)
    → Reached s (tokens_behind s t.next.at) K (counted nothing_new t.next.nodes ns bs)
    → PastList s a b a b K ns bs c.nodes c.uses c.nodes c.uses from to [] (Unit {0}) t.next
list_ended a b k from to r =
    record {
      reached = r;
      nodes = k.nodes;
      uses = k.uses;
      holds = holds_none a from;
      stored = tt;
      kept = record { each = λ i l h. refl };
      kept_uses = kept_all b _;
    }

-- numbers one behind the other
pub holds_then : {a : List ℕ} (i : ℕ) (xs ys : List ℕ) → Holds a i xs → Holds a (i + length xs) ys → Holds a i (xs ++ ys)
holds_then i [] ys h g = holds_from i g (omega arith)
holds_then {a} i (v ∷ xs) ys h g =
    holds_more i v (xs ++ ys) (ap (λ n. get_or a n 0) (omega arith) ∙ h.each 0 (omega arith))
    (holds_then (i + 1) xs ys (record { each = λ j l. ap (λ n. get_or a n 0) (omega arith) ∙ h.each (suc j) (omega arith) })
    (holds_from (i + 1 + length xs) g (omega arith)))

-- an entry that was read, and the list behind it
pub entry_then :
    {s a b a₁ b₁ a₂ b₂ : List ℕ} {J K : Stack} {ns : List (List ℕ)} {bs bs₁ : List (List (List ℕ))} {k u k₁ u₁ k' u' from next to : ℕ} (cells more : List ℕ)
    {One Rest All : Type 0} {c c' : Cursor} → k ≤ k₁ → u ≤ u₁ → next ≡ from + length cells → next ≤ to → to ≤ k * room
    → PastList s a b a₁ b₁ J ns bs₁ k u k₁ u₁ from to cells One c
    → (One → Same a₁ a₂ (k * room) (k₁ * room) → Same b₁ b₂ u u₁ → Rest → All)
    → PastList s a₁ b₁ a₂ b₂ K ns bs k₁ u₁ k' u' next to more Rest c'
    → PastList s a b a₂ b₂ K ns bs k u k' u' from to (cells ++ more) All c'
entry_then {a₁ = a₁} {a₂ = a₂} {from = from} cells more m n e o q p f z =
    let stays : Same a₁ a₂ from (from + length cells) = record { each = λ i g h. z.kept.each i (omega arith) (inl (omega arith)) } in
    record {
      reached = z.reached;
      nodes = z.nodes;
      uses = z.uses;
      holds =
          holds_then from cells more (holds_same from cells p.holds stays (omega arith) (omega arith)) (holds_from (from + length cells) z.holds e);
      stored =
          f p.stored (record { each = λ i g h. z.kept.each i h (inr (omega arith)) }) (record { each = λ i g h. z.kept_uses.each i h })
          z.stored;
      kept =
          record {
            each = λ i g h. z.kept.each i (omega arith) (elim h [ inl l ↦ inl (omega arith) | inr l ↦ inr l ]) ∙ p.kept.each i g h;
          };
      kept_uses = kept_then p.kept_uses z.kept_uses n;
    }

-- an entry whose type was read, and whose numbers were then written
pub entry_written :
    {s a b a₁ b₁ a₂ : List ℕ} {t : Taken} {ts : List Token} {K L : Stack} {nx : Begins} {ns : List (List ℕ)} {bs bs₁ : List (List (List ℕ))}
    {link k u from to : ℕ} {c : Cursor} (x : Ty) (cells : List ℕ) → t.next.nodes ≡ k → t.next.uses ≡ u → to ≤ k * room
    → PastType s a b a₁ b₁ t ts L nx ns bs₁ x link c → Reached s (tokens_behind s c.at) K (counted nothing_new c.nodes ns bs)
    → KeptBut a₁ a₂ from to (behind x k * room) → Holds a₂ from cells
    → PastList s a b a₂ b₁ K ns bs k u (behind x k) (used x u) from to cells (Stored a₂ b₁ x k u) c
entry_written {a = a} {b = b} {a₁ = a₁} {b₁ = b₁} {a₂ = a₂} {k = k} {u = u} x cells m n l p r one h =
    let more = behind_more x k in
    let kept : Kept a a₁ (k * room) = (rw m at p).kept in
    record {
      reached = r;
      nodes = p.nodes ∙ ap (λ w. behind x w) m;
      uses = p.uses ∙ ap (λ w. used x w) n;
      holds = h;
      stored =
          stored_same a₁ b₁ a₂ b₁ x k u (rw (m, n) at p).stored (record { each = λ q f g. one.each q g (inr (omega arith)) })
          (record { each = λ q f g. refl });
      kept = record { each = λ q f g. one.each q (omega arith) g ∙ kept.each q f };
      kept_uses = (rw n at p).kept_uses;
    }

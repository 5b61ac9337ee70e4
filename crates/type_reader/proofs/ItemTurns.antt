-- The loop over the items of a message: what is answered for the items still to be read is what is answered for all of them.
-- Assumes nothing.
use mathlib.Core.List.{List, [], ◌∷◌}
use mathlib.Core.Path.{◌≡◌, refl, sym, ap, ◌∙◌}
use Prim.Native.Char.{code}
use Prim.Native.Nat.{ℕ, suc, ◌+◌, ◌*◌, ◌<◌, ◌≤◌}
use native.Mathlib.Omega.{arith}
use lib.ListN.{length}
use Rattle.rules.specs.Tokens.{Token, Symbol, reserved_word, one_byte, symbol, symbols}
use Rattle.rules.specs.Notation.{Way, Items, no_items, sort, session, sign, closing, sort_position, parted, write_type, write_items}
use Rattle.rules.specs.Numbers.{items_most}
use Rattle.rules.specs.Numbering.{behind}
use Rattle.rules.specs.Refusals.{number, Begins, an_item, nothing_new}
use Rattle.rules.specs.Replies.{refusal}
use Rattle.rules.proofs.Links.{behind_more}
use Rattle.rules.proofs.Machine.{some_items, more_items, Stack, on, step, close_byte}
use Rattle.rules.proofs.Machine as expect
use Rattle.rules.proofs.Reached.{Reached, Refuses}
use Rattle.rules.proofs.OneToken.{counted}
use Rattle.rules.proofs.TokensBehind.{tokens_behind}
use Rattle.cursor.specs.Takes.{Ahead, Takes, kind_of}
use Rattle.cursor.specs.declared.Cursor.{Cursor}
use Rattle.cursor.specs.declared.Taken.{Taken}
use Rattle.cursor.proofs.Symbols.{kind_of_byte}
use Rattle.flat.specs.Flat.{room, list_from, a_session, sort_number, raw, raw_items, used}
use Rattle.type_reader.specs.Leaves.{Got, Moved, got}
use Rattle.type_reader.specs.Answers.{Acts, first_spelled, TypeRoom, alone, as_item, TokenReady, ItemGot, ItemsGot, ItemRead, ItemsRead}
use Rattle.type_reader.specs.Answers as answers
use Rattle.std.specs.Prelude.{Ok, Err}
use Rattle.table.specs.declared.answers.Refusal.{Refusal}
use Rattle.table.specs.declared.answers.RefusalKind.TheVariants as kinds
use Rattle.type_reader.proofs.Took.{not_here}
use Rattle.type_reader.proofs.Messages.{acts_self}
use Rattle.type_reader.proofs.ItemSteps.{first_item, close_items, closing_sign, none_closes, rest_closes, rest_comma, rest_stuck, comma, comma_next}
use Rattle.type_reader.proofs.Lists.{list_closes, mark_taken, list_ended, entry_then}
use Rattle.type_reader.proofs.Items.{Due}
use Rattle.type_reader.proofs.Frames.{stored_same, used_more}

-- the tokens ts are the items xs, one at least, and what closes them
abbrev Some : Way → List Token → Items → List Symbol → Type 0
Some d ts xs k = (symbols ts ≡ write_items d xs k) × ((l : List Symbol) → parted xs l ≡ sign "," ∷ l)

-- the tokens ts, behind an item, are the items xs and what closes them: they begin with a comma if there are any
abbrev Further : Way → List Token → Items → List Symbol → Type 0
Further d ts xs k = symbols ts ≡ parted xs (write_items d xs k)

-- the same answer, said of what is written in another way
module _ {s a b a' b' : List ℕ} (d : Way) (ts : List Token) {K : Stack} {ns : List (List ℕ)} {bs : List (List (List ℕ))} {k u node n : ℕ} where
  only_written :
      {r : Got} → ItemsGot s a b a' b' (Some d ts) K ns bs k u node n r → ItemsGot s a b a' b' (λ xs k. symbols ts ≡ write_items d xs k) K ns bs k u node n r
  only_written (answers.refused h) = answers.refused h
  only_written (answers.past xs w q m h) = answers.past xs w.0 q m h

  with_comma :
      {r : Got} (us : List Token) → symbols us ≡ one_byte (code ",") ∷ symbols ts → ItemsGot s a b a' b' (Some d ts) K ns bs k u node n r
      → ItemsGot s a b a' b' (Further d us) K ns bs k u node n r
  with_comma us e (answers.refused h) = answers.refused h
  with_comma us e (answers.past {c} xs w q m h) =
      answers.past xs (e ∙ ap (λ k. one_byte (code ",") ∷ k) w.0 ∙ sym (w.1 (write_items d xs (symbols (tokens_behind s c.at))))) q m h

-- an item that was read, and those behind it
item_then :
    {s a b a₁ b₁ a₂ b₂ : List ℕ} {d : Way} {ts : List Token} {K : Stack} {ns es : List (List ℕ)} {bs : List (List (List ℕ))} {k u node n : ℕ} {c : Cursor}
    {r : Got} → node < k → n < items_most → ItemGot s a b a₁ b₁ d ts K ns es bs k u node n (Ok c)
    → ItemsGot s a₁ b₁ a₂ b₂ (Further d (tokens_behind s c.at)) K ns bs c.nodes c.uses node (n + 1) r
    → ItemsGot s a b a₂ b₂ (Some d ts) K ns bs k u node n r
item_then i m h (answers.refused z) = answers.refused z
item_then {k = k} {u = u} i m (answers.past_sort y e p) (answers.past {v} {c = c'} xs z count most w) =
    answers.past {v = v} {c = c'} (sort y xs) (e ∙ ap (λ k. reserved_word (sort_position y) ∷ k) z, λ l. refl) (omega arith) most
    (entry_then (sort_number y ∷ []) (raw_items xs k u) (omega arith) (omega arith) (omega arith) (omega arith) (omega arith) p (λ q f g o. o) (rw (p.nodes, p.uses) at w))
item_then {a₁ = a₁} {b₁} {a₂} {b₂} {k = k} {u = u} i m (answers.past_session x e p) (answers.past {v} {c = c'} xs z count most w) =
    answers.past {v = v} {c = c'} (session x xs) (e ∙ ap (λ k. write_type x k) z, λ l. refl) (omega arith) most
    (entry_then ((a_session + raw x k u) ∷ []) (raw_items xs (behind x k) (used x u)) (behind_more x k) (used_more x u) (omega arith) (omega arith)
    (omega arith) p (λ q f g o. (stored_same a₁ b₁ a₂ b₂ x k u q f g, o)) (rw (p.nodes, p.uses) at w))

-- where an item leads that was read
behind_item :
    {s a b a₁ b₁ : List ℕ} {d : Way} {ts : List Token} {K : Stack} {ns es : List (List ℕ)} {bs : List (List (List ℕ))} {k u node n : ℕ} {c : Cursor}
    → ItemGot s a b a₁ b₁ d ts K ns es bs k u node n (Ok c)
    → Reached s (tokens_behind s c.at) (more_items d ∷ K) (counted nothing_new c.nodes ns ((first_spelled ts ∷ es) ∷ bs))
behind_item (answers.past_sort y e p) = p.reached
behind_item (answers.past_session x e p) = p.reached

refused_item :
    {s a b a₁ b₁ : List ℕ} {d : Way} {ts : List Token} {K : Stack} {ns es : List (List ℕ)} {bs : List (List (List ℕ))} {k u node n : ℕ} {no : Refusal}
    → ItemGot s a b a₁ b₁ d ts K ns es bs k u node n (Err no) → Refuses s (number no.kind) no.place
refused_item (answers.refused r) = r

-- the closing bracket: no further items
items_closed :
    {s : List ℕ} (a b : List ℕ) (d : Way) {c : Cursor} {t : Taken} {J K : Stack} {nx : Begins} (ns es : List (List ℕ)) (bs : List (List (List ℕ)))
    {W : Items → List Symbol → Type 0} (node n : ℕ) → Takes s c t → kind_of t ≡ close_byte d → TypeRoom nx (es ∷ bs)
    → Reached s (tokens_behind s c.at) J (counted nx c.nodes ns (es ∷ bs)) → step J (one_byte (close_byte d)) ≡ on K → n ≤ items_most
    → ((k : List Symbol) → symbols (tokens_behind s c.at) ≡ closing d ∷ k → W no_items k)
    → ItemsGot s a b a b W K ns bs c.nodes c.uses node n (got n t.next)
items_closed {s} a b d {t = t} ns es bs node n k e fits r leads m f =
    let g = list_closes k e ns es bs fits r leads (close_items d) in
    let rest : List Symbol = symbols (tokens_behind s t.next.at) in
    answers.past {v = n} {c = t.next} no_items (f rest (g.1 ∙ ap (λ y. y ∷ rest) (sym (closing_sign d)))) (omega arith) m (list_ended a b k (node * room + list_from + n) (node * room + room) g.0)

-- all that a reader of items is told of where they begin, at the token t
pub record Beginning (s : List ℕ) (t : Taken) (closing deep : ℕ) : Type 0 where
  pub d : Way
  pub K : Stack
  pub ns : List (List ℕ)
  pub bs : List (List (List ℕ))
  pub closes : closing ≡ close_byte d
  pub depth : suc (length bs) ≡ deep
  pub due : Due s t d K ns bs 0

-- Of the items from the token t₀ on n were read, and a further one is due at the token t: whatever those from there on come to, all together come
-- to the same. The areas were a₀ and b₀, and are a and b.
pub record Turning (s a₀ b₀ a b : List ℕ) (closing deep node : ℕ) (t₀ t : Taken) (n : ℕ) : Type 0 where
  pub ready : TokenReady s a b t
  pub onward : t₀.at ≤ t.at
  pub more : t₀.next.nodes ≤ t.next.nodes
  pub due : (z : Beginning s t₀ closing deep) → Due s t z.d z.K z.ns z.bs n
  pub whole :
      (z : Beginning s t₀ closing deep) (a' b' : List ℕ) (r : Got)
      → ItemsGot s a b a' b' (Some z.d (due z).ts) z.K z.ns z.bs t.next.nodes t.next.uses node n r
      → ItemsGot s a₀ b₀ a' b' (Some z.d z.due.ts) z.K z.ns z.bs t₀.next.nodes t₀.next.uses node 0 r

pub turn_first : {s a b : List ℕ} {closing deep node : ℕ} {t : Taken} → TokenReady s a b t → Turning s a b a b closing deep node t t 0
turn_first r = record { ready = r; onward = omega arith; more = omega arith; due = λ z. z.due; whole = λ z a' b' o g. g }

-- an item that is not the closing bracket is read as behind a comma
acts_first :
    {s : List ℕ} (d : Way) (K : Stack) {t : Taken} (ts : List Token) → Ahead s t ts → (kind_of t ≡ close_byte d → ⊥)
    → Acts (some_items d ∷ K) (expect.an_item d ∷ K) ts
acts_first d K [] h n = tt
acts_first d K (u ∷ k) h n = first_item d K (symbol u) (λ e. n (h.is ∙ rw e (kind_of_byte (close_byte d) (close_items d).byte)))

-- behind the opening bracket: the token t₀ closes the list, or items begin with it
module _ {s : List ℕ} {c : Cursor} {t₀ : Taken} (k₀ : Takes s c t₀) {closing deep node : ℕ} where
  pub turn_none :
      (a b : List ℕ) → kind_of t₀ ≡ closing → (d : Way) → closing ≡ close_byte d → ItemsRead s a b a b d c deep node (got 0 t₀.next)
  turn_none a b e d x =
      record {
        told = λ K ns bs r q. items_closed a b d ns [] bs node 0 k₀ (e ∙ x) (as_item (omega arith)) r (none_closes d K) (omega arith) (λ k e. e);
      }

  module _ (some : kind_of t₀ ≡ closing → ⊥) where
    items_read :
        {a b a' b' : List ℕ} {r : Got}
        → ((z : Beginning s t₀ closing deep) → ItemsGot s a b a' b' (Some z.d z.due.ts) z.K z.ns z.bs t₀.next.nodes t₀.next.uses node 0 r)
        → (d : Way) → closing ≡ close_byte d → ItemsRead s a b a' b' d c deep node r
    items_read f d x =
        record {
          told = λ K ns bs r q.
              let ts : List Token = tokens_behind s c.at in
              let due : Due s t₀ d K ns bs 0 =
              record {
                ts = ts;
                x = some_items d;
                J = K;
                es = [];
                ahead = k₀.ahead;
                acts = acts_first d K ts k₀.ahead (λ e. some (e ∙ sym x));
                reached = rw k₀.nodes r;
                long = refl;
              } in
              let g = f (record { d = d; K = K; ns = ns; bs = bs; closes = x; depth = q; due = due }) in
              only_written d ts (rw (k₀.nodes, k₀.uses) at g);
        }

    -- one turn: the item at t is read
    module _ {a₀ b₀ a b a₁ b₁ : List ℕ} {t : Taken} {n : ℕ} (g : Turning s a₀ b₀ a b closing deep node t₀ t n) where
      item_told :
          {r : Moved} → ItemRead s a b a₁ b₁ t deep node n r → (z : Beginning s t₀ closing deep)
          → ItemGot s a b a₁ b₁ z.d (g.due z).ts z.K z.ns (g.due z).es z.bs t.next.nodes t.next.uses node n r
      item_told f z =
          let y = g.due z in
          f.told z.d y.ts y.x y.J z.K z.ns y.es z.bs y.ahead y.acts y.reached y.long z.depth

      pub turn_refused :
          {no : Refusal} → ItemRead s a b a₁ b₁ t deep node n (Err no) → (d : Way) → closing ≡ close_byte d
          → ItemsRead s a₀ b₀ a₁ b₁ d c deep node (Err no)
      turn_refused {no} f = items_read (λ z. g.whole z a₁ b₁ (Err no) (answers.refused {no = no} (refused_item (item_told f z))))

      module _ {c₁ : Cursor} (f : ItemRead s a b a₁ b₁ t deep node n (Ok c₁)) (i : node < t₀.next.nodes) {t₁ : Taken} (k₁ : Takes s c₁ t₁) where
        here :
            (z : Beginning s t₀ closing deep)
            → ItemGot s a b a₁ b₁ z.d (g.due z).ts z.K z.ns (g.due z).es z.bs t.next.nodes t.next.uses node n (Ok c₁)
        here z = item_told f z

        inside : node < t.next.nodes
        inside = omega (arith, g.more)

        -- what was counted in the brackets, with this item
        abbrev entries : Beginning s t₀ closing deep → List (List ℕ)
        entries z = first_spelled (g.due z).ts ∷ (g.due z).es

        pub turn_closed :
            kind_of t₁ ≡ closing → (d : Way) → closing ≡ close_byte d → ItemsRead s a₀ b₀ a₁ b₁ d c deep node (got (n + 1) t₁.next)
        turn_closed q =
            items_read (λ z.
            g.whole z a₁ b₁ (got (n + 1) t₁.next)
            (item_then inside (f.few refl) (here z)
            (items_closed a₁ b₁ z.d z.ns (entries z) z.bs node (n + 1) k₁ (q ∙ z.closes) alone (behind_item (here z)) (rest_closes z.d z.K) (omega (arith, f.few refl)) (λ k o. o))))

        pub turn_other :
            (kind_of t₁ ≡ closing → ⊥) → (kind_of t₁ ≡ code "," → ⊥) → (d : Way) → closing ≡ close_byte d
            → ItemsRead s a₀ b₀ a₁ b₁ d c deep node (Err (refusal kinds.Unexpected t₁.at))
        turn_other p q =
            items_read (λ z.
            g.whole z a₁ b₁ (Err (refusal kinds.Unexpected t₁.at))
            (answers.refused
            (not_here k₁.ahead g.ready.ready.short (behind_item (here z)) (λ u j o.
            rest_stuck z.d z.K (symbol u)
            (λ y. p (k₁.ahead.is ∙ rw (o, y) (kind_of_byte (close_byte z.d) (close_items z.d).byte) ∙ sym z.closes))
            (λ y. q (k₁.ahead.is ∙ rw (o, y) (kind_of_byte (code ",") (omega arith))))))))

        module _ (q : kind_of t₁ ≡ code ",") {t₂ : Taken} (k₂ : Takes s t₁.next t₂) where
          behind_comma :
              (z : Beginning s t₀ closing deep)
              → Reached s (tokens_behind s t₁.next.at) (expect.an_item z.d ∷ z.K) (counted an_item t₁.next.nodes z.ns (entries z ∷ z.bs))
              × (symbols (tokens_behind s c₁.at) ≡ one_byte (code ",") ∷ symbols (tokens_behind s t₁.next.at))
          behind_comma z =
              let o = mark_taken k₁ q z.ns (entries z ∷ z.bs) comma (behind_item (here z)) (rest_comma z.d z.K) in
              ((rw comma_next at o).0, o.1)

          pub turn_next : TokenReady s a₁ b₁ t₂ → t.at ≤ t₂.at → t.next.nodes ≤ t₂.next.nodes → Turning s a₀ b₀ a₁ b₁ closing deep node t₀ t₂ (n + 1)
          turn_next l m o =
              record {
                ready = l;
                onward = omega (arith, g.onward);
                more = omega (arith, g.more);
                due = λ z.
                    record {
                      ts = tokens_behind s t₁.next.at;
                      x = expect.an_item z.d;
                      J = z.K;
                      es = entries z;
                      ahead = k₂.ahead;
                      acts = acts_self (expect.an_item z.d ∷ z.K) (tokens_behind s t₁.next.at);
                      reached = rw k₂.nodes (behind_comma z).0;
                      long = omega (arith, (g.due z).long);
                    };
                whole = λ z a' b' y x.
                    g.whole z a' b' y
                    (item_then inside (f.few refl) (here z) (with_comma z.d (tokens_behind s t₁.next.at) (tokens_behind s c₁.at) (behind_comma z).1 (rw (k₂.nodes, k₂.uses, k₁.nodes, k₁.uses) at x)));
              }

-- A message: its sign, its items in brackets, `;`, and the type that it goes on with. One law for each answer.
-- Assumes nothing.
use mathlib.Core.List.{List, [], ◌∷◌}
use mathlib.Core.Logic.{inl, inr}
use mathlib.Core.Path.{◌≡◌, refl, sym, ap, subst, ◌∙◌}
use Prim.Native.Char.{code}
use Prim.Native.Nat.{ℕ, suc, ◌+◌, ◌*◌, ◌<◌, ◌≤◌}
use native.Mathlib.Nat.{zero-add}
use native.Mathlib.Numerals.{add-one}
use native.Mathlib.Omega.{arith}
use lib.ListN.{length}
use Rattle.rules.specs.Tokens.{Token, Symbol, one_byte, symbols}
use Rattle.rules.specs.Notation.{Way, Ty, message, Items, write_items}
use Rattle.rules.specs.Numbers.{text_most, text_nodes_most, items_most}
use Rattle.rules.specs.Numbering.{behind, behind_items}
use Rattle.rules.specs.Refusals.{number, Begins, an_item, nothing_new}
use Rattle.rules.proofs.Links.{behind_more, behind_items_more}
use Rattle.rules.proofs.Machine.{a_type, this, some_items, Stack, open_byte}
use Rattle.rules.proofs.Reached.{Reached, Refuses}
use Rattle.rules.proofs.OneToken.{counted}
use Rattle.rules.proofs.TokensBehind.{tokens_behind}
use Rattle.cursor.specs.Takes.{Takes, kind_of}
use Rattle.cursor.specs.declared.Cursor.{Cursor}
use Rattle.cursor.specs.declared.Taken.{Taken}
use Rattle.flat.specs.Flat.{room, list_from, message_number, raw, raw_items, items_long, used, used_items, Holds, Stored, StoredItems, Kept}
use Rattle.type_reader.specs.Leaves.{Got, got, behind_node, Opened, NodeOpened, Signed, stored_head}
use Rattle.type_reader.specs.Answers.{Acts, PastType, TypeGot, TypeRead, PastItems, ItemsGot, ItemsRead, message_byte, alone}
use Rattle.type_reader.specs.Answers as answers
use Rattle.std.specs.Prelude.{Ok, Err}
use Rattle.table.specs.declared.answers.Refusal.{Refusal}
use Rattle.type_reader.proofs.Took.{took_symbols}
use Rattle.type_reader.proofs.Signs.{sign-refused, sign-past}
use Rattle.type_reader.proofs.Nodes.{Shape, inside_deep, sign_took, node_unopened, behind_bracket}
use Rattle.type_reader.proofs.Standing.{Standing, inside, type_read, message_begins, message_step, message_signs, message_bytes, open_items}
use Rattle.type_reader.proofs.Standing.{items_next, semicolon, semicolon_next, opened_counts, signed_counts, kept_then, kept_same, same_then}
use Rattle.type_reader.proofs.Frames.{Same, same_within, holds_same, items_length, items_same, stored_same, used_items_more, head_other, head_kept, head_holds}

pub holds_from : {a : List ℕ} {i : ℕ} (j : ℕ) {xs : List ℕ} → Holds a i xs → i ≡ j → Holds a j xs
holds_from {a} j {xs} h e = rw (← e) h

-- a message is kept, if its items, its continuation and its head are
message_kept :
    (a₁ b₁ a₂ b₂ : List ℕ) (d : Way) (xs : Items) (x : Ty) (k u : ℕ) → k < text_nodes_most → length a₂ ≡ text_most
    → Holds a₁ (k * room + list_from) (raw_items xs (suc k) u) → items_long xs ≤ items_most → StoredItems a₁ b₁ xs (suc k) u
    → Kept a₁ a₂ (behind_items xs (suc k) * room) → Kept b₁ b₂ (used_items xs u) → Stored a₂ b₂ x (behind_items xs (suc k)) (used_items xs u)
    → Stored (stored_head a₂ k (message_number d) (items_long xs) (raw x (behind_items xs (suc k)) (used_items xs u))) b₂ (message d xs x) k u
message_kept a₁ b₁ a₂ b₂ d xs x k u q m list few inner kept kept_uses goes =
    let a₃ : List ℕ = stored_head a₂ k (message_number d) (items_long xs) (raw x (behind_items xs (suc k)) (used_items xs u)) in
    let j = behind_items_more xs (suc k) in
    let i = items_length xs (suc k) u in
    let o : Same a₂ a₃ (k * room + list_from) (behind x (behind_items xs (suc k)) * room) =
    record { each = λ n f g. head_other a₂ k (message_number d) (items_long xs) (raw x (behind_items xs (suc k)) (used_items xs u)) n (inr f) } in
    let v = behind_more x (behind_items xs (suc k)) in
    let h : Same a₁ a₃ (k * room + list_from) (behind_items xs (suc k) * room) =
    same_then (kept_same (k * room + list_from) (behind_items xs (suc k) * room) kept (omega arith))
    (same_within (k * room + list_from) (behind_items xs (suc k) * room) o (omega arith) (omega arith)) in (
      head_holds a₂ k (message_number d) (items_long xs) (raw x (behind_items xs (suc k)) (used_items xs u)) (omega arith),
      holds_same (k * room + list_from) (raw_items xs (suc k) u) list h (omega arith) (omega arith),
      few,
      items_same a₁ b₁ a₃ b₂ xs (suc k) u inner (same_within (suc k * room) (behind_items xs (suc k) * room) h (omega arith) (omega arith))
          (kept_same u (used_items xs u) kept_uses (omega arith)),
      stored_same a₂ b₂ a₃ b₂ x (behind_items xs (suc k)) (used_items xs u) goes
          (same_within (behind_items xs (suc k) * room) (behind x (behind_items xs (suc k)) * room) o (omega arith) (omega arith))
          (record { each = λ n f g. refl }),
    )

message_written :
    (a₁ b₁ a₂ b₂ : List ℕ) (d : Way) (xs : Items) (x : Ty) (k u : ℕ) → k < text_nodes_most → length a₂ ≡ text_most
    → Holds a₁ (k * room + list_from) (raw_items xs (suc k) u) → items_long xs ≤ items_most → StoredItems a₁ b₁ xs (suc k) u
    → Kept a₁ a₂ (behind_items xs (suc k) * room) → Kept b₁ b₂ (used_items xs u) → Stored a₂ b₂ x (behind_items xs (suc k)) (used_items xs u)
    → (a₃ : List ℕ) (node n link : ℕ) → a₃ ≡ stored_head a₂ node (message_number d) n link → node ≡ k → n ≡ items_long xs
    → link ≡ raw x (behind_items xs (suc k)) (used_items xs u) → Stored a₃ b₂ (message d xs x) k u
message_written a₁ b₁ a₂ b₂ d xs x k u q m list few inner kept kept_uses goes a₃ node n link st nd e f =
    subst (λ (v : List ℕ). Stored v b₂ (message d xs x) k u) (sym (rw (nd, e, f) at st)) (message_kept a₁ b₁ a₂ b₂ d xs x k u q m list few inner kept kept_uses goes)

-- an answer, taken apart
pub refused_type :
    {s a b a' b' : List ℕ} {t : Taken} {ts : List Token} {K : Stack} {nx : Begins} {ns : List (List ℕ)} {bs : List (List (List ℕ))} {no : Refusal}
    → TypeGot s a b a' b' t ts K nx ns bs (Err no) → Refuses s (number no.kind) no.place
refused_type (answers.refused r) = r

pub past_type :
    {s a b a' b' : List ℕ} {t : Taken} {ts : List Token} {K : Stack} {nx : Begins} {ns : List (List ℕ)} {bs : List (List (List ℕ))} {v : ℕ} {c : Cursor}
    → TypeGot s a b a' b' t ts K nx ns bs (got v c) → (x : Ty) × PastType s a b a' b' t ts K nx ns bs x v c
past_type (answers.past x p) = (x, p)

pub refused_items :
    {s a b a' b' : List ℕ} {W : Items → List Symbol → Type 0} {K : Stack} {ns : List (List ℕ)} {bs : List (List (List ℕ))} {k u node n : ℕ} {no : Refusal}
    → ItemsGot s a b a' b' W K ns bs k u node n (Err no) → Refuses s (number no.kind) no.place
refused_items (answers.refused r) = r

pub record ItemsRight (s a b a' b' : List ℕ) (W : Items → List Symbol → Type 0) (K : Stack) (ns : List (List ℕ)) (bs : List (List (List ℕ))) (k u node n v : ℕ) (c : Cursor) : Type 0 where
  pub items : Items
  pub wrote : W items (symbols (tokens_behind s c.at))
  pub count : v ≡ n + items_long items
  pub few : v ≤ items_most
  pub right : PastItems s a b a' b' K ns bs k u node n items c

pub items_right :
    {s a b a' b' : List ℕ} {W : Items → List Symbol → Type 0} {K : Stack} {ns : List (List ℕ)} {bs : List (List (List ℕ))} {k u node n v : ℕ} {c : Cursor}
    → ItemsGot s a b a' b' W K ns bs k u node n (got v c) → ItemsRight s a b a' b' W K ns bs k u node n v c
items_right (answers.past xs w q f r) = record { items = xs; wrote = w; count = q; few = f; right = r }

pub acts_self : (J : Stack) (ts : List Token) → Acts J J ts
acts_self J [] = tt
acts_self J (t ∷ ts) = refl

message_shape : (d : Way) → Shape (message_byte d) (open_byte d) (λ K. some_items d ∷ this (code ";") ∷ a_type ∷ K)
message_shape d = record { byte = message_bytes d; node = message_begins d; bracket = open_items d; leads = message_step d }

module _ {s : List ℕ} (l : length s ≤ text_most) (d : Way) {t : Taken} (e : kind_of t ≡ message_byte d) {deep : ℕ} where
  pub message_unopened : {a b a' b' : List ℕ} {no : Refusal} → NodeOpened s t (open_byte d) deep (Err no) → TypeRead s a b a' b' t deep (Err no)
  message_unopened h = node_unopened l (message_shape d) e h

  module _ (q : t.next.nodes < text_nodes_most) where
    module _ {c₂ : Cursor} (o : Opened s (behind_node t.next) (open_byte d) deep (Ok c₂)) where
      -- behind the bracket
      behind_opening :
          (z : Standing s t deep)
          → Reached s (tokens_behind s c₂.at) (some_items d ∷ this (code ";") ∷ a_type ∷ z.K) (counted an_item c₂.nodes z.ns ([] ∷ inside z))
          × (symbols (tokens_behind s t.next.at) ≡ one_byte (open_byte d) ∷ symbols (tokens_behind s c₂.at))
      behind_opening z =
          let r = behind_bracket l (message_shape d) e q o z in
          ((rw (items_next d) at r).0, r.1)

      pub message_items_refused :
          {a b a₁ b₁ : List ℕ} {node : ℕ} {no : Refusal} → ItemsRead s a b a₁ b₁ d c₂ (deep + 1) node (Err no) → TypeRead s a b a₁ b₁ t deep (Err no)
      message_items_refused f =
          type_read (λ z.
          answers.refused (refused_items (f.told (this (code ";") ∷ a_type ∷ z.K) z.ns (inside z) (behind_opening z).0 (omega (arith, inside_deep z)))))

      module _ {a b a₁ b₁ : List ℕ} {node n : ℕ} {c₃ : Cursor} (f : ItemsRead s a b a₁ b₁ d c₂ (deep + 1) node (got n c₃)) where
        -- behind the items
        behind_items_read :
            (z : Standing s t deep)
            → ItemsRight s a b a₁ b₁ (λ xs k. symbols (tokens_behind s c₂.at) ≡ write_items d xs k) (this (code ";") ∷ a_type ∷ z.K) z.ns (inside z) c₂.nodes c₂.uses node 0 n c₃
        behind_items_read z =
            items_right (f.told (this (code ";") ∷ a_type ∷ z.K) z.ns (inside z) (behind_opening z).0 (omega (arith, inside_deep z)))

        pub message_semicolon_refused : {a' b' : List ℕ} {no : Refusal} → Signed s c₃ (code ";") (Err no) → TypeRead s a b a' b' t deep (Err no)
        message_semicolon_refused g =
            type_read (λ z. answers.refused (sign-refused l c₃.nodes z.ns (inside z) (omega arith) g (behind_items_read z).right.reached))

        module _ {c₄ : Cursor} {t₅ : Taken} (g : Signed s c₃ (code ";") (Ok c₄)) (k : Takes s c₄ t₅) where
          -- behind the semicolon
          behind_semicolon :
              (z : Standing s t deep)
              → Reached s (tokens_behind s c₄.at) (a_type ∷ z.K) (counted nothing_new t₅.next.nodes z.ns (inside z))
              × (symbols (tokens_behind s c₃.at) ≡ one_byte (code ";") ∷ symbols (tokens_behind s c₄.at))
          behind_semicolon z =
              let h = sign-past l c₃.nodes z.ns (inside z) semicolon g (behind_items_read z).right.reached in
              let n₅ : t₅.next.nodes ≡ c₃.nodes = k.nodes ∙ (signed_counts g).0 in
              (rw (n₅, ← semicolon_next) h.0, h.1)

          type_told :
              {a₂ b₂ : List ℕ} {r : Got} (z : Standing s t deep) → TypeRead s a₁ b₁ a₂ b₂ t₅ deep r
              → TypeGot s a₁ b₁ a₂ b₂ t₅ (tokens_behind s c₄.at) z.K nothing_new z.ns (inside z) r
          type_told z y =
              y.told (tokens_behind s c₄.at) a_type z.K z.K nothing_new z.ns (inside z) k.ahead (acts_self (a_type ∷ z.K) (tokens_behind s c₄.at)) (behind_semicolon z).0 alone (inside_deep z)

          pub message_type_refused :
              {a₂ b₂ : List ℕ} {no : Refusal} → TypeRead s a₁ b₁ a₂ b₂ t₅ deep (Err no) → TypeRead s a b a₂ b₂ t deep (Err no)
          message_type_refused y = type_read (λ z. answers.refused (refused_type (type_told z y)))

          module _ {a₂ b₂ : List ℕ} {link : ℕ} {c₅ : Cursor} (m : length a₂ ≡ text_most) (nd : node ≡ t.next.nodes) where
            done_past :
                (z : Standing s t deep) (x : Ty)
                → PastType s a₁ b₁ a₂ b₂ t₅ (tokens_behind s c₄.at) z.K nothing_new z.ns (inside z) x link c₅
                → (a₃ : List ℕ) → a₃ ≡ stored_head a₂ node (message_number d) n link
                → PastType s a b a₃ b₂ t z.ts z.K z.nx z.ns z.bs (message d (behind_items_read z).items x) node c₅
            done_past z x p a₃ st =
                let k₀ : ℕ = t.next.nodes in
                let u₀ : ℕ = t.next.uses in
                let i = behind_items_read z in
                let xs : Items = i.items in
                let n₂ : c₂.nodes ≡ suc k₀ = (opened_counts o).0 ∙ add-one k₀ in
                let r = (rw (n₂, (opened_counts o).1) at i).right in
                let k₅ : t₅.next.nodes ≡ behind_items xs (suc k₀) = k.nodes ∙ (signed_counts g).0 ∙ r.nodes in
                let u₅ : t₅.next.uses ≡ used_items xs u₀ = k.uses ∙ (signed_counts g).1 ∙ r.uses in
                let more = behind_items_more xs (suc k₀) in
                let y = (rw (k₅, u₅) at p).stored in
                let n₀ : n ≡ items_long xs = i.count ∙ zero-add (items_long xs) in
                let link₀ : link ≡ raw x (behind_items xs (suc k₀)) (used_items xs u₀) = (rw (k₅, u₅) at p).link in
                let few : items_long xs ≤ items_most = omega (arith, i.few) in
                let kept₂ : Kept a₁ a₂ (behind_items xs (suc k₀) * room) = (rw k₅ at p).kept in
                let uses₂ : Kept b₁ b₂ (used_items xs u₀) = (rw u₅ at p).kept_uses in
                record {
                  written = cc (took_symbols (sign_took l (message_shape d) e z), (behind_opening z).1, i.wrote, (behind_semicolon z).1, p.written, (message_signs d).0, (message_signs d).1);
                  reached = p.reached;
                  link = nd;
                  nodes = p.nodes ∙ ap (λ w. behind x w) k₅;
                  uses = p.uses ∙ ap (λ w. used x w) u₅;
                  stored =
                      message_written a₁ b₁ a₂ b₂ d xs x k₀ u₀ q m (holds_from (k₀ * room + list_from) r.holds (omega arith)) few r.stored kept₂ uses₂ y a₃ node n link st nd n₀ link₀;
                  kept =
                      record {
                        each = λ j f.
                            rw st ((head_kept a₂ node (message_number d) n link).each j (omega arith)) ∙ kept₂.each j (omega arith)
                            ∙ r.kept.each j (omega arith) (inl (omega arith));
                      };
                  kept_uses = kept_then r.kept_uses uses₂ (omega (arith, used_items_more xs u₀));
                }

            pub message_done :
                {a₃ : List ℕ} → TypeRead s a₁ b₁ a₂ b₂ t₅ deep (got link c₅) → a₃ ≡ stored_head a₂ node (message_number d) n link
                → TypeRead s a b a₃ b₂ t deep (got node c₅)
            message_done {a₃} y st =
                type_read (λ z. let w = past_type (type_told z y) in answers.past (message d (behind_items_read z).items w.0) (done_past z w.0 w.1 a₃ st))

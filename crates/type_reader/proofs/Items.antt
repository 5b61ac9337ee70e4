-- An item of a message: one law for each answer of the function that reads it.
-- Assumes nothing.
use mathlib.Core.Bool.{Bool, true, false, false≢true, ◌&&◌, ◌||◌}
use mathlib.Core.List.{List, [], ◌∷◌}
use mathlib.Core.Logic.{◌⊎◌, inl, inr}
use mathlib.Core.Option.{none, some}
use mathlib.Core.Path.{◌≡◌, refl, sym, ap, ◌∙◌}
use Prim.Native.Nat.{ℕ, suc, ◌+◌, ◌-◌, ◌*◌, ◌<◌, ◌≤◌}
use native.Mathlib.Omega.{arith}
use borrow.Author.Tests.{le-leb}
use lib.Dec.{leb}
use lib.ListN.{length, get_or, set}
use lib.Seq.{get_or-set_same, get_or-set_other}
use Rattle.rules.specs.Words.{word_most}
use Rattle.rules.specs.Tokens.{Token, Symbol, word, reserved_word, symbol}
use Rattle.rules.specs.Notation.{Way, sort_position}
use Rattle.rules.specs.Numbers.{text_most, text_nodes_most, items_most}
use Rattle.rules.specs.Numbering.{behind}
use Rattle.rules.specs.Refusals.{number, an_item, nothing_new, one_too_many}
use Rattle.rules.specs.computed.Reading.{token_fault}
use Rattle.rules.specs.Replies.{refusal}
use Rattle.rules.proofs.Links.{behind_more}
use Rattle.rules.proofs.Machine.{Expect, more_items, a_type, Stack, on, step}
use Rattle.rules.proofs.Machine as expect
use Rattle.rules.proofs.Reached.{Reached, Refuses, reached_fault}
use Rattle.rules.proofs.OneToken.{counted, opens_symbol, begins_symbol, fault_symbol, fault_long, nodes_same, brackets_plain}
use Rattle.rules.proofs.TokensBehind.{tokens_behind}
use Rattle.cursor.specs.Takes.{Ahead, kind, reserved_kind, word_kind, end_kind, kind_of}
use Rattle.cursor.specs.declared.Cursor.{Cursor}
use Rattle.cursor.specs.declared.Taken.{Taken}
use Rattle.flat.specs.Flat.{room, list_from, a_session, sort_number, raw, KeptBut}
use Rattle.table.specs.declared.Sort.{Sort}
use Rattle.type_reader.specs.Leaves.{Got, Moved, got, ItemBegun, no_item, long_item, item_too_many, begins_item, is_sort}
use Rattle.type_reader.specs.Answers.{Acts, first_spelled, as_item, TypeGot, TypeRead, ItemGot, ItemRead}
use Rattle.type_reader.specs.Answers as answers
use Rattle.std.specs.Prelude.{Ok, Err}
use Rattle.table.specs.declared.answers.Refusal.{Refusal}
use Rattle.table.specs.declared.answers.RefusalKind.TheVariants as kinds
use Rattle.type_reader.proofs.Took.{Took, took_word, not_here, took_symbols, took_spelled, took_counted, took_fault, fault_here}
use Rattle.type_reader.proofs.Begins.{kept_all, acts_step, acts_stuck}
use Rattle.type_reader.proofs.Messages.{refused_type, past_type}
use Rattle.type_reader.proofs.ItemSteps.{type_item, item_goes_on, item_stuck, a_sort, sort_leads, sort_quiet}
use Rattle.type_reader.proofs.Lists.{entry_written}
use Rattle.type_reader.proofs.Frames.{holds_one}

-- the first token's kind is its symbol's
first_symbol : {s : List ℕ} {t : Taken} {ts : List Token} → Ahead s t ts → (u : Token) (k : List Token) → ts ≡ u ∷ k → kind (symbol u) ≡ kind_of t
first_symbol h u k e = sym (h.is ∙ rw e refl)

no_end_item : begins_item end_kind ≡ false
unfolding begins_item
no_end_item = refl

or_true : (b : Bool) → (b || true) ≡ true
or_true true = refl
or_true false = refl

no_end_sort : is_sort end_kind ≡ false
unfolding is_sort
no_end_sort = refl

-- a sort, and which it is
record SortTook (s : List ℕ) (t : Taken) (ts : List Token) : Type 0 where
  which : Sort
  is : Took s t ts (λ u. reserved_word (sort_position which))
  number : kind_of t - reserved_kind - 1 ≡ sort_number which

sort_took : {s : List ℕ} {t : Taken} (ts : List Token) → Ahead s t ts → is_sort (kind_of t) ≡ true → SortTook s t ts
sort_took [] h e = let z : is_sort end_kind ≡ true = rw h.is at e in absurd (false≢true (sym no_end_sort ∙ z))
sort_took {s} {t} (u ∷ k) h e =
    let w = a_sort (symbol u) (rw (← h.is) e) in
    record {
      which = w.which;
      is = record { token = u; split = ap (λ r. u ∷ r) h.behind; means = w.word_is; stands = h.stands; long = h.long };
      number = rw h.is w.number;
    }

-- a fifth item
item_fault :
    (u : Token) (y : Symbol) (n : ℕ) (ns es : List (List ℕ)) (bs : List (List (List ℕ))) → symbol u ≡ y → length u.spelled ≤ word_most
    → opens_symbol y ≡ false → items_most ≤ length es → token_fault (counted an_item n ns (es ∷ bs)) u ≡ some kinds.OneTooMany
item_fault u y n ns es bs e j o m =
    fault_symbol u y e (counted an_item n ns (es ∷ bs)) j
    ∙ rw (o, le-leb items_most (length es) m, or_true (begins_symbol y && leb text_nodes_most n)) refl

-- a long token is a word
long_word : {s : List ℕ} {t : Taken} {ts : List Token} → Ahead s t ts → word_most < t.len → kind_of t ≡ word_kind
long_word h l = elim h.short [ inl e ↦ e | inr m ↦ absurd (omega arith) ]

-- one number is written
number_kept : (a : List ℕ) (from to n v : ℕ) → from < to → KeptBut a (set a from v) from to n
number_kept a from to n v m = record { each = go }
  where
    go : (i : ℕ) → i < n → (i < from) ⊎ (to ≤ i) → get_or (set a from v) i 0 ≡ get_or a i 0
    go i p (inl q) = get_or-set_other a from i v 0 (λ e. omega arith)
    go i p (inr q) = get_or-set_other a from i v 0 (λ e. omega arith)

word_leads : {d : Way} (K : Stack) (w : Token) → step (expect.an_item d ∷ K) (word w) ≡ on (more_items d ∷ K)
unfolding step
word_leads K w = refl

-- all that a reader of an item is told of where it stands, behind n others
pub record Due (s : List ℕ) (t : Taken) (d : Way) (K : Stack) (ns : List (List ℕ)) (bs : List (List (List ℕ))) (n : ℕ) : Type 0 where
  pub ts : List Token
  pub x : Expect
  pub J : Stack
  pub es : List (List ℕ)
  pub ahead : Ahead s t ts
  pub acts : Acts (x ∷ J) (expect.an_item d ∷ K) ts
  pub reached : Reached s ts (x ∷ J) (counted an_item t.next.nodes ns (es ∷ bs))
  pub long : length es ≡ n

item_read :
    {s a b a' b' : List ℕ} {t : Taken} {deep node n : ℕ} {r : Moved} → ((c : Cursor) → r ≡ Ok c → n < items_most)
    → ((d : Way) (K : Stack) (ns : List (List ℕ)) (bs : List (List (List ℕ))) (z : Due s t d K ns bs n) → suc (length bs) ≡ deep
    → ItemGot s a b a' b' d z.ts K ns z.es bs t.next.nodes t.next.uses node n r)
    → ItemRead s a b a' b' t deep node n r
item_read m f =
    record {
      few = λ e. m _ e;
      told = λ d ts x J K ns es bs h acts r p q.
          f d K ns bs (record { ts = ts; x = x; J = J; es = es; ahead = h; acts = acts; reached = r; long = p }) q;
    }

-- a refusal, wherever the item may stand
refused_item :
    {s a b a' b' : List ℕ} {t : Taken} {deep node n : ℕ} {no : Refusal}
    → ((d : Way) (K : Stack) (ns : List (List ℕ)) (bs : List (List (List ℕ))) → Due s t d K ns bs n → suc (length bs) ≡ deep → Refuses s (number no.kind) no.place)
    → ItemRead s a b a' b' t deep node n (Err no)
refused_item f =
    item_read (λ c e. let z : ◌≡◌ {A = ℕ} 0 1 = cc e in absurd (omega arith)) (λ d K ns bs z q. answers.refused (f d K ns bs z q))

module _ {s : List ℕ} (l : length s ≤ text_most) where
  -- a token that stands first, whatever it is
  many_items :
      {t : Taken} (d : Way) (ts : List Token) (x : Expect) (J K : Stack) (ns es : List (List ℕ)) (bs : List (List (List ℕ))) → Ahead s t ts
      → Acts (x ∷ J) (expect.an_item d ∷ K) ts → Reached s ts (x ∷ J) (counted an_item t.next.nodes ns (es ∷ bs)) → items_most ≤ length es
      → begins_item (kind_of t) ≡ true → t.len ≤ word_most → Refuses s one_too_many t.at
  many_items d [] x J K ns es bs h acts r m e j = let z : begins_item end_kind ≡ true = rw h.is at e in absurd (false≢true (sym no_end_item ∙ z))
  many_items {t} d (u ∷ k) x J K ns es bs h acts r m e j =
      let g = item_goes_on d K (symbol u) (rw (← h.is) e) in
      rw h.stands
      (reached_fault {J = g.to} l r (acts ∙ g.leads) (item_fault u (symbol u) t.next.nodes ns es bs refl (omega (arith, h.long)) g.no_opening m))

  pub item_refused : (a b a' b' : List ℕ) {t : Taken} {deep node n : ℕ} {no : Refusal} → ItemBegun t n (Err no) → ItemRead s a b a' b' t deep node n (Err no)
  item_refused a b a' b' {t} (no_item e) =
      refused_item (λ d K ns bs z q.
      not_here z.ahead l z.reached (λ u k g.
      acts_stuck (z.x ∷ z.J) (expect.an_item d ∷ K) z.ts z.acts u k g (item_stuck d K (symbol u) (rw (first_symbol z.ahead u k g) e))))
  item_refused a b a' b' {t} (long_item e j) =
      refused_item (λ d K ns bs z q.
      let k = took_word z.ahead (long_word z.ahead j) in
      took_fault k {L = more_items d ∷ K} l z.reached (acts_step (z.x ∷ z.J) (expect.an_item d ∷ K) k z.acts ∙ word_leads K k.token)
      (fault_long (counted an_item t.next.nodes ns (z.es ∷ bs)) k.token (omega (arith, k.long))))
  item_refused a b a' b' {t} (item_too_many e j m) =
      refused_item {no = refusal kinds.OneTooMany t.at} (λ d K ns bs z q.
      many_items d z.ts z.x z.J K ns z.es bs z.ahead z.acts z.reached (omega (arith, z.long)) e j)

  -- A sort.
  behind_sort :
      {t : Taken} {d : Way} {K : Stack} {ns : List (List ℕ)} {bs : List (List (List ℕ))} {n : ℕ} (z : Due s t d K ns bs n) (w : SortTook s t z.ts)
      → t.len ≤ word_most → n < items_most
      → Reached s (tokens_behind s t.next.at) (more_items d ∷ K) (counted nothing_new t.next.nodes ns ((first_spelled z.ts ∷ z.es) ∷ bs))
  behind_sort {t} {d} {K} {ns} {bs} z w j m =
      let k = w.is in
      let y : Symbol = reserved_word (sort_position w.which) in
      let q = sort_quiet w.which in
      let f : token_fault (counted an_item t.next.nodes ns (z.es ∷ bs)) k.token ≡ none =
      fault_here k.token y an_item t.next.nodes ns (z.es ∷ bs) k.means (omega (arith, k.long)) (as_item (omega (arith, z.long)))
      ∙ rw (q.no_opening, q.no_node) refl in
      let g = took_counted k an_item t.next.nodes ns (z.es ∷ bs) z.reached (acts_step (z.x ∷ z.J) (expect.an_item d ∷ K) k z.acts ∙ sort_leads d K w.which) f in
      rw (took_spelled k)
      (rw (q.goes_on, nodes_same y t.next.nodes q.no_node, brackets_plain y ((k.token.spelled ∷ z.es) ∷ bs) q.no_opening q.no_closing) at g)

  pub item_sort :
      (a b : List ℕ) {t : Taken} {deep node n : ℕ} → t.len ≤ word_most → n < items_most → is_sort (kind_of t) ≡ true → node < t.next.nodes
      → t.next.nodes ≤ text_nodes_most → length a ≡ text_most
      → ItemRead s a b (set a (node * room + list_from + n) (kind_of t - reserved_kind - 1)) b t deep node n (Ok t.next)
  item_sort a b {t} {deep} {node} {n} j m e i few long =
      item_read (λ c' q. m) (λ d K ns bs z q.
      let from : ℕ = node * room + list_from + n in
      let w = sort_took z.ts z.ahead e in
      answers.past_sort {c = t.next} w.which (took_symbols w.is)
      (record {
        reached = behind_sort z w j m;
        nodes = refl;
        uses = refl;
        holds = holds_one from (sort_number w.which) (get_or-set_same a from (kind_of t - reserved_kind - 1) 0 (omega arith) ∙ w.number);
        stored = tt;
        kept = number_kept a from (node * room + room) (t.next.nodes * room) (kind_of t - reserved_kind - 1) (omega arith);
        kept_uses = kept_all b _;
      }))

  -- A type.
  acts_type :
      {t : Taken} (d : Way) (ts : List Token) (x : Expect) (J K : Stack) → Ahead s t ts → is_sort (kind_of t) ≡ false
      → Acts (x ∷ J) (expect.an_item d ∷ K) ts → Acts (x ∷ J) (a_type ∷ more_items d ∷ K) ts
  acts_type d [] x J K h e acts = tt
  acts_type d (u ∷ k) x J K h e acts = acts ∙ type_item d K (symbol u) (rw (← h.is) e)

  module _ {a b a₁ b₁ : List ℕ} {t : Taken} {deep n : ℕ} (m : n < items_most) (e : is_sort (kind_of t) ≡ false) where
    type_told :
        {r : Got} → TypeRead s a b a₁ b₁ t deep r → {d : Way} {K : Stack} {ns : List (List ℕ)} {bs : List (List (List ℕ))} (z : Due s t d K ns bs n)
        → suc (length bs) ≡ deep → TypeGot s a b a₁ b₁ t z.ts (more_items d ∷ K) an_item ns (z.es ∷ bs) r
    type_told f {d} {K} {ns} {bs} z q =
        f.told z.ts z.x z.J (more_items d ∷ K) an_item ns (z.es ∷ bs) z.ahead (acts_type d z.ts z.x z.J K z.ahead e z.acts) z.reached
        (as_item (omega (arith, z.long))) q

    pub item_type_refused : {node : ℕ} {no : Refusal} → TypeRead s a b a₁ b₁ t deep (Err no) → ItemRead s a b a₁ b₁ t deep node n (Err no)
    item_type_refused f = refused_item (λ d K ns bs z q. refused_type (type_told f z q))

    pub item_type :
        {node link : ℕ} {c : Cursor} → node < t.next.nodes → c.nodes ≤ text_nodes_most → length a₁ ≡ text_most
        → TypeRead s a b a₁ b₁ t deep (got link c)
        → ItemRead s a b (set a₁ (node * room + list_from + n) (a_session + link)) b₁ t deep node n (Ok c)
    item_type {node} {link} {c} i few long f =
        item_read (λ c' q. m) (λ d K ns bs z q.
        let from : ℕ = node * room + list_from + n in
        let k : ℕ = t.next.nodes in
        let (x, p) = past_type (type_told f z q) in
        let more = behind_more x k in
        let few₂ : behind x k ≤ text_nodes_most = rw p.nodes at few in
        answers.past_session {c = c} x p.written
        (entry_written x ((a_session + raw x k t.next.uses) ∷ []) refl refl (omega arith) p p.reached
        (number_kept a₁ from (node * room + room) (behind x k * room) (a_session + link) (omega arith))
        (holds_one from _ (get_or-set_same a₁ from (a_session + link) 0 (omega arith) ∙ ap (λ w. a_session + w) p.link))))

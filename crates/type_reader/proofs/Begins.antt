-- A type that is read at once: a name, `end`, and what begins no type.
-- Assumes nothing.
use mathlib.Core.Bool.{Bool, true, false}
use mathlib.Core.List.{List, [], ◌∷◌}
use mathlib.Core.Option.{none}
use mathlib.Core.Path.{◌≡◌, refl, ◌∙◌}
use Prim.Native.Char.{code}
use Prim.Native.Nat.{ℕ, ◌+◌, ◌<◌, ◌≤◌}
use native.Mathlib.Numerals.{add-one}
use native.Mathlib.Omega.{arith}
use borrow.Author.Tests.{le-leb, lt-leb, ne_eqb}
use lib.Dec.{leb}
use lib.ListN.{length, set}
use lib.Seq.{get_or-set_same, get_or-set_other}
use Rattle.rules.specs.Words.{word_most}
use Rattle.rules.specs.Tokens.{Token, Symbol, word, reserved_word, one_byte, symbol}
use Rattle.rules.specs.Notation.{ended, name, end_position}
use Rattle.rules.specs.Numbers.{text_most, text_nodes_most}
use Rattle.rules.specs.Refusals.{Begins, nothing_new, one_of, entries_after, names_after, one_too_many}
use Rattle.rules.specs.computed.Reading.{token_fault, lowest}
use Rattle.rules.specs.Replies.{refusal}
use Rattle.rules.proofs.Machine.{a_type, Stack, on, stuck, Row, ◌⇒◌, look, type_rows, step}
use Rattle.rules.proofs.Reached.{Reached, Refuses}
use Rattle.rules.proofs.OneToken.{counted, opens_symbol, closes_symbol, begins_symbol, next_symbol, nodes_one_more, brackets_plain, fault_long}
use Rattle.rules.proofs.TokensBehind.{tokens_behind}
use Rattle.cursor.specs.Takes.{Ahead, reserved_kind, word_kind, kind, kind_of}
use Rattle.cursor.specs.declared.Taken.{Taken}
use Rattle.cursor.proofs.Symbols.{kind_of_word, kind_of_byte, kind_of-reserved}
use Rattle.flat.specs.Flat.{a_use, end_number, Kept}
use Rattle.type_reader.specs.Leaves.{Got, Used, used_name, long_name, Ended, not_ended, stored_head}
use Rattle.type_reader.specs.Leaves as leaves
use Rattle.type_reader.specs.Answers.{Acts, first_spelled, TypeRoom, alone, as_item, PastType, refused, past, TypeRead}
use Rattle.std.specs.Prelude.{Err}
use Rattle.table.specs.declared.answers.RefusalKind.TheVariants as kinds
use Rattle.type_reader.proofs.Frames.{holds_one, holds_front, head_holds, head_kept}
use Rattle.type_reader.proofs.Took.{Took, took_word, took_reserved, not_here, took_symbols, took_spelled, took_counted, took_fault, fault_here}
use Rattle.type_reader.proofs.Signs.{short_token}

pub kept_all : (a : List ℕ) (n : ℕ) → Kept a a n
kept_all a n = record { each = λ i l. refl }

-- the first token leads where it would from the other stack
pub acts_step :
    {s : List ℕ} {t : Taken} {ts : List Token} {y : Token → Symbol} (J L : Stack) (k : Took s t ts y) → Acts J L ts
    → step J (y k.token) ≡ step L (y k.token)
acts_step {y} J L k h =
    let g : step J (symbol k.token) ≡ step L (symbol k.token) = rw k.split at h in
    rw k.means at g

-- a type that begins at an item enters it; no name is defined
pub names_room : {nx : Begins} {bs : List (List (List ℕ))} → TypeRoom nx bs → (w : List ℕ) (ns : List (List ℕ)) → names_after nx w ns ≡ ns
names_room alone w ns = refl
names_room (as_item l) w ns = refl

pub entries_long : {nx : Begins} {bs : List (List (List ℕ))} → TypeRoom nx bs → (w : List ℕ) → length (entries_after nx w bs) ≡ length bs
entries_long alone w = refl
entries_long {bs = []} (as_item l) w = refl
entries_long {bs = es ∷ bs} (as_item l) w = refl

abbrev end_symbol : Symbol
end_symbol = reserved_word end_position

module _ {s : List ℕ} (l : length s ≤ text_most) {t : Taken} where
  -- a name
  module _ (a b : List ℕ) (m : length b ≡ text_most) (i : t.next.uses < text_most) (e : kind_of t ≡ word_kind) where
    name_fault :
        {ts : List Token} (k : Took s t ts word) {nx : Begins} (n : ℕ) (ns : List (List ℕ)) {bs : List (List (List ℕ))} → TypeRoom nx bs
        → t.len ≤ word_most → token_fault (counted nx n ns bs) k.token ≡ none
    unfolding one_of
    name_fault k {nx} n ns {bs} fits j = fault_here k.token (word k.token) nx n ns bs k.means (omega (arith, k.long)) fits

    name_reached :
        {ts : List Token} (k : Took s t ts word) {J K : Stack} {nx : Begins} (n : ℕ) (ns : List (List ℕ)) {bs : List (List (List ℕ))}
        → TypeRoom nx bs → t.len ≤ word_most → Reached s ts J (counted nx n ns bs) → step J (word k.token) ≡ on K
        → Reached s (tokens_behind s t.next.at) K (counted nothing_new n ns (entries_after nx (first_spelled ts) bs))
    unfolding one_of
    name_reached k {nx} n ns {bs} fits j r d =
        let g = took_counted k nx n ns bs r d (name_fault k n ns fits j) in
        rw (took_spelled k) (rw (names_room fits k.token.spelled ns) at g)

    name-past :
        (ts : List Token) (J K : Stack) (nx : Begins) (ns : List (List ℕ)) (bs : List (List (List ℕ))) (k : Took s t ts word)
        → TypeRoom nx bs → t.len ≤ word_most → Reached s ts J (counted nx t.next.nodes ns bs) → step J (word k.token) ≡ on K
        → (b' : List ℕ) → b' ≡ set b t.next.uses t.at
        → PastType s a b a b' t ts K nx ns bs (name k.token) (a_use + t.next.uses) (leaves.behind_use t.next)
    name-past ts J K nx ns bs k fits j r d b' z =
        record {
          written = took_symbols k;
          reached = name_reached k t.next.nodes ns fits j r d;
          link = refl;
          nodes = refl;
          uses = refl;
          stored = holds_one t.next.uses _ (rw z (get_or-set_same b t.next.uses t.at 0 (omega arith)) ∙ k.stands);
          kept = kept_all a _;
          kept_uses = record { each = λ q p. rw z (get_or-set_other b t.next.uses q t.at 0 (λ e. omega arith)) };
        }

    pub type_name : {b' : List ℕ} {deep : ℕ} {r : Got} → Used t b b' r → TypeRead s a b a b' t deep r
    unfolding step
    type_name {b'} (used_name j z) =
        record {
          told = λ ts x J K nx ns bs h acts r fits q.
              let k = took_word h e in past (name k.token) (name-past ts (x ∷ J) K nx ns bs k fits j r (acts_step (x ∷ J) (a_type ∷ K) k acts) b' z);
        }
    type_name (long_name j) =
        record {
          told = λ ts x J K nx ns bs h acts r fits q.
              let k = took_word h e in
              refused (took_fault k {L = K} l r (acts_step (x ∷ J) (a_type ∷ K) k acts) (fault_long (counted nx t.next.nodes ns bs) k.token (omega (arith, k.long))));
        }

  -- a symbol that begins a node
  module _ (y : Symbol) (none_opens : opens_symbol y ≡ false) (none_closes : closes_symbol y ≡ false) (begins : begins_symbol y ≡ true) (goes_on : next_symbol y ≡ nothing_new) where
    node_fault :
        {ts : List Token} (k : Took s t ts (λ u. y)) → length k.token.spelled ≤ word_most → {nx : Begins} (n : ℕ) (ns : List (List ℕ))
        {bs : List (List (List ℕ))} → TypeRoom nx bs → (f : Bool) → leb text_nodes_most n ≡ f
        → token_fault (counted nx n ns bs) k.token ≡ lowest false false f none
    node_fault k j {nx} n ns {bs} fits f q = fault_here k.token y nx n ns bs k.means j fits ∙ rw (none_opens, begins, q) refl

    pub node_reached :
        {ts : List Token} (k : Took s t ts (λ u. y)) → length k.token.spelled ≤ word_most → {J L : Stack} {nx : Begins} (n : ℕ)
        (ns : List (List ℕ)) {bs : List (List (List ℕ))} → TypeRoom nx bs → n < text_nodes_most → Reached s ts J (counted nx n ns bs)
        → step J y ≡ on L
        → Reached s (tokens_behind s t.next.at) L (counted nothing_new (n + 1) ns (entries_after nx (first_spelled ts) bs))
    node_reached k j {nx} n ns {bs} fits q r d =
        let g = took_counted k nx n ns bs r d (node_fault k j n ns fits false (lt-leb text_nodes_most n q)) in
        rw (took_spelled k, add-one n)
        (rw (names_room fits k.token.spelled ns, nodes_one_more y n begins, brackets_plain y (entries_after nx k.token.spelled bs) none_opens none_closes, goes_on) at g)

    pub node_refused :
        {ts : List Token} (k : Took s t ts (λ u. y)) → length k.token.spelled ≤ word_most → {J L : Stack} {nx : Begins} (n : ℕ)
        (ns : List (List ℕ)) {bs : List (List (List ℕ))} → TypeRoom nx bs → text_nodes_most ≤ n → Reached s ts J (counted nx n ns bs)
        → step J y ≡ on L → Refuses s one_too_many t.at
    node_refused k j {L} {nx} n ns {bs} fits q r d =
        took_fault k {L = L} l r d (node_fault k j n ns fits true (le-leb text_nodes_most n q))

  -- `end`
  module _ (a b : List ℕ) (m : length a ≡ text_most) (e : kind_of t ≡ reserved_kind) where
    end_past :
        (ts : List Token) (J K : Stack) (nx : Begins) (ns : List (List ℕ)) (bs : List (List (List ℕ))) (h : Ahead s t ts)
        (k : Took s t ts (λ u. end_symbol)) → TypeRoom nx bs → t.next.nodes < text_nodes_most
        → Reached s ts J (counted nx t.next.nodes ns bs) → step J end_symbol ≡ on K → (a' : List ℕ)
        → a' ≡ stored_head a t.next.nodes end_number 0 0
        → PastType s a b a' b t ts K nx ns bs ended t.next.nodes (leaves.behind_node t.next)
    unfolding one_of
    end_past ts J K nx ns bs h k fits q r d a' z =
        record {
          written = took_symbols k;
          reached = node_reached end_symbol refl refl refl refl k (short_token h k (λ f. omega arith)) t.next.nodes ns fits q r d;
          link = refl;
          nodes = add-one t.next.nodes;
          uses = refl;
          stored = rw z (holds_front (head_holds a t.next.nodes end_number 0 0 (omega arith)));
          kept = rw z (head_kept a t.next.nodes end_number 0 0);
          kept_uses = kept_all b _;
        }

    pub type_end : {a' : List ℕ} {deep : ℕ} {r : Got} → Ended t a a' r → TypeRead s a b a' b t deep r
    unfolding step look one_of
    type_end {a'} (leaves.ended q z) =
        record {
          told = λ ts x J K nx ns bs h acts r fits p.
              let k = took_reserved h end_position (rw e (omega arith)) (omega arith) in
              past ended (end_past ts (x ∷ J) K nx ns bs h k fits q r (acts_step (x ∷ J) (a_type ∷ K) k acts) a' z);
        }
    type_end (not_ended q) =
        record {
          told = λ ts x J K nx ns bs h acts r fits p.
              let k = took_reserved h end_position (rw e (omega arith)) (omega arith) in
              refused
              (node_refused end_symbol refl refl refl refl k (short_token h k (λ f. omega arith)) {L = K} t.next.nodes ns fits q r (acts_step (x ∷ J) (a_type ∷ K) k acts));
        }

-- what is looked up in vain
pub look-past : (b c : ℕ) (K : Stack) (rs : List Row) → (b ≡ c → ⊥) → look rs b ≡ stuck → look ((c ⇒ K) ∷ rs) b ≡ stuck
unfolding look
look-past b c K rs n e = rw (look, ne_eqb b c n) e

pub no-row : (b : ℕ) → look [] b ≡ stuck
unfolding look
no-row b = refl

-- a symbol that begins no type
pub record NoType (y : Symbol) : Type 0 where
  pub no_word : kind y ≡ word_kind → ⊥
  pub no_end : kind y ≡ reserved_kind → ⊥
  pub no_query : kind y ≡ code "?" → ⊥
  pub no_bang : kind y ≡ code "!" → ⊥
  pub no_and : kind y ≡ code "&" → ⊥
  pub no_plus : kind y ≡ code "+" → ⊥

-- the rows behind are passed too
pub type_rows-past : (b : ℕ) (K : Stack) (rs : List Row) → NoType (one_byte b) → look rs b ≡ stuck → look (type_rows K rs) b ≡ stuck
type_rows-past b K rs n e =
    look-past b (code "?") _ _ (λ q. n.no_query (rw q (kind_of_byte (code "?") (omega arith))))
    (look-past b (code "!") _ _ (λ q. n.no_bang (rw q (kind_of_byte (code "!") (omega arith))))
    (look-past b (code "&") _ _ (λ q. n.no_and (rw q (kind_of_byte (code "&") (omega arith))))
    (look-past b (code "+") _ _ (λ q. n.no_plus (rw q (kind_of_byte (code "+") (omega arith)))) e)))

type_stuck : (K : Stack) (y : Symbol) → NoType y → step (a_type ∷ K) y ≡ stuck
unfolding step
type_stuck K (word w) n = absurd (n.no_word (kind_of_word w))
type_stuck K (reserved_word i) n =
    look-past i end_position K [] (λ q. n.no_end (rw q (kind_of-reserved end_position (omega arith)))) (no-row i)
type_stuck K (one_byte b) n = type_rows-past b K [] n (no-row b)

pub acts_stuck :
    (J L : Stack) (ts : List Token) → Acts J L ts → (u : Token) (k : List Token) → ts ≡ u ∷ k → step L (symbol u) ≡ stuck
    → step J (symbol u) ≡ stuck
acts_stuck J L ts h u k e d = let g : step J (symbol u) ≡ step L (symbol u) = rw e at h in g ∙ d

pub first_no_type :
    {s : List ℕ} {t : Taken} {ts : List Token} → Ahead s t ts → (u : Token) (k : List Token) → ts ≡ u ∷ k → (n : ℕ) → (kind_of t ≡ n → ⊥)
    → kind (symbol u) ≡ n → ⊥
first_no_type h u k e n f q = f (h.is ∙ rw (e, q) refl)

pub type_none :
    {s : List ℕ} → length s ≤ text_most → (a b : List ℕ) {t : Taken} {deep : ℕ} → (kind_of t ≡ word_kind → ⊥) → (kind_of t ≡ reserved_kind → ⊥)
    → (kind_of t ≡ code "?" → ⊥) → (kind_of t ≡ code "!" → ⊥) → (kind_of t ≡ code "&" → ⊥) → (kind_of t ≡ code "+" → ⊥)
    → TypeRead s a b a b t deep (Err (refusal kinds.Unexpected t.at))
type_none l a b {t} w n q g m p =
    record {
      told = λ ts x J K nx ns bs h acts r fits d.
          refused
          (not_here h l r (λ u k e.
          acts_stuck (x ∷ J) (a_type ∷ K) ts acts u k e
          (type_stuck K (symbol u) (record {
            no_word = first_no_type h u k e word_kind w;
            no_end = first_no_type h u k e reserved_kind n;
            no_query = first_no_type h u k e (code "?") q;
            no_bang = first_no_type h u k e (code "!") g;
            no_and = first_no_type h u k e (code "&") m;
            no_plus = first_no_type h u k e (code "+") p;
          }))));
    }

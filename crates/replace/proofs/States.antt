-- How the search stands, entry by entry: each step of an entry is a move of the search (`Searching` in rules), and so is the entry's end.
-- Assumes nothing.
use mathlib.Core.List.{List}
use mathlib.Core.Option.{Option, none, some, some-injective}
use mathlib.Core.Path.{◌≡◌, refl, sym, ap, subst, ◌∙◌}
use Rattle.std.specs.Prelude.{Result, Ok, Err}
use Prim.Native.Nat.{ℕ, zero, suc, ◌+◌, ◌*◌, ◌<◌, ◌≤◌}
use native.Mathlib.Decide.{ℕ_discrete}
use native.Mathlib.Numerals.{add-one}
use native.Mathlib.Omega.{arith}
use lib.ListN.{get_or, replicate, length-replicate}
use lib.Seq.{get_or-set_same}
use Rattle.rules.specs.Numbers.{table_nodes_most, labels_most}
use Rattle.rules.specs.Tables.{node_at}
use Rattle.rules.specs.Pairs.{Pair, Step, turns_most, starts, beside, mismatch_of, mismatch_at, step_of, step_at, landed, left_in, right_in}
use Rattle.rules.specs.Replies.{pair_count, scratch_size, mark_place}
use Rattle.rules.proofs.Basics.{none_some}
use Rattle.rules.proofs.Formed.{FormedNode, WellFormed}
use Rattle.rules.proofs.Places.{place, pair_in, pair_at, place_below, pair_at_place, pair_at_within, pairs_few, scratch_twice}
use Rattle.rules.proofs.Runs.{starts_within}
use Rattle.rules.proofs.Searching.{Searched, search_begins, search_skips, search_passes, search_expanded, search_pushes}
use Rattle.rules.proofs.Steps.{Inside, Within, step_within, step-numbered}
use Rattle.search.specs.Queue.{Kept, Queue, begun, visited}
use Rattle.search.proofs.Queues.{queue_begun, queue_visited, visited-met, visited_tail, visited_entry, entry_kept}
use Rattle.search.proofs.Runs.{run_start, run_kept, run_new}
use Rattle.table.specs.declared.Node.{Node}
use Rattle.table.specs.declared.Table.{Table}
use Rattle.table.specs.declared.answers.Mismatch.{Mismatch}
use Rattle.replace.specs.State.{pair_of, run_of, State, WrongAt}
use Rattle.replace.specs.Taking.{place_of, stepped, expanded, Ready, Formed, Takes}
use Rattle.replace.specs.declared.sizes.Sizes.{Sizes}
use Rattle.replace.specs.declared.entry.Side.{Side}
use Rattle.replace.specs.declared.entry.Entry.{Entry}

-- of two sides the left and the right one, as of two nodes and of two name bytes
sides_apart :
    {A : Type 0} (f : Node → List ℕ → Node → List ℕ → A) (u : ℕ) (x y : Side)
    → f (left_in u x y).node.now (left_in u x y).names.now (right_in u x y).node.now (right_in u x y).names.now
    ≡ f (left_in u x.node.now y.node.now) (left_in u x.names.now y.names.now) (right_in u x.node.now y.node.now) (right_in u x.names.now y.names.now)
sides_apart f zero x y = refl
sides_apart f (suc u) x y = refl

module _ {n m : ℕ} (x y : Side) where
  left_side_formed :
      (u : ℕ) → FormedNode n x.names.now x.node.now → FormedNode m y.names.now y.node.now
      → FormedNode (left_in u n m) (left_in u x y).names.now (left_in u x y).node.now
  left_side_formed zero f g = f
  left_side_formed (suc u) f g = g

  right_side_formed :
      (u : ℕ) → FormedNode n x.names.now x.node.now → FormedNode m y.names.now y.node.now
      → FormedNode (right_in u n m) (right_in u x y).names.now (right_in u x y).node.now
  right_side_formed zero f g = g
  right_side_formed (suc u) f g = f

module _ {new : Table} {new_names : List ℕ} {old : Table} {old_names : List ℕ} (new_formed : WellFormed new new_names) (old_formed : WellFormed old old_names) where
  abbrev N : ℕ
  N = pair_count new old

  few : N ≤ 32768
  few = pairs_few new_formed.few_nodes old_formed.few_nodes

  -- the queue holds the starts alone
  state_begins : State new new_names old old_names (begun N (mark_place new old (starts new old))) 0 0 0
  state_begins =
      let w : Within new old (starts new old) = starts_within new_formed old_formed in
      let l = place_below w in
      let k = begun N (mark_place new old (starts new old)) in
      let e : get_or k.scratch 0 0 ≡ mark_place new old (starts new old) =
      get_or-set_same (replicate (N + N) 0) 0 (mark_place new old (starts new old)) 0 (omega (arith, l, length-replicate {A = ℕ} (N + N) 0)) in
      record {
        queue = queue_begun few l;
        searched =
            search_begins (pair_of new new_names old old_names k) (run_of new new_names old old_names k)
            (ap (pair_at new old) e ∙ pair_at_place w) (run_start N k.marks k.scratch);
      }

  pub sizes_asked : (0 < new.count) × (0 < old.count) × (new.count ≤ table_nodes_most) × (old.count ≤ table_nodes_most)
  sizes_asked = (new_formed.some_node, old_formed.some_node, new_formed.few_nodes, old_formed.few_nodes)

  -- what is asked to begin, of areas that are just as long as is needed
  module _ {n m : ℕ} (counted : (n ≡ new.count) × (m ≡ old.count)) {i j : ℕ} (at : (i ≡ new.start) × (j ≡ old.start)) where
    pub starts_inside : Inside n m (record { turn = 0; new = i; old = j })
    starts_inside = rw (counted.0, counted.1, at.0, at.1) (starts_within new_formed old_formed)

    module _ {size start : ℕ} (of_pairs : size ≡ turns_most * n * m) (of_starts : start ≡ place n m (record { turn = 0; new = i; old = j })) where
      pub begin_asks :
          {marks scratch : ℕ} → marks ≡ N → scratch ≡ scratch_size new old
          → (start < size) × (size ≤ 32768) × (marks ≡ size) × (scratch ≡ size + size)
      begin_asks m s =
          let e : size ≡ N = of_pairs ∙ (rw (counted.0, counted.1)) in (
            rw (of_pairs, of_starts) (place_below starts_inside),
            omega (arith, e, few),
            m ∙ sym e,
            omega (arith, s, e, scratch_twice new.count old.count),
          )

      pub begun_state : {k : Kept} → k ≡ begun size start → State new new_names old old_names k 0 0 0
      begun_state e =
          rw (e, of_pairs, of_starts, counted.0, counted.1, at.0, at.1) state_begins

  entry_within : {k : Kept} {h : ℕ} → Queue N k → h < k.tail → Within new old (pair_of new new_names old old_names k h)
  entry_within {k} {h} Q l = pair_at_within new.count old.count (get_or k.scratch h 0) (Q.inside h l)

  -- entry h, whose pair is p, is being expanded, and its steps below s were taken
  record Going (p : Pair) (h s : ℕ) (k : Kept) : Type 0 where
    state : State new new_names old old_names k (h + 1) h s
    there : h < k.tail
    this : pair_of new new_names old old_names k h ≡ p

  module _ (p : Pair) (h s : ℕ) (k : Kept) (G : Going p h s k) where
    skips :
        ((q : Pair) → step_at new new_names old old_names p s ≡ some q
        → (j : ℕ) × (j < k.tail) × (pair_of new new_names old old_names k j ≡ q))
        → Going p h (s + 1) k
    skips f =
        record {
          state =
              record {
                queue = G.state.queue;
                searched =
                    search_skips G.state.searched G.there
                    (λ q S. f q (ap (λ (x : Pair). step_at new new_names old old_names x s) (sym G.this) ∙ S.leads));
              };
          there = G.there;
          this = G.this;
        }

    pushes :
        (q : Pair) → Step new new_names old old_names (pair_of new new_names old old_names k h) s q → get_or k.marks (mark_place new old q) 0 ≡ 0
        → Going p h (s + 1) (visited N h s (mark_place new old q) k)
    pushes q S free =
        let Q = G.state.queue in
        let w : Within new old q = step_within new_formed old_formed (entry_within Q G.there) S in
        let b = place_below w in
        let tail = visited_tail s Q G.there b free in
        let k' = visited N h s (mark_place new old q) k in
        let kept : (j : ℕ) → j < k.tail → pair_of new new_names old old_names k' j ≡ pair_of new new_names old old_names k j =
        λ j l. ap (pair_at new old) (entry_kept s Q G.there b free j l) in
        record {
          state =
              record {
                queue = queue_visited s Q G.there b;
                searched =
                    subst
                    (λ (n : ℕ).
                    Searched new new_names old old_names (pair_of new new_names old old_names k') (run_of new new_names old old_names k') n (h + 1) h (s + 1))
                    (sym tail)
                    (search_pushes kept (run_kept s Q G.there b free) G.state.searched (omega (arith, G.there)) G.there S
                    (ap (pair_at new old) (visited_entry s Q G.there b free) ∙ pair_at_place w) (run_new s Q G.there b free));
              };
          there = omega (arith, tail, G.there);
          this = kept h G.there ∙ G.this;
        }

    visits : (q : Pair) → step_at new new_names old old_names p s ≡ some q → Going p h (s + 1) (visited N h s (mark_place new old q) k)
    visits q e = go (ℕ_discrete (get_or k.marks (mark_place new old q) 0) 0)
      where
        S : Step new new_names old old_names (pair_of new new_names old old_names k h) s q
        S =
            record {
              fits = G.state.searched.good h (omega arith);
              leads = ap (λ (x : Pair). step_at new new_names old old_names x s) G.this ∙ e;
            }

        go : Dec (get_or k.marks (mark_place new old q) 0 ≡ 0) → Going p h (s + 1) (visited N h s (mark_place new old q) k)
        go (yes free) = pushes q S free
        go (no met) =
            let w : Within new old q = step_within new_formed old_formed (entry_within G.state.queue G.there) S in
            let v = G.state.queue.queued (mark_place new old q) (omega arith) in
            subst (Going p h (s + 1)) (sym (visited-met N h s (mark_place new old q) k met))
            (skips (λ r d. (
              v.0,
              v.1,
              ap (pair_at new old) v.2 ∙ pair_at_place w ∙ some-injective q r (sym e ∙ d),
            )))

    steps : Going p h (s + 1) (stepped N h s (place_of new.count old.count (step_at new new_names old old_names p s)) k)
    steps = go (step_at new new_names old old_names p s) refl
      where
        go :
            (o : Option Pair) → step_at new new_names old old_names p s ≡ o
            → Going p h (s + 1) (stepped N h s (place_of new.count old.count o) k)
        go none e = skips (λ q d. absurd (none_some (sym e ∙ d)))
        go (some q) e = visits q e

  -- where the steps of p lead
  abbrev ahead : Pair → ℕ → Option ℕ
  ahead p i = place_of new.count old.count (step_at new new_names old old_names p i)

  expands : (p : Pair) (h : ℕ) (k : Kept) → Going p h 0 k → (s : ℕ) → Going p h s (expanded N h (ahead p) s k)
  unfolding expanded
  expands p h k G zero = G
  expands p h k G (suc s) =
      subst (λ (n : ℕ). Going p h n (expanded N h (ahead p) (suc s) k)) (add-one s) (steps p h s (expanded N h (ahead p) s k) (expands p h k G s))

  -- Entry h, whose pair was read as p.
  module _ {k : Kept} {h : ℕ} (I : State new new_names old old_names k h h 0) (l : h < k.tail) (sizes : Sizes) (counted : (sizes.new ≡ new.count) × (sizes.old ≡ old.count)) {a : ℕ} {p : Pair} (at : a ≡ get_or k.scratch h 0) (is : p ≡ pair_in sizes.new sizes.old a) where
    this : pair_of new new_names old old_names k h ≡ p
    this = sym (is ∙ (rw (counted.0, counted.1, at)))

    pub entry_inside : Within new old p
    entry_inside = subst (Within new old) this (entry_within I.queue l)

    abbrev here : p.turn < turns_most → Entry
    here t = record { sizes = sizes; turn = p.turn; at = h; turn_below = t }

    pub entry_ready : (t : p.turn < turns_most) → Ready (here t) k
    entry_ready t = record { queue = rw (counted.0, counted.1) I.queue; entry = l }

    module _ (x y : Side) (X : (x.node.now ≡ node_at new p.new) × (x.names.now ≡ new_names)) (Y : (y.node.now ≡ node_at old p.old) × (y.names.now ≡ old_names)) where
      pub entry_nodes : (t : p.turn < turns_most) → Formed (here t) (left_in p.turn x y) (right_in p.turn x y)
      entry_nodes t =
          let f : FormedNode sizes.new x.names.now x.node.now = rw (X.0, X.1, counted.0) (new_formed.each p.new entry_inside.new_below) in
          let g : FormedNode sizes.old y.names.now y.node.now = rw (Y.0, Y.1, counted.1) (old_formed.each p.old entry_inside.old_below) in
          record { left = left_side_formed x y p.turn f g; right = right_side_formed x y p.turn f g }

      -- what is asked of the two nodes of the pair
      same_sides :
          {A : Type 0} (f : Node → List ℕ → Node → List ℕ → A)
          → f (left_in p.turn x y).node.now (left_in p.turn x y).names.now (right_in p.turn x y).node.now (right_in p.turn x y).names.now
          ≡ beside new new_names old old_names f p
      same_sides f = sides_apart f p.turn x y ∙ (rw (X.0, X.1, Y.0, Y.1))

      abbrev Came : List ℕ → List ℕ → Result ℕ Mismatch → Type 0
      Came = Takes (here entry_inside.turn_below) (left_in p.turn x y) (right_in p.turn x y) k

      module _ {marks scratch : List ℕ} where
        -- nothing was wrong, and every step was taken
        pub entry_expanded :
            {end : ℕ} → Came marks scratch (Ok end)
            → State new new_names old old_names (record { marks = marks; scratch = scratch; tail = end }) (h + 1) (h + 1) 0
        unfolding mismatch_at step_at
        entry_expanded {end} T =
            let G : Going p h 0 k =
            record {
              state =
                  record {
                    queue = I.queue;
                    searched =
                        search_passes I.searched (ap (mismatch_at new new_names old old_names) this ∙ sym (same_sides mismatch_of) ∙ T.0);
                  };
              there = l;
              this = this;
            } in
            let by : ℕ → ℕ → Node → List ℕ → Node → List ℕ → Kept =
            λ n m x xs y ys. expanded (turns_most * n * m) h (λ s. place_of n m (landed p.turn (step_of x xs y ys s))) labels_most k in
            let taken : record { marks = marks; scratch = scratch; tail = end } ≡ expanded N h (ahead p) labels_most k =
            T.1 ∙ same_sides (by sizes.new sizes.old)
            ∙ ap (λ (n : ℕ). beside new new_names old old_names (by n sizes.old) p) counted.0
            ∙ ap (λ (m : ℕ). beside new new_names old old_names (by new.count m) p) counted.1 in
            let E = subst (Going p h labels_most) (sym taken) (expands p h k G labels_most) in
            record {
              queue = E.state.queue;
              searched =
                  search_expanded E.state.searched E.there
                  (λ s q S. step-numbered new_formed old_formed (entry_within E.state.queue E.there) S);
            }

        -- something was wrong
        pub entry_wrong :
            {w : Mismatch} → Came marks scratch (Err w)
            → WrongAt new new_names old old_names marks scratch (record { at = h; mismatch = w })
        unfolding mismatch_at
        entry_wrong {w} T =
            record {
              tail = k.tail;
              within = l;
              state =
                  subst (λ (z : Kept). State new new_names old old_names z h h 0)
                  (λ i. record { marks = sym T.1 i; scratch = sym T.2 i; tail = k.tail }) I;
              wrong =
                  ap (λ (z : List ℕ). mismatch_at new new_names old old_names (pair_at new old (get_or z h 0))) T.2
                  ∙ ap (mismatch_at new new_names old old_names) this ∙ sym (same_sides mismatch_of) ∙ T.0;
            }

-- Source 001, figure 4, with document 01's correction, "unfolding decides here": what it is for a node of one table and a node of another to
-- be the same, and to be dual, however often their links are unfolded. The dual that is made is `Dual.dual`; that it is this is a law.
-- Assumes nothing.
use Rattle.std.specs.Prelude.{Bool, true, List, ◌≡◌, ℕ, ◌<◌}
use Rattle.rules.specs.Tables.{node_at, item_count, item_at, label_count, label_at, continuation, is_message, spelling_at}
use Rattle.rules.specs.Dual.{turned_kind}
use Rattle.table.specs.declared.Kind.{Kind}
use Rattle.table.specs.declared.Item.{Item}
use Rattle.table.specs.declared.Item.TheVariants.{OfSort, Session}
use Rattle.table.specs.declared.Node.{Node}
use Rattle.table.specs.declared.Table.{Table}

-- an item beside another: the same sort, or two sessions whose nodes are related
abbrev pub ItemBeside : (ℕ → ℕ → Type 0) → Item → Item → Type 0
ItemBeside R (OfSort a) (OfSort b) = a ≡ b
ItemBeside R (OfSort a) (Session l) = ⊥
ItemBeside R (Session k) (OfSort b) = ⊥
ItemBeside R (Session k) (Session l) = R k l

-- One equation: a node of the kind k beside one of the kind f k, with as many items and the same labels in the same order ("labels and
-- lists stay"); nodes that items link to are related by I, those that a continuation or a label goes on to by G.
pub record Beside (names other_names : List ℕ) (f : Kind → Kind) (I G : ℕ → ℕ → Type 0) (x y : Node) : Type 0 where
  pub kind : y.kind ≡ f x.kind
  pub items : item_count y ≡ item_count x
  pub each_item : (i : ℕ) → i < item_count x → ItemBeside I (item_at x i) (item_at y i)
  pub goes_on : is_message x.kind ≡ true → G (continuation x) (continuation y)
  pub labels : label_count y ≡ label_count x
  pub each_label : (i : ℕ) → i < label_count x → spelling_at y other_names i ≡ spelling_at x names i
  pub leads_on : (i : ℕ) → i < label_count x → G (label_at x i).to (label_at y i).to

-- a table with its name bytes, and another with its own
module _ (t : Table) (names : List ℕ) (u : Table) (other_names : List ℕ) where
  -- A set of nodes of the one beside nodes of the other that keeps to an equation at each of its members.
  pub record Keeps (f : Kind → Kind) (I : ℕ → ℕ → Type 0) (set : ℕ → ℕ → Bool) : Type 0 where
    pub within : (i j : ℕ) → set i j ≡ true → (i < t.count) × (j < u.count)
    pub each : (i j : ℕ) → set i j ≡ true → Beside names other_names f I (λ k l. set k l ≡ true) (node_at t i) (node_at u j)

  -- Node i and node j say the same: some set holds them in which each node stands beside one of its own kind, with items in the set too.
  pub record SameByUnfolding (i j : ℕ) : Type 0 where
    pub set : ℕ → ℕ → Bool
    pub keeps : Keeps (λ k. k) (λ k l. set k l ≡ true) set
    pub holds : set i j ≡ true

  -- Node j is the dual of node i: some set holds them in which each node stands beside one of the turned kind, "continuations and choices
  -- go on as duals; a session item is not turned round".
  pub record DualByUnfolding (i j : ℕ) : Type 0 where
    pub set : ℕ → ℕ → Bool
    pub keeps : Keeps turned_kind SameByUnfolding set
    pub holds : set i j ≡ true

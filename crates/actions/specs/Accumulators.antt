-- Accumulators.
use Rattle.std.specs.Prelude.{ℕ, List, map, ◌≡◌, ◌≤◌, ◌*◌, ⊤, [], length, nat_abs, All, ℤ, Option, Some, None}
use Rattle.rdf_values.specs.declared.results.Item.TheVariants.{Single}
use Rattle.rdf_values.specs.{Scalar, ActionKind, Extreme, Filled, Flat, fold_items, Reduced, Square, Taken}
use Rattle.actions.specs.declared.taken.TakenValue.{TakenValue}
use Rattle.actions.specs.Parts.{Fed, by_cluster, in_file_order}
use Rattle.rdf_values.specs.results.Fold.{Count, Sum}
use Rattle.histograms.specs.{IsAxis}
use Rattle.actions.specs.declared.state.State.{State}

-- ---- the values of a Take

-- a value as the item that it was
abbrev pub fed_value : TakenValue → Fed
fed_value v = record { cluster = v.cluster; item = Single v.value }

-- values of one cluster
abbrev pub values_from : ℕ → List Scalar → List TakenValue
values_from cluster xs = map (λ x. record { cluster = cluster; value = x }) xs

-- ---- what an accumulator holds

-- the action
abbrev pub kind_of : State → ActionKind
kind_of (State.Count n) = ActionKind.Count
kind_of (State.Sum c z) = ActionKind.Sum c
kind_of (State.Min c o) = ActionKind.Min c
kind_of (State.Max c o) = ActionKind.Max c
kind_of (State.Take c vs) = ActionKind.Take c
kind_of (State.Reduce c r) = ActionKind.Reduce r.op c
kind_of (State.Histo1D h x w) = ActionKind.Histo1D h.edges x w
kind_of (State.Histo2D h x y w) = ActionKind.Histo2D h.x_edges h.y_edges x y w

-- what was made of the items
abbrev pub made : State → Filled
made (State.Count n) = Count n
made (State.Sum c s) = Sum s.sum
made (State.Min c l) = Extreme l.best
made (State.Max c g) = Extreme g.best
made (State.Take c vs) = Taken (map (λ v. v.value) vs)
made (State.Reduce c r) = Reduced r.value
made (State.Histo1D h x w) = Flat h.cells
made (State.Histo2D h x y w) = Square h.cells

-- the values of a Take, with their clusters
abbrev pub kept : State → List Fed
kept (State.Take c vs) = map fed_value vs
kept s = []

-- what a Take keeps of the items
abbrev pub kept_of : ActionKind → List Fed → List Fed
kept_of (ActionKind.Take c) fed = by_cluster fed
kept_of k fed = []

-- these items were fed, and no others
pub record Holds (s : State) (fed : List Fed) : Type 0 where
  pub made : made s ≡ fold_items (kind_of s) (in_file_order fed)
  pub kept : kept s ≡ kept_of (kind_of s) fed

abbrev pub IsTake : ActionKind → Type 0
IsTake (ActionKind.Take c) = ⊤
IsTake k = ⊥

-- so many entries can have fed it, each with at most 4,096 elements
abbrev pub IsWithin : ℕ → State → Type 0
IsWithin n (State.Count m) = m ≤ n
IsWithin n (State.Sum c s) = nat_abs s.sum ≤ n * 37778931862957161709568
IsWithin n (State.Take c vs) = length vs ≤ n
IsWithin n (State.Histo1D h x w) = h.fills ≤ n * 4096
IsWithin n (State.Histo2D h x y w) = h.fills ≤ n * 4096
IsWithin n s = ⊤

-- the edges of each axis are at least two, strictly rise, and are few enough
abbrev pub HasEdges : ActionKind → Type 0
HasEdges (ActionKind.Histo1D edges x w) = IsAxis edges
HasEdges (ActionKind.Histo2D xs ys x y w) = IsAxis xs × IsAxis ys
HasEdges k = ⊤

-- what a contract sees: the action, how many entries were fed, the highest cluster that fed,
-- what was made of the items, and the values of a Take with their clusters
pub record Accumulator : Type 0 where
  pub kind : ActionKind
  pub entries : ℕ
  pub last : ℕ
  pub filled : Filled
  pub kept : List Fed

-- these items were fed, and no others
pub record HasFed (acc : Accumulator) (fed : List Fed) : Type 0 where
  pub filled : acc.filled ≡ fold_items acc.kind (in_file_order fed)
  pub kept : acc.kept ≡ kept_of acc.kind fed
  pub below : All (λ f. f.cluster ≤ acc.last) fed

-- what is held comes from at most so many entries, and those are at most 1,000,000
pub record KeepsCount (entries : ℕ) (state : State) : Type 0 where
  pub few : entries ≤ 1000000
  pub within : IsWithin entries state

-- ---- the better of numbers that may be missing

-- a number beside the best so far, if there is one
abbrev pub better_of : (ℤ → ℤ → ℤ) → Option ℤ → ℤ → Option ℤ
better_of better None z = Some z
better_of better (Some best) z = Some (better best z)

-- the better of two numbers that may both be missing
abbrev pub better_of_two : (ℤ → ℤ → ℤ) → Option ℤ → Option ℤ → Option ℤ
better_of_two better o None = o
better_of_two better o (Some z) = better_of better o z

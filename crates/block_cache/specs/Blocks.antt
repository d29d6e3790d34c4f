-- What is held of the entries of a block.
use Rattle.std.specs.Prelude.{◌≡◌, ◌<◌, ◌≤◌, ◌+◌, ◌-◌, ◌++◌, ℕ, ℤ, false, List, length, map, take, replicate, All, Option, Some, if◌then◌else◌, slice_get, slice_set}
use Rattle.rdf_values.specs.{ColType, kind_at, Value}
use Rattle.rdf_model.specs.{Faults, Gives, Needs, Outcome}
use Rattle.expr_check.specs.{CheckedExpr, is_vector}
use Rattle.expr_lanes.specs.{at_place, depth}
use Rattle.graph_numbers.specs.{Source}
use Rattle.block_cache.specs.Lanes.{LaneView, is_held, value_of}
use Rattle.loop_keys.specs.{Held, IsMissing, IsSound, job_graph, JobView, key, key_count, MeetsAt, row_in, site_in, source_at}

-- a value that is held
abbrev pub held_value : Value → Held
held_value (Value.Int z) = Held.Int z
held_value (Value.Bool b) = Held.Bool b
held_value (Value.Vect zs) = Held.Vect zs

-- what a lane holds at a place
abbrev pub held_at : LaneView → ℕ → Held
held_at l p = if is_held l p then held_value (value_of l p) else Held.Nothing

-- what so many keys hold of the entry at a place, by the lanes of the first of them: nothing of the others
abbrev pub cells_at : ℕ → List LaneView → ℕ → List Held
cells_at keys lanes p = map (λ (l : LaneView). held_at l p) lanes ++ replicate (keys - length lanes) Held.Nothing

-- ---- the table's columns

-- the numbers of a column at so many entries, from one on
pub record IsColumn (rows : List (List Value)) (first count col : ℕ) (numbers : List ℤ) : Type 0 where
  pub long : count ≤ length numbers
  pub each : (p : ℕ) → p < count → slice_get (row_in rows (first + p)) col ≡ Some (Value.Int (at_place numbers p))

-- the column is there, as numbers
abbrev pub HasColumn : JobView → ℕ → ℕ → List (List ℤ) → ℕ → Type 0
HasColumn j first count cells col = (numbers : List ℤ) × (slice_get cells col ≡ Some numbers) × IsColumn j.dataset.rows first count col numbers

-- ---- what can be read

-- the lane is there, in a block of so many places
abbrev pub HasLane : ℕ → List LaneView → ℕ → Type 0
HasLane count lanes k = (l : LaneView) × (slice_get lanes k ≡ Some l) × (l.count ≡ count)

-- a column of numbers is there, and a site has a lane
abbrev pub HasSource : JobView → ℕ → Option ℕ → ℕ → List LaneView → List (List ℤ) → Source → Type 0
HasSource j first u count lanes cells (Source.Cell col) = kind_at j.dataset.columns col ≡ Some ColType.Int → HasColumn j first count cells col
HasSource j first u count lanes cells (Source.Site s) = HasLane count lanes (key (job_graph j) s u)
HasSource j first u count lanes cells (Source.Element s k tags) = HasLane count lanes (key (job_graph j) s u)

-- the lane is there, and has no vectors
abbrev pub HasNumberLane : ℕ → List LaneView → ℕ → Type 0
HasNumberLane count lanes k = (l : LaneView) × (slice_get lanes k ≡ Some l) × (l.count ≡ count) × (is_vector l.kind ≡ false)

-- the source can be read at all places at once: a column of numbers, or a site with a lane without vectors
abbrev pub HasNumbers : JobView → ℕ → Option ℕ → ℕ → List LaneView → List (List ℤ) → Source → Type 0
HasNumbers j first u count lanes cells (Source.Cell col) = HasColumn j first count cells col
HasNumbers j first u count lanes cells (Source.Site s) = HasNumberLane count lanes (key (job_graph j) s u)
HasNumbers j first u count lanes cells (Source.Element s k tags) = ⊥

-- ---- one evaluation of a site over a block

-- a lane for each key, in a block of so many places, one at least, whose entries are of the table; and what is held is right
pub record AreReady (j : JobView) (first count : ℕ) (lanes : List LaneView) : Type 0 where
  pub many : length lanes ≡ key_count (job_graph j)
  pub counts : All (λ (l : LaneView). l.count ≡ count) lanes
  pub some : 0 < count
  pub within : first + count ≤ length j.dataset.rows
  pub sound : (p : ℕ) → p < count → IsSound j (first + p) (cells_at (key_count (job_graph j)) lanes p)

-- the site's lane is of its expression's kind, the levels are enough for it, and each version that it reads is a column of the table or has
-- a lane below
pub record IsTriable (j : JobView) (first : ℕ) (u : Option ℕ) (count : ℕ) (lanes : List LaneView) (cells : List (List ℤ)) (levels s : ℕ) (e : CheckedExpr) : Type 0 where
  pub kind : (l : LaneView) → slice_get lanes (key (job_graph j) s u) ≡ Some l → e.kind ≡ l.kind
  pub deep : depth e.tree ≤ levels
  pub sources : All (λ (c : ℕ × ColType). HasSource j first u count (take (key (job_graph j) s u) lanes) cells (source_at j u c.0)) e.kinds

-- an evaluation over what is held tells what the site comes to, or a version that it meets and that is missing
abbrev pub IsTelling : JobView → ℕ → Option ℕ → List Held → ℕ → Outcome ℕ Value → Type 0
IsTelling j entry u cells s (Gives v) = site_in {M = ⊥} j entry u s ≡ Gives v
IsTelling j entry u cells s (Faults k) = site_in {M = ⊥} j entry u s ≡ Faults k
IsTelling j entry u cells s (Needs c) = IsMissing j u cells s c × MeetsAt j entry u s c

-- of all lanes that of the key alone is another
pub record IsLaneSet (k : ℕ) (before after : List LaneView) : Type 0 where
  pub own : LaneView
  pub is_own : slice_get before k ≡ Some own
  pub lane : LaneView
  pub written : after ≡ slice_set before k lane

-- What filling a site over a block does.
use Rattle.std.specs.Prelude.{◌≡◌, ◌⊎◌, ◌<◌, ◌≤◌, ◌+◌, ◌*◌, ⊤, ℕ, ℤ, Bool, true, false, not, List, [], ◌∷◌, Option, Some, None, count_by, fold, nat_lt, slice_get, length, slice_index, slice_set}
use Rattle.std.specs.List.{filter, sum_by, range_with_len}
use Rattle.rdf_values.specs.{ColType, EachColumn, EntryFault, kind_at, Bin, Call, Col, Cond, End, Lit, More, Neg, Not, Pick, Tree, Trees}
use Rattle.rdf_model.specs.{fault_in, is_true}
use Rattle.expr_check.specs.{CheckedExpr}
use Rattle.expr_eval.specs.{ScalarStop}
use Rattle.expr_eval.specs.declared.stop.ScalarStop.TheVariants.{Fault, Need}
use Rattle.expr_lanes.specs.{depth, EachPlace, is_in, Stopped}
use Rattle.graph_numbers.specs.{graph_sites, GraphView, IsSiteExpr, SiteAt, Source, graph_versions}
use Rattle.block_cache.specs.Lanes.{LaneView, is_held, is_tried, kinds_of, rooms_of, tried_count}
use Rattle.loop_keys.specs.{Grows, held_in, IsClosed, IsSourceIn, job_graph, JobView, key, key_count, site_in, source_at, truth_in, IsSiteOf, MeetsAt}
use Rattle.block_cache.specs.Blocks.{AreReady, HasColumn, cells_at}
use Rattle.block_cache.specs.Values.{fault_at}
use Rattle.block_cache.specs.declared.faults.PlaceFault.{PlaceFault}
use Rattle.rdf_values.specs.expressions.Expressions.{Truth}

-- ---- what is known of a key at a place

abbrev pub lane_begun : Option LaneView → ℕ → Bool
lane_begun None p = false
lane_begun (Some l) p = is_tried l p

abbrev pub lane_holds : Option LaneView → ℕ → Bool
lane_holds None p = false
lane_holds (Some l) p = is_held l p

-- its evaluation was begun there
abbrev pub begun_at : List LaneView → ℕ → ℕ → Bool
begun_at lanes k p = lane_begun (slice_get lanes k) p

-- it holds a value there
abbrev pub holds_at : List LaneView → ℕ → ℕ → Bool
holds_at lanes k p = lane_holds (slice_get lanes k) p

-- how many evaluations were begun
abbrev pub begun_count : List LaneView → ℕ
begun_count lanes = sum_by tried_count lanes

-- at the places of the selection all that was begun holds its value
abbrev pub IsSettled : List LaneView → List ℕ → Type 0
IsSettled lanes sel = EachPlace sel (λ p. (k : ℕ) → begun_at lanes k p ≡ true → holds_at lanes k p ≡ true)

-- the same is known of the key at the place
abbrev pub IsSameAt : ℕ → List LaneView → List LaneView → ℕ → ℕ → Type 0
IsSameAt keys before after k p = (begun_at after k p ≡ begun_at before k p) × (held_in (cells_at keys after p) k ≡ held_in (cells_at keys before p) k)

-- ---- the first fault

-- a fault before others
abbrev pub fault_before : ℕ → Option EntryFault → Option PlaceFault → Option PlaceFault
fault_before p None rest = rest
fault_before p (Some k) rest = Some (fault_at p k)

-- the first place of the selection that has a fault: the least, since selections rise
abbrev pub fault_over : (ℕ → Option EntryFault) → List ℕ → Option PlaceFault
fault_over f [] = None
fault_over f (p ∷ sel) = fault_before p (f p) (fault_over f sel)

-- the place is below the fault
abbrev pub is_below : Option PlaceFault → ℕ → Bool
is_below None p = true
is_below (Some f) p = nat_lt p f.place

-- the places below the fault
abbrev pub below_fault : Option PlaceFault → List ℕ → List ℕ
below_fault None sel = sel
below_fault (Some f) sel = filter (λ p. nat_lt p f.place) sel

-- the site's fault at a place of a block that begins at this entry
abbrev pub site_fault : JobView → ℕ → Option ℕ → ℕ → ℕ → Option EntryFault
site_fault j first u s p = fault_in (site_in j (first + p) u s)

-- ---- what can be filled

-- each key's values are of the kind of its site
abbrev pub AreSiteKinds : GraphView → List ColType → Type 0
AreSiteKinds g kinds = (t : ℕ) (w : Option ℕ) (e : CheckedExpr) (k : ColType) → IsSiteExpr g t e → slice_get kinds (key g t w) ≡ Some k → e.kind ≡ k

-- a column of numbers is there
abbrev pub IsLoaded : JobView → ℕ → ℕ → List (List ℤ) → Source → Type 0
IsLoaded j first count cells (Source.Cell col) = kind_at j.dataset.columns col ≡ Some ColType.Int → HasColumn j first count cells col
IsLoaded j first count cells (Source.Site t) = ⊤
IsLoaded j first count cells (Source.Element t k tags) = ⊤

-- the source is no site, or one of a lower rank
abbrev pub IsRankedBelow : (ℕ → ℕ) → ℕ → Source → Type 0
IsRankedBelow rank n (Source.Cell col) = ⊤
IsRankedBelow rank n (Source.Site t) = rank t < n
IsRankedBelow rank n (Source.Element t k tags) = rank t < n

-- the levels of scratch are enough for the site's expression; the columns that it reads are there; and its sites are of the set, of lower ranks
pub record IsFillable (j : JobView) (first : ℕ) (u : Option ℕ) (count : ℕ) (cells : List (List ℤ)) (scratch : ℕ) (used : ℕ → Bool) (rank : ℕ → ℕ) (s : ℕ) (x : SiteAt) : Type 0 where
  pub deep : depth x.tree ≤ scratch
  pub loaded : EachColumn (λ c. IsLoaded j first count cells (source_at j u c)) x.tree
  pub closed : EachColumn (λ c. IsSourceIn used (source_at j u c)) x.tree
  pub falls : EachColumn (λ c. IsRankedBelow rank (rank s) (source_at j u c)) x.tree

-- the site is one of a set, each of which can be filled, and there are levels for it and those below it
pub record CanFill (j : JobView) (first : ℕ) (u : Option ℕ) (count : ℕ) (kinds : List ColType) (cells : List (List ℤ)) (scratch levels s : ℕ) : Type 0 where
  pub used : ℕ → Bool
  pub has : used s ≡ true
  pub kinds_are : AreSiteKinds (job_graph j) kinds
  pub rank : ℕ → ℕ
  pub each : (t : ℕ) (x : SiteAt) → used t ≡ true → slice_get (graph_sites (job_graph j)) t ≡ Some x → IsFillable j first u count cells scratch used rank t x
  pub room : rank s < levels

-- ---- filling

-- all is as it was, but for the sites that the site calls for at the selected places
abbrev pub IsOnlyCalled : JobView → ℕ → Option ℕ → ℕ → List ℕ → List LaneView → List LaneView → Type 0
IsOnlyCalled j first u s sel before after =
    (D : ℕ → ℕ → Bool) → EachPlace sel (λ p. IsClosed j (first + p) u (D p) × (D p s ≡ true))
    → (k p : ℕ) → IsSameAt (key_count (job_graph j)) before after k p ⊎ ((is_in p sel ≡ true) × ((t : ℕ) × (t ≤ s) × (D p t ≡ true) × (k ≡ key (job_graph j) t u)))

-- what was begun stays so, what was held is held as it was, and the lanes are of the same kinds with as much room
pub record IsGrownOver (j : JobView) (first : ℕ) (u : Option ℕ) (s : ℕ) (sel : List ℕ) (before after : List LaneView) : Type 0 where
  pub kinds : kinds_of after ≡ kinds_of before
  pub rooms : rooms_of after ≡ rooms_of before
  pub stays : (k p : ℕ) → begun_at before k p ≡ true → begun_at after k p ≡ true
  pub grows : (p : ℕ) → Grows (cells_at (key_count (job_graph j)) before p) (cells_at (key_count (job_graph j)) after p)
  pub only : IsOnlyCalled j first u s sel before after

-- and each evaluation that is newly begun was made twice at most
pub record IsSpentOver (j : JobView) (first : ℕ) (u : Option ℕ) (s : ℕ) (sel : List ℕ) (before after : List LaneView) (start end : ℕ) : Type 0 where
  pub grown : IsGrownOver j first u s sel before after
  pub cost : end + 2 * begun_count before ≤ start + 2 * begun_count after

-- the first fault among the places, which are left below it, each with the site's value held
pub record IsFilledTo (j : JobView) (first : ℕ) (u : Option ℕ) (count s : ℕ) (sel left : List ℕ) (after : List LaneView) (found : Option PlaceFault) : Type 0 where
  pub fault : found ≡ fault_over (site_fault j first u s) sel
  pub left_is : left ≡ below_fault found sel
  pub held : EachPlace left (λ p. holds_at after (key (job_graph j) s u) p ≡ true)
  pub ready : AreReady j first count after

-- and where the site wasn't held, its first evaluation was the last, or is paid by the sites that it lacked
pub record IsPaidOver (j : JobView) (first : ℕ) (u : Option ℕ) (count s : ℕ) (sel left : List ℕ) (before after : List LaneView) (found : Option PlaceFault) (start end : ℕ) : Type 0 where
  pub filled : IsFilledTo j first u count s sel left after found
  pub paid : end + 2 * begun_count before + count_by (λ p. not (holds_at before (key (job_graph j) s u) p)) sel ≤ start + 2 * begun_count after

-- the first fault among the places; left are those below it at which the filter is true; and below it all is settled as before
pub record IsPassedOver (j : JobView) (first : ℕ) (u : Option ℕ) (count s : ℕ) (sel left : List ℕ) (after : List LaneView) (found : Option PlaceFault) : Type 0 where
  pub fault : found ≡ fault_over (site_fault j first u s) sel
  pub left_is : left ≡ filter (λ p. is_true (truth_in j (first + p) u s)) (below_fault found sel)
  pub ready : AreReady j first count after
  pub settled : IsSettled after (below_fault found sel)

-- ---- how far the filling of a site over a block has come

-- the version that the place waits for
abbrev pub need_at : List ℕ → ℕ → ℕ
need_at needs p = slice_index needs p

-- one stop more is noted
abbrev pub noted_at : List ℕ → ℕ → ScalarStop → List ℕ
noted_at needs p (Fault k) = needs
noted_at needs p (Need c) = slice_set needs p c

-- and each of a list, one after another
abbrev pub noted_in : List ℕ → List Stopped → List ℕ
noted_in needs stops = fold (λ (ns : List ℕ) (s : Stopped). noted_at ns s.place s.stop) needs stops

-- at the places of the selection all that was begun of the sites up to s holds its value
abbrev pub IsSettledTo : JobView → Option ℕ → ℕ → List LaneView → List ℕ → Type 0
IsSettledTo j u s lanes sel = EachPlace sel (λ p. (t : ℕ) → t ≤ s → begun_at lanes (key (job_graph j) t u) p ≡ true → holds_at lanes (key (job_graph j) t u) p ≡ true)

-- the evaluation of s at the place meets the version, whose site, a lower one, isn't held there
pub record IsWaiting (j : JobView) (first : ℕ) (u : Option ℕ) (s : ℕ) (lanes : List LaneView) (p c : ℕ) : Type 0 where
  pub there : c < length (graph_versions (job_graph j))
  pub site : ℕ
  pub source : IsSiteOf site (source_at j u c)
  pub lower : site < s
  pub lacks : holds_at lanes (key (job_graph j) site u) p ≡ false
  pub met : MeetsAt j (first + p) u s c

-- no fault, or that of one of the places
abbrev pub IsFaultOf : (ℕ → Option EntryFault) → List ℕ → Option PlaceFault → Type 0
IsFaultOf f sel None = ⊤
IsFaultOf f sel (Some x) = (is_in x.place sel ≡ true) × (f x.place ≡ Some x.kind)

-- of two faults the one that was found, if one was
abbrev pub found_or : Option PlaceFault → Option PlaceFault → Option PlaceFault
found_or None fault = fault
found_or (Some f) fault = Some f

-- how many evaluations weren't begun in a block of so many places
abbrev pub left_to_begin : ℕ → List LaneView → ℕ
left_to_begin count lanes = sum_by (λ k. count_by (λ p. not (begun_at lanes k p)) (range_with_len 0 count)) (range_with_len 0 (length lanes))

-- ---- what the evaluation of a site reads first

-- a number reads nothing, and what stands behind it is read next
abbrev pub or_behind : {C F : Type 0} → Tree C F → Option C → Option C → Option C
or_behind (Lit z) own behind = behind
or_behind a own behind = own

abbrev mutual
  -- the column that an evaluation reads before anything can fault, if it reads one so
  pub first_read : {C F : Type 0} → Tree C F → Option C
  first_read (Lit z) = None
  first_read (Truth b) = None
  first_read (Col c) = Some c
  first_read (Neg a) = first_read a
  first_read (Not a) = first_read a
  first_read (Bin op a b) = or_behind a (first_read a) (first_read b)
  first_read (Cond c a b) = first_read c
  first_read (Pick v i) = first_read v
  first_read (Call f args) = first_read_in args

  pub first_read_in : {C F : Type 0} → Trees C F → Option C
  first_read_in End = None
  first_read_in (More a rest) = or_behind a (first_read a) (first_read_in rest)

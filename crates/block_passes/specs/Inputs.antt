-- What the passes of a block read, and what evaluations do to what is known of it.
use Rattle.std.specs.Prelude.{◌≡◌, ◌<◌, ◌+◌, ⊤, ℕ, ℤ, Bool, true, List, Option, Some, nat_lt, length, slice_get, ◌⊎◌, ◌≤◌, ◌*◌}
use Rattle.std.specs.List.{filter, AllByRecursion}
use Rattle.rdf_values.specs.{ColType, EntryFault, kind_at, Value}
use Rattle.rdf_model.specs.{fault_in, for_all, Gives}
use Rattle.graph_numbers.specs.{graph_sites, graph_versions, HasInputs, Source, source_value}
use Rattle.block_cache.specs.{AreReady, CanFill, cells_at, HasColumn, holds_at, LaneView, begun_at, begun_count, kinds_of, rooms_of}
use Rattle.loop_keys.specs.{IsSourceIn, job_graph, JobView, key, key_count, row_of, site_in, source_at, version_in, Grows, HasAllDemands, HasAllKeys, IsClosed}
use Rattle.block_passes.specs.Searches.{Lowers, where_in}
use Rattle.block_passes.specs.declared.turn.Found.{Found}
use Rattle.block_passes.specs.declared.turn.KeptPlaces.{KeptPlaces}

-- what was held is held as it was, only what the loop demands is newly begun, and each evaluation that is newly begun was made twice at
-- most
pub record Spends (j : JobView) (first count : ℕ) (before after : List LaneView) (start end : ℕ) : Type 0 where
  pub kinds : kinds_of after ≡ kinds_of before
  pub rooms : rooms_of after ≡ rooms_of before
  pub grows : (p : ℕ) → Grows (cells_at (key_count (job_graph j)) before p) (cells_at (key_count (job_graph j)) after p)
  pub only : (T : ℕ → ℕ → Bool) → ((p : ℕ) → p < count → HasAllDemands j (first + p) (T p)) → (k p : ℕ) → begun_at after k p ≡ true → (begun_at before k p ≡ true) ⊎ ((p < count) × (T p k ≡ true))
  pub cost : end + 2 * begun_count before ≤ start + 2 * begun_count after

-- all that was begun at the place holds its value
abbrev pub IsSettledAt : List LaneView → ℕ → Type 0
IsSettledAt lanes p = (k : ℕ) → begun_at lanes k p ≡ true → holds_at lanes k p ≡ true

-- ---- What the passes of a loop demand at the places of a block.

-- a set of sites that has with each those that its evaluation meets in the entry, as the loop demands them: their keys are in a set that
-- has all that its passes demand
pub record IsDemandedAt (j : JobView) (entry : ℕ) (u : Option ℕ) (T D : ℕ → Bool) : Type 0 where
  pub closed : IsClosed j entry u D
  pub keys : HasAllKeys j u D T

-- the loop demands the site in the entry
abbrev pub Demands : JobView → ℕ → Option ℕ → (ℕ → Bool) → ℕ → Type 0
Demands j entry u T s = (D : ℕ → Bool) × IsDemandedAt j entry u T D × (D s ≡ true)

-- ---- what is read

-- what gives a version its value is at hand at a place: a column of the table is, a site where its value is held, and an element of a
-- site's vector where that is held and has one element for each tag
abbrev pub IsAtHand : JobView → ℕ → List LaneView → Option ℕ → ℕ → Source → Type 0
IsAtHand j first lanes u p (Source.Cell col) = ⊤
IsAtHand j first lanes u p (Source.Site s) = holds_at lanes (key (job_graph j) s u) p ≡ true
IsAtHand j first lanes u p (Source.Element s k tags) =
    (holds_at lanes (key (job_graph j) s u) p ≡ true) × (v : Value) × (source_value {M = ⊥} (row_of j (first + p)) (site_in j (first + p) u) (Source.Element s k tags) ≡ Gives v)

-- so are all versions that are read
abbrev pub AreAtHand : JobView → ℕ → List LaneView → Option ℕ → List ℕ → ℕ → Type 0
AreAtHand j first lanes u inputs p = AllByRecursion (λ c. IsAtHand j first lanes u p (source_at j u c)) inputs

-- the source is read in place: a column of the table, or the lane of a site that holds numbers or truths
abbrev pub IsWhole : JobView → Option ℕ → List ColType → Source → Type 0
IsWhole j u kinds (Source.Cell col) = ⊤
IsWhole j u kinds (Source.Site s) = slice_get kinds (key (job_graph j) s u) ≡ Some ColType.Vect → ⊥
IsWhole j u kinds (Source.Element s k tags) = ⊥

-- the site can be filled
abbrev pub IsFillableSite : JobView → ℕ → Option ℕ → ℕ → List ColType → List (List ℤ) → ℕ → ℕ → ℕ → Type 0
IsFillableSite j first u count kinds cells scratch levels s = (s < length (graph_sites (job_graph j))) × CanFill j first u count kinds cells scratch levels s

-- a column is there, as numbers if it is one of numbers; or the site can be filled
abbrev pub IsServable : JobView → ℕ → Option ℕ → ℕ → List ColType → List (List ℤ) → ℕ → ℕ → Source → Type 0
IsServable j first u count kinds cells scratch levels (Source.Cell col) = (col < length j.dataset.columns) × (kind_at j.dataset.columns col ≡ Some ColType.Int → HasColumn j first count cells col)
IsServable j first u count kinds cells scratch levels (Source.Site s) = IsFillableSite j first u count kinds cells scratch levels s
IsServable j first u count kinds cells scratch levels (Source.Element s k tags) = IsFillableSite j first u count kinds cells scratch levels s

-- the version is there, and so is what gives it its value
abbrev pub CanServe : JobView → ℕ → Option ℕ → ℕ → List ColType → List (List ℤ) → ℕ → ℕ → ℕ → Type 0
CanServe j first u count kinds cells scratch levels c = (c < length (graph_versions (job_graph j))) × IsServable j first u count kinds cells scratch levels (source_at j u c)

-- the loop demands the source in the entry
abbrev pub DemandsSource : JobView → ℕ → Option ℕ → (ℕ → Bool) → Source → Type 0
DemandsSource j entry u T x = (D : ℕ → Bool) × IsDemandedAt j entry u T D × IsSourceIn D x

-- it demands what is read in it
abbrev pub DemandsInputs : JobView → ℕ → Option ℕ → (ℕ → Bool) → List ℕ → Type 0
DemandsInputs j entry u T inputs = (D : ℕ → Bool) × IsDemandedAt j entry u T D × HasInputs (λ s. D s ≡ true) (source_at j u) (version_in j entry u) inputs

-- ---- faults

-- the fault of a source, and of what is read, at a place of a block that begins at this entry
abbrev pub source_fault : JobView → ℕ → Option ℕ → Source → ℕ → Option EntryFault
source_fault j first u x p = fault_in (source_value {M = ⊥} (row_of j (first + p)) (site_in j (first + p) u) x)

abbrev pub inputs_fault : JobView → ℕ → Option ℕ → List ℕ → ℕ → Option EntryFault
inputs_fault j first u inputs p = fault_in (for_all (version_in {M = ⊥} j (first + p) u) inputs)

-- a part of a pass was tried at the places of a selection, with the fault of each place in it: the first that faults lowers the limit,
-- below which the places are left; what is held is right, and below the limit all that was begun is held
pub record IsServedTo (j : JobView) (first count : ℕ) (part : ℕ → Option EntryFault) (pass : ℕ) (sel : List ℕ) (to : KeptPlaces) (lanes : List LaneView) (old new : Found) : Type 0 where
  pub ready : AreReady j first count lanes
  pub settled : (p : ℕ) → p < new.limit → IsSettledAt lanes p
  pub lowers : Lowers (where_in part sel) first pass old new
  pub its_limit : to.limit ≡ Some new.limit
  pub left : to.places ≡ filter (λ p. nat_lt p new.limit) sel

-- The search for the first fault of a block: pass after pass over the places below a limit, which falls to each place that faults.
use Rattle.std.specs.Prelude.{◌≡◌, ◌<◌, ◌≤◌, ◌+◌, ℕ, List, Option, None, Some, if◌then◌else◌, Bool}
use Rattle.rdf_values.specs.{ActionKind, EntryFault, Fault, feed_fault, Value}
use Rattle.rdf_model.specs.{Faults, Gives, is_true, Needs, Outcome}
use Rattle.expr_lanes.specs.{is_in}
use Rattle.block_cache.specs.{PlaceFault}
use Rattle.block_passes.specs.declared.turn.Found.{Found}

-- the search with a fault of a pass at a place of a block that begins at this entry
abbrev pub fault_at : ℕ → ℕ → ℕ → EntryFault → Found
fault_at first pass place kind = record { limit = place; best = Some (record { entry = first + place; pass = pass; kind = kind }) }

-- the places below the limit were tried in a part of a pass, with the fault of each place in it: the first that faults is the new limit
-- and the best fault, and where none faults all is as it was
pub record Lowers (part : ℕ → Option EntryFault) (first pass : ℕ) (old new : Found) : Type 0 where
  pub falls : new.limit ≤ old.limit
  pub clear : (p : ℕ) → p < new.limit → part p ≡ None
  pub same : new.limit ≡ old.limit → new ≡ old
  pub found : new.limit < old.limit → (kind : EntryFault) × (part new.limit ≡ Some kind) × (new ≡ fault_at first pass new.limit kind)

-- the passes below a number were tried, with the fault of each place in each pass: below the limit none of them faults, and the best
-- fault is that of the first pass that faults at the limit; where there is none, the limit is behind all places
pub record IsSearched (fault : ℕ → ℕ → Option EntryFault) (first count passes : ℕ) (s : Found) : Type 0 where
  pub clear : (p n : ℕ) → p < s.limit → n < passes → fault p n ≡ None
  pub whole : s.best ≡ None → s.limit ≡ count
  pub within : s.limit ≤ count
  pub at_limit : (f : Fault) → s.best ≡ Some f
      → (f.entry ≡ first + s.limit) × (s.limit < count) × (f.pass < passes) × (fault s.limit f.pass ≡ Some f.kind) × ((n : ℕ) → n < f.pass → fault s.limit n ≡ None)

-- the search where a place of a block had this fault, if it is one
abbrev pub noted : ℕ → ℕ → Found → Option PlaceFault → Found
noted first pass s None = s
noted first pass s (Some f) = fault_at first pass f.place f.kind

-- the fault of a place, where it is selected
abbrev pub where_in : (ℕ → Option EntryFault) → List ℕ → ℕ → Option EntryFault
where_in f sel p = if is_in p sel then f p else None

-- ---- The parts of a pass by numbers.

-- a fault, where the filters are passed
abbrev pub where_passed : Outcome ⊥ Bool → Option EntryFault → Option EntryFault
where_passed o fault = if is_true o then fault else None

-- why values can't be fed, where all of them are there
abbrev pub feeding_fault : ActionKind → Outcome ⊥ (List Value) → Option EntryFault
feeding_fault k (Gives vs) = feed_fault k vs
feeding_fault k (Faults e) = None
feeding_fault k (Needs m) = elim m [ ]

-- What an entry and a cluster give to a snapshot.
use Rattle.std.specs.Prelude.{◌≡◌, ⊤, ◌≤◌, ℕ, List, [], ◌++◌, Option, Some, None, Result, Ok, Err, length, slice_range}
use Rattle.rdf_values.specs.{Span, Value}
use Rattle.rdf_model.specs.{Dataset, Faults, Gives, Outcome}
use Rattle.snapshot_plan.specs.{PlanView}
use Rattle.snapshot_text.specs.{entries_text, entry_text}
use Rattle.snapshot_rows.specs.{plan_path, row_outcome, snapshot_entries, snapshot_fault}
use Rattle.snapshot_entries.specs.Values.{AreKnown, row_in}
use Rattle.snapshot_entries.specs.Wanted.{IsWanted}
use Rattle.snapshot_entries.specs.declared.skim.Skim.{Skim}
use Rattle.snapshot_entries.specs.declared.stop.EntryStop.{EntryStop}
use Rattle.snapshot_entries.specs.declared.stop.SkimStop.{SkimStop}

-- the record of the cells was appended; or their fault; or memory was wanted
abbrev pub IsRowAnswer : Outcome ⊥ (List Value) → List ℕ → List ℕ → Result (Unit {0}) EntryStop → Type 0
IsRowAnswer o before after (Ok u) = (cells : List Value) × (o ≡ Gives cells) × (after ≡ before ++ entry_text cells)
IsRowAnswer o before after (Err (EntryStop.Fault kind)) = o ≡ Faults kind
IsRowAnswer o before after (Err EntryStop.Memory) = ⊤

-- the record of an entry that is kept
abbrev pub kept_text : Option (List Value) → List ℕ
kept_text None = []
kept_text (Some cells) = entry_text cells

-- what the plan's filters and columns come to in an entry
abbrev pub outcome_at : PlanView → Dataset → ℕ → Outcome ⊥ (Option (List Value))
outcome_at p d e = row_outcome d (plan_path p) p.columns p.under (row_in d.rows e)

-- the record of the entry was appended, where it passes; or its fault; or memory was wanted
abbrev pub IsEntryAnswer : PlanView → Dataset → ℕ → List ℕ → List ℕ → Result (Unit {0}) EntryStop → Type 0
IsEntryAnswer p d e before after (Ok u) = (kept : Option (List Value)) × (outcome_at p d e ≡ Gives kept) × (after ≡ before ++ kept_text kept)
IsEntryAnswer p d e before after (Err (EntryStop.Fault kind)) = outcome_at p d e ≡ Faults kind
IsEntryAnswer p d e before after (Err EntryStop.Memory) = ⊤

-- ---- clusters

-- a range of the table's entries
pub record IsRange (d : Dataset) (s : Span) : Type 0 where
  pub order : s.lo ≤ s.hi
  pub within : s.hi ≤ length d.rows

-- its rows
abbrev pub rows_of : Dataset → Span → List (List Value)
rows_of d s = slice_range d.rows s.lo s.hi

-- the records of a range's entries were appended; or its first fault; or memory was wanted
abbrev pub IsSkimAnswer : PlanView → Dataset → Span → List ℕ → List ℕ → Result (Unit {0}) SkimStop → Type 0
IsSkimAnswer p d s before after (Ok u) = (snapshot_fault p d s.lo (rows_of d s) ≡ None) × (after ≡ before ++ entries_text (snapshot_entries p d (rows_of d s)))
IsSkimAnswer p d s before after (Err (SkimStop.Fault entry kind)) = snapshot_fault p d s.lo (rows_of d s) ≡ Some (record { entry = entry; kind = kind })
IsSkimAnswer p d s before after (Err SkimStop.Memory) = ⊤

-- it reads what the plan wants, and what it knows is so
pub record IsSkimOf (p : PlanView) (d : Dataset) (s : Skim) : Type 0 where
  pub wanted : IsWanted p d s.wanted
  pub known : AreKnown p d s.cells.items

-- what stops a cluster, where that stops its entry
abbrev pub stop_from : ℕ → EntryStop → SkimStop
stop_from e (EntryStop.Fault kind) = SkimStop.Fault e kind
stop_from e EntryStop.Memory = SkimStop.Memory

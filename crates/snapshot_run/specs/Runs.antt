-- What the clusters of a snapshot are to give.
use Rattle.std.specs.Prelude.{◌≡◌, ⊤, ℕ, List, map, option_map, Some, None, Result, Ok, Err, slice_get}
use Rattle.rdf_values.specs.{cut, Fault, Function, Span}
use Rattle.rdf_model.specs.{Dataset}
use Rattle.columns.specs.Views.{ColumnsView, CutsView}
use Rattle.snapshot_plan.specs.{PlanView}
use Rattle.snapshot_text.specs.{entries_text}
use Rattle.snapshot_rows.specs.{SnapFault, snapshot_entries, snapshot_fault}
use Rattle.snapshot_entries.specs.{rows_of, SkimStop}
use Rattle.snapshot_pieces.specs.{IsPieceOf, TextPiece, SnapFacts}

-- the clusters
abbrev pub spans_of : CutsView → List Span
spans_of c = cut c.entries c.size c.marks

-- a snapshot's fault, as that of a loop of one pass
abbrev pub as_fault : SnapFault → Fault
as_fault f = record { entry = f.entry; pass = 0; kind = f.kind }

-- for each cluster its first fault, and the records of its entries
abbrev pub facts_of : PlanView → Dataset → List Span → SnapFacts
facts_of p d spans = record {
  faults = map (λ (s : Span). option_map as_fault (snapshot_fault p d s.lo (rows_of d s))) spans;
  texts = map (λ (s : Span). entries_text (snapshot_entries p d (rows_of d s))) spans;
}

-- a cluster without a fault has that piece; or the fault is the cluster's; or memory was wanted
abbrev pub IsMade : SnapFacts → ℕ → Result TextPiece SkimStop → Type 0
IsMade facts c (Ok piece) = (piece.cluster ≡ c) × IsPieceOf facts piece × (slice_get facts.faults c ≡ Some None)
IsMade facts c (Err (SkimStop.Fault entry kind)) = slice_get facts.faults c ≡ Some (Some (record { entry = entry; pass = 0; kind = kind }))
IsMade facts c (Err SkimStop.Memory) = ⊤

-- a table of columns, with functions
abbrev pub data_with : ColumnsView → List Function → Dataset
data_with c fns = record { fns = fns; columns = c.table.columns; rows = c.table.rows }

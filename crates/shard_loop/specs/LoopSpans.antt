-- What a loop comes to over a span of clusters.
use Rattle.std.specs.Prelude.{◌≡◌, ℕ, List, [], Option, Some, None, slice_get, unwrap_or}
use Rattle.rdf_values.specs.{cut, Fault, Function, history, Pass, Script, Span}
use Rattle.rdf_model.specs.{Dataset, loop_passes, loop_results}
use Rattle.columns.specs.Views.{ColumnsView}
use Rattle.loop_keys.specs.{facts_in, job_spans, JobView, passes_in}
use Rattle.loop_pieces.specs.{LoopPiece, StandsFor}
use Rattle.shard_spans.specs.{clusters_in, over_span, span_fault}
use Rattle.shard_loop.specs.declared.span_run.Spanned.{Spanned}
use Rattle.shard_loop.specs.declared.span_run.Spanned.TheVariants.{Whole, Faulted}

-- the first fault of the loop's passes in a span
abbrev pub loop_fault : JobView → ℕ → ℕ → Option Fault
loop_fault j lo hi = span_fault (job_spans j) j.dataset (passes_in j) lo hi

-- no pass faults in the span, and the piece is what its clusters come to
pub record IsSpanPiece (j : JobView) (lo hi : ℕ) (piece : LoopPiece) : Type 0 where
  pub sound : loop_fault j lo hi ≡ None
  pub stands : StandsFor (facts_in j) (clusters_in lo hi) piece

-- the piece of the span, or its first fault
abbrev pub IsSpanned : JobView → ℕ → ℕ → Spanned → Type 0
IsSpanned j lo hi (Whole piece) = IsSpanPiece j lo hi piece
IsSpanned j lo hi (Faulted fault) = loop_fault j lo hi ≡ Some fault

-- the table with the rows of the span's clusters alone
abbrev pub span_rows_of : JobView → ℕ → ℕ → Dataset
span_rows_of j lo hi = over_span (job_spans j) j.dataset lo hi

-- ---- of a graph's loops

-- the clusters of a table's columns
abbrev pub cuts_of : ColumnsView → List Span
cuts_of columns = cut columns.cuts.entries columns.cuts.size columns.cuts.marks

-- the functions, and the table of the columns
abbrev pub table_of : ColumnsView → List Function → Dataset
table_of columns fns = record { fns = fns; columns = columns.table.columns; rows = columns.table.rows }

-- the passes of the loop of that number
abbrev pub loop_in : Script → ℕ → List Pass
loop_in script number = loop_passes (history script) (unwrap_or (slice_get (loop_results (history script)) number) [])

-- What a run over a span of clusters finds.
use Rattle.std.specs.Prelude.{ℕ, ◌+◌, ◌-◌, List, [], ◌∷◌, length, map, flat_map, Option, slice_get}
use Rattle.rdf_values.specs.{ActionAt, below, Booking, Fault, Filled, history, Pass, ReportOn, Script, Span}
use Rattle.rdf_values.specs.results.Fold.{Cell}
use Rattle.rdf_values.specs.results.Fold as f
use Rattle.rdf_model.specs.{cutflow, Dataset, first_fault_from, loop_passes, loop_results, over_clusters, pass_result}
use Rattle.histograms.specs.{CellSum}
use Rattle.loop_pieces.specs.{begin_of, counts_of}
use Rattle.shard_lines.specs.{ShardLine}
use Rattle.shard_files.specs.{fault_or_lines, ShardLoop, ShardView, up_to_fault}

-- ---- the rows of a span

-- so many clusters from lo on
abbrev pub clusters_from : ℕ → ℕ → List ℕ
clusters_from lo n = map (λ c. lo + c) (below n)

-- the clusters from lo to below hi
abbrev pub clusters_in : ℕ → ℕ → List ℕ
clusters_in lo hi = clusters_from lo (hi - lo)

-- the table with the rows of a span's clusters alone
abbrev pub over_span : List Span → Dataset → ℕ → ℕ → Dataset
over_span spans d lo hi = over_clusters spans d (clusters_in lo hi)

-- the first fault of the passes in a span, by the entry's number in the table
abbrev pub span_fault : List Span → Dataset → List Pass → ℕ → ℕ → Option Fault
span_fault spans d ps lo hi = first_fault_from d (begin_of (slice_get spans lo)) (over_span spans d lo hi).rows ps

-- ---- lines

abbrev pub cell_sum : Cell → CellSum
cell_sum c = record { sum = c.sum; squares = c.squares }

-- the line of a result: the cells of a plane row by row
abbrev pub filled_line : Filled → ShardLine
filled_line (f.Count n) = ShardLine.Count n
filled_line (f.Sum z) = ShardLine.Sum z
filled_line (f.Extreme z) = ShardLine.Extreme z
filled_line (f.Taken xs) = ShardLine.Take xs
filled_line (f.Reduced z) = ShardLine.Number z
filled_line (f.Flat cells) = ShardLine.Cells (map cell_sum cells)
filled_line (f.Square rows) = ShardLine.Cells (flat_map (λ cells. map cell_sum cells) rows)

-- the line of what was booked, over a table
abbrev pub booking_line : Dataset → Booking → Pass → ShardLine
booking_line d (ActionAt k at) p = filled_line (pass_result d k at p.under)
booking_line d (ReportOn filters) p = ShardLine.Report (map (λ filter. counts_of (cutflow d filter)) filters)

-- the line of a pass over a table
abbrev pub pass_line : Dataset → Pass → ShardLine
pass_line d p = booking_line d p.result.booking p

-- ---- loops

-- a loop over a span: its first fault, or the lines of its passes
abbrev pub span_loop : List Span → Dataset → ℕ → ℕ → List Pass → ShardLoop
span_loop spans d lo hi ps = fault_or_lines (span_fault spans d ps lo hi) (map (pass_line (over_span spans d lo hi)) ps)

-- the loops in order, up to the first one with a fault
abbrev pub span_loops : List Span → Dataset → ℕ → ℕ → List (List Pass) → List ShardLoop
span_loops spans d lo hi [] = []
span_loops spans d lo hi (ps ∷ loops) = up_to_fault (span_loop spans d lo hi ps) (span_loops spans d lo hi loops)

-- the passes of each loop of a script
abbrev pub loops_of : Script → List (List Pass)
loops_of script = map (loop_passes (history script)) (loop_results (history script))

-- what a run of a script over a span finds
abbrev pub span_shard : Script → Dataset → List Span → ℕ → ℕ → ShardView
span_shard script d spans lo hi =
    record { entries = length d.rows; clusters = length spans; columns = d.columns; lo = lo; hi = hi; loops = span_loops spans d lo hi (loops_of script) }

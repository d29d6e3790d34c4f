-- What is printed of a filled result.
use Rattle.std.specs.Prelude.{◌≡◌, ◌<◌, ◌+◌, ◌++◌, ◌≤◌, ◌^◌, ℕ, ℤ, Bool, if◌then◌else◌, codes, decimal, flat_map, List, [], ◌∷◌, Option, Some, None, length, map, option_map, slice_get, unwrap_or, ◌-◌, All}
use Rattle.std.specs.Fmt.{signed_decimal}
use Rattle.rdf_values.specs.{ActionAt, ActionKind, Booking, Extreme, Filled, Flat, line, Pass, passes_of, Reduced, ReportOn, Scalar, Square, Taken, Under, Variation, Span}
use Rattle.rdf_values.specs.results.Fold.{Count, Sum, Cell}
use Rattle.rdf_model.specs.{cell_line, cell_lines, cell_names, filled_lines, FilterCounts, flow_lines, label, loop_passes, loop_results, option_text, plane_lines, scalar_text, taken_text, x_edges_of, y_edges_of, Run, run_text, value_text}
use Rattle.actions.specs.{Accumulator}
use Rattle.loop_pieces.specs.{Counts, FilledResult, PartialLine, watch_filled}
use Rattle.graph_numbers.specs.{booked_statements, FilterAt, graph_filters, GraphView, ResultAt}
use Rattle.std.specs.List.{join_with_byte}

-- the passes of a loop
abbrev pub passes_at : GraphView → ℕ → List Pass
passes_at g l = loop_passes (booked_statements g) (unwrap_or (slice_get (loop_results (booked_statements g)) l) [])

-- nominal, or the variation of that number
abbrev pub under_in : List Variation → Option ℕ → Under
under_in variations None = None
under_in variations (Some v) = slice_get variations v

-- what follows the label and the equals sign of a filled result
abbrev pub value_lines : ActionKind → Filled → List ℕ
value_lines k (Count n) = line (decimal n)
value_lines k (Sum z) = line (signed_decimal z)
value_lines k (Extreme z) = line (option_text z)
value_lines k (Taken xs) = line (taken_text xs)
value_lines k (Reduced z) = line (signed_decimal z)
value_lines k (Flat cells) = line (codes "histo1d " ++ decimal (length (x_edges_of k) + 1)) ++ cell_lines (cell_names (x_edges_of k)) cells
value_lines k (Square cells) =
    line (codes "histo2d " ++ decimal (length (x_edges_of k) + 1) ++ codes " " ++ decimal (length (y_edges_of k) + 1))
    ++ plane_lines (cell_names (x_edges_of k)) (cell_names (y_edges_of k)) cells

-- the name of the cell of that place, where there is one
abbrev pub name_at : List ℤ → ℕ → Option (List ℕ)
name_at edges i = slice_get (cell_names edges) i

-- the line of a cell at a place, where the axis has it
abbrev pub line_at : List ℕ → List ℤ → ℕ → Cell → List ℕ
line_at before edges i c = elim (name_at edges i) [ None ↦ [] | Some name ↦ cell_line (before ++ name) c ]

-- the name of the cell between two edges
abbrev pub bin_name : ℤ → ℤ → List ℕ
bin_name lo hi = codes "[" ++ signed_decimal lo ++ codes "," ++ signed_decimal hi ++ codes ")"

-- a text with a name behind it, where there is one
abbrev pub behind : List ℕ → Option (List ℕ) → Option (List ℕ)
behind text name = option_map (λ n. text ++ n) name

-- the lines of cells that begin at a place of the axis, with a text before each name
abbrev pub lines_on : List ℕ → List ℤ → ℕ → List Cell → List ℕ
lines_on before edges i [] = []
lines_on before edges i (c ∷ cs) = line_at before edges i c ++ lines_on before edges (i + 1) cs

-- the lines of a row of cells, where the first axis has its place
abbrev pub plane_at : List ℤ → List ℤ → ℕ → List Cell → List ℕ
plane_at xs ys i row = elim (name_at xs i) [ None ↦ [] | Some name ↦ lines_on (name ++ codes " ") ys 0 row ]

-- the lines of the rows of cells that begin at a place of the first axis
abbrev pub planes_on : List ℤ → List ℤ → ℕ → List (List Cell) → List ℕ
planes_on xs ys i [] = []
planes_on xs ys i (row ∷ rows) = plane_at xs ys i row ++ planes_on xs ys (i + 1) rows

-- values, each behind a space
abbrev pub more_taken : List Scalar → List ℕ
more_taken xs = flat_map (λ x. 32 ∷ scalar_text x) xs

-- the lines of an accumulator, where there is one
abbrev pub acc_lines : ActionKind → List ℕ → Option Accumulator → List ℕ
acc_lines k l None = []
acc_lines k l (Some acc) = filled_lines k l acc.filled

-- the lines of passes, of which the first has the accumulator n
abbrev pub lines_from : ActionKind → List Accumulator → ℕ → List Pass → List ℕ
lines_from k accs n [] = []
lines_from k accs n (p ∷ ps) = acc_lines k (label p.result.name p.under) (slice_get accs n) ++ lines_from k accs (n + 1) ps

-- the lines of passes under these variations, of which the first has the accumulator n
abbrev pub under_lines : List ℕ → ActionKind → List Accumulator → ℕ → List Variation → List ℕ
under_lines name k accs n [] = []
under_lines name k accs n (v ∷ vs) = acc_lines k (label name (Some v)) (slice_get accs n) ++ under_lines name k accs (n + 1) vs

-- those of the variations, numbered from n on, whose numbers pass the test
abbrev pub members_from : (ℕ → Bool) → ℕ → List Variation → List Variation
members_from test n [] = []
members_from test n (v ∷ vs) = if test n then v ∷ members_from test (n + 1) vs else members_from test (n + 1) vs

-- the counts as the definitions see them
abbrev pub counts_seen : Counts → FilterCounts
counts_seen c = record { all = c.all; pass = c.pass }

-- the label of the filter of that number, and its counts
abbrev pub flow_at : GraphView → List Counts → ℕ → List ℕ × FilterCounts
flow_at g flow f = (unwrap_or (option_map (λ (x : FilterAt). x.label) (slice_get (graph_filters g) f)) [], counts_seen (unwrap_or (slice_get flow f) (record { all = 0; pass = 0 })))

-- the lines of a result with what its loop gave it
abbrev pub booking_text : GraphView → ResultAt → FilledResult → Booking → List ℕ
booking_text g r filled (ActionAt k at) = lines_from k filled.piece.now.accs.items filled.first (passes_of (booked_statements g) r.booked)
booking_text g r filled (ReportOn filters) = flow_lines r.booked.name (map (flow_at g filled.piece.now.flow) r.covers)

abbrev pub filled_text : GraphView → ResultAt → FilledResult → List ℕ
filled_text g r filled = booking_text g r filled r.booked.booking

-- an action has an accumulator of its kind for each pass, and a report counts of all named filters
abbrev pub FitsBooking : GraphView → ResultAt → FilledResult → Booking → Type 0
FitsBooking g r filled (ActionAt k at) =
    (filled.passes ≡ length (passes_of (booked_statements g) r.booked))
    × (filled.first + filled.passes ≤ 2 ^ 32)
    × ((i : ℕ) → i < filled.passes → slice_get (map (λ (acc : Accumulator). acc.kind) filled.piece.now.accs.items) (filled.first + i) ≡ Some k)
FitsBooking g r filled (ReportOn filters) = length filled.piece.now.flow ≡ length (graph_filters g)

abbrev pub FitsResult : GraphView → ResultAt → FilledResult → Type 0
FitsResult g r filled = FitsBooking g r filled r.booked.booking

-- ---- what is printed of partial results

-- the numbers of a span, as a run
abbrev pub run_of : Span → Run
run_of s = record { first = s.lo; last = s.hi - 1 }

-- each has a number
abbrev pub AreRuns : List Span → Type 0
AreRuns runs = All (λ (s : Span). s.lo < s.hi) runs

-- the text of the set of these runs
abbrev pub runs_text : List Span → List ℕ
runs_text runs = join_with_byte 44 (map run_text (map run_of runs))

-- the texts of these runs, each behind a comma
abbrev pub more_runs : List Span → List ℕ
more_runs runs = flat_map (λ (s : Span). 44 ∷ run_text (run_of s)) runs

-- the line of one partial result
abbrev pub watch_line : List ℕ → PartialLine → List ℕ
watch_line name l = line (codes "partial " ++ name ++ codes " over " ++ runs_text l.runs ++ codes " = " ++ value_text (watch_filled l.value))

-- the lines of several
abbrev pub watch_lines : List ℕ → List PartialLine → List ℕ
watch_lines name lines = flat_map (watch_line name) lines

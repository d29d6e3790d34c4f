-- What merged loops print.
use Rattle.std.specs.Prelude.{◌≡◌, ◌≤◌, ◌<◌, ℕ, zero, suc, List, [], ◌∷◌, ◌++◌, length, map, take, drop, Option, Some, None, if◌then◌else◌, slice_get}
use Rattle.rdf_values.specs.{ActionAt, ActionKind, Booking, Fault, Filled, Pass, Path, ReportOn, same, Under}
use Rattle.rdf_values.specs.results.Fold.{Cell}
use Rattle.rdf_values.specs.results.Fold as f
use Rattle.rdf_model.specs.{Access, accesses, fault_line, filled_lines, filter_label, FilterCounts, flow_lines, in_front_of, label, loop_of, Printed}
use Rattle.loop_pieces.specs.{Counts}
use Rattle.graph_numbers.specs.{booked_statements, graph_loops, GraphView}
use Rattle.histograms.specs.{cell_seen}
use Rattle.result_text.specs.{counts_seen, passes_at}
use Rattle.shard_lines.specs.{counts_of, ShardLine}
use Rattle.shard_files.specs.{ShardLoop}
use Rattle.shard_files.specs.declared.shard_loop.ShardLoop.TheVariants.{Whole, Faulted}

-- ---- results

-- so many rows of so many cells
abbrev pub rows_of : ℕ → ℕ → List Cell → List (List Cell)
rows_of width zero cells = []
rows_of width (suc n) cells = take width cells ∷ rows_of width n (drop width cells)

-- the cells of a histogram of one axis, or of two
abbrev pub cells_filled : ActionKind → List Cell → Filled
cells_filled (ActionKind.Histo2D xs ys x y w) cells = f.Square (rows_of (suc (length ys)) (suc (length xs)) cells)
cells_filled k cells = f.Flat cells

-- the result that a line of an action says; a line of counts says none
abbrev pub line_filled : ActionKind → ShardLine → Filled
line_filled k (ShardLine.Count n) = f.Count n
line_filled k (ShardLine.Sum z) = f.Sum z
line_filled k (ShardLine.Number z) = f.Reduced z
line_filled k (ShardLine.Extreme z) = f.Extreme z
line_filled k (ShardLine.Take xs) = f.Taken xs
line_filled k (ShardLine.Cells cells) = cells_filled k (map cell_seen cells)
line_filled k (ShardLine.Report counts) = f.Taken []

-- the labels of filters, each with its counts
abbrev pub with_labels : List Path → List Counts → List (List ℕ × FilterCounts)
with_labels [] cs = []
with_labels (p ∷ ps) [] = []
with_labels (p ∷ ps) (c ∷ cs) = (filter_label p, counts_seen c) ∷ with_labels ps cs

-- the printed lines of what was booked, by its line
abbrev pub booking_text : List ℕ → Under → Booking → ShardLine → List ℕ
booking_text name u (ActionAt k at) l = filled_lines k (label name u) (line_filled k l)
booking_text name u (ReportOn filters) l = flow_lines name (with_labels filters (counts_of l))

-- those of a pass
abbrev pub pass_text : Pass → ShardLine → List ℕ
pass_text p l = booking_text p.result.name p.under p.result.booking l

-- those of a pass, where it is of the result of that name
abbrev pub named_text : List ℕ → Pass → ShardLine → List ℕ
named_text name p l = if same p.result.name name then pass_text p l else []

-- those of all passes of the result of that name, each by its line
abbrev pub lines_of_result : List ℕ → List Pass → List ShardLine → List ℕ
lines_of_result name [] ls = []
lines_of_result name (p ∷ ps) [] = []
lines_of_result name (p ∷ ps) (l ∷ ls) = named_text name p l ++ lines_of_result name ps ls

-- ---- the Prints in order

-- what a loop with these passes gives to a Print, before what else is printed: a faulty loop ends the output with its line
abbrev pub loop_printed : List Pass → List ℕ → Option ShardLoop → Printed → Printed
loop_printed ps name None rest = rest
loop_printed ps name (Some (Faulted fault)) rest = record { bytes = fault_line ps fault; status = 8 }
loop_printed ps name (Some (Whole ls)) rest = in_front_of (lines_of_result name ps ls) rest

-- of a graph
module _ (g : GraphView) (loops : List ShardLoop) where
  -- what the loop that fills the result of a Print gives
  abbrev pub access_printed : Access → Printed → Printed
  access_printed a rest =
      let l = loop_of (booked_statements g) a.result in
      loop_printed (passes_at g l) a.result (slice_get loops l) rest

  -- the Prints in order
  abbrev pub prints_text : List Access → Printed
  prints_text [] = record { bytes = []; status = 0 }
  prints_text (a ∷ rest) = access_printed a (prints_text rest)

  -- the output of merged loops, and its status
  abbrev pub merged_text : Printed
  merged_text = prints_text (accesses (booked_statements g))

-- there are no more loops than the graph has, and a fault is of one of its loop's passes
pub record FitGraph (g : GraphView) (loops : List ShardLoop) : Type 0 where
  pub many : length loops ≤ length (graph_loops g)
  pub faults : (l : ℕ) (fault : Fault) → slice_get loops l ≡ Some (Faulted fault) → fault.pass < length (passes_at g l)

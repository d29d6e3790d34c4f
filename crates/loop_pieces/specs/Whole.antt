-- What a piece gives, against separate passes over the rows of its clusters.
use Rattle.std.specs.Prelude.{◌≡◌, ℕ, List, ◌∷◌, ◌++◌, Option, None, Some, length, map, slice_get}
use Rattle.rdf_values.specs.{ActionKind, AreInEntryOrder, below, Fault, first_in, Lead, Pass, Path, ReportOn, Span, Statement, Under}
use Rattle.rdf_model.specs.{action_pass, cutflow, Dataset, FilterCounts, first_fault, first_fault_from, kinds_in, loop_facts, over_clusters, partial_result, pass_result, span_rows}
use Rattle.loop_pieces.specs.declared.flow.Counts.{Counts}
use Rattle.actions.specs.{Accumulator}
use Rattle.loop_pieces.specs.LoopPieces.{StandsFor}
use Rattle.loop_pieces.specs.Trails.{watch_facts, WatchStandsFor, watch_filled}
use Rattle.loop_pieces.specs.declared.loop_piece.LoopPiece.{LoopPiece}
use Rattle.loop_pieces.specs.declared.watch_piece.WatchPiece.{WatchPiece}

-- ---- faults

-- the entry at which a cluster begins
abbrev pub begin_of : Option Span → ℕ
begin_of None = 0
begin_of (Some s) = s.lo

-- the first fault of the passes in the rows of a cluster
abbrev pub cluster_fault : Dataset → List Span → List Pass → ℕ → Option Fault
cluster_fault d spans ps c = first_fault_from d (begin_of (slice_get spans c)) (span_rows d.rows (slice_get spans c)) ps

-- for each cluster its first fault, or none
abbrev pub cluster_faults : Dataset → List Span → List Pass → List (Option Fault)
cluster_faults d spans ps = map (cluster_fault d spans ps) (below (length spans))

-- the first cluster with a fault has the first fault of the whole table, where the clusters lead through it
abbrev pub FirstClusterHasFirstFault : Type 0
FirstClusterHasFirstFault = (d : Dataset) (spans : List Span) (ps : List Pass) → Lead 0 (length d.rows) spans → first_in (cluster_faults d spans ps) ≡ first_fault d ps

-- and a fault of a lower cluster has a lower entry
abbrev pub LowerClustersFaultFirst : Type 0
LowerClustersFaultFirst = (d : Dataset) (spans : List Span) (ps : List Pass) → Lead 0 (length d.rows) spans → AreInEntryOrder (cluster_faults d spans ps)

-- ---- results

-- clusters that lead through a table have all its rows, in file order
abbrev pub AllClustersAreTheTable : Type 0
AllClustersAreTheTable = (d : Dataset) (spans : List Span) → Lead 0 (length d.rows) spans → over_clusters spans d (below (length spans)) ≡ d

-- each accumulator holds the result of its pass by itself, over the rows of the piece's clusters
abbrev pub PieceHoldsResults : Type 0
PieceHoldsResults =
    (d : Dataset) (filters : List Path) (spans : List Span) (set : List ℕ) (before after : List Pass) (name : List ℕ) (k : ActionKind) (at : Path) (u : Under)
    (piece : LoopPiece) (acc : Accumulator)
    → StandsFor (loop_facts d filters spans (before ++ action_pass name k at u ∷ after)) set piece
    → slice_get piece.accs.items (length (kinds_in before)) ≡ Some acc
    → (acc.kind ≡ k) × (acc.filled ≡ pass_result (over_clusters spans d set) k at u)

-- what the counts of a filter are
abbrev pub counts_of : FilterCounts → Counts
counts_of c = record { all = c.all; pass = c.pass }

-- where no pass faults in these rows, the counts are those of each filter that a report of the loop covers, by itself
abbrev pub PieceHoldsCounts : Type 0
PieceHoldsCounts =
    (d : Dataset) (before after : List Path) (s : Statement) (up : Path) (spans : List Span) (set : List ℕ) (ps : List Pass) (n i : ℕ) (p : Pass) (filters : List Path)
    (piece : LoopPiece)
    → slice_get ps n ≡ Some p → p.result.booking ≡ ReportOn filters → slice_get filters i ≡ Some (s ∷ up)
    → first_fault (over_clusters spans d set) ps ≡ None
    → StandsFor (loop_facts d (before ++ (s ∷ up) ∷ after) spans ps) set piece
    → slice_get piece.flow (length before) ≡ Some (counts_of (cutflow (over_clusters spans d set) (s ∷ up)))

-- the piece of a watched result is its partial result over its clusters
abbrev pub WatchPieceIsPartialResult : Type 0
WatchPieceIsPartialResult =
    (d : Dataset) (filters : List Path) (spans : List Span) (set : List ℕ) (before after : List Pass) (name : List ℕ) (k : ActionKind) (at : Path) (piece : WatchPiece)
    → WatchStandsFor (watch_facts (loop_facts d filters spans (before ++ action_pass name k at None ∷ after)) (length (kinds_in before))) set piece
    → watch_filled piece ≡ partial_result spans d set k at

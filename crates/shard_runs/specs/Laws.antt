-- Laws of runs over spans. Each is the contract of a function of this crate, and so proved.
use Rattle.std.specs.Prelude.{◌≡◌, ◌≤◌, ◌<◌, ⊤, ℕ, true, All, List, [], ◌∷◌, None, Ok, length, map}
use Rattle.std.specs.List.{list_all}
use Rattle.rdf_values.specs.{AnswerIn64Bits, Column, FitRows, fn_names, history, is_name, IsHeader, Lead, Script, Span, StatementsHaveWords, verdict}
use Rattle.rdf_model.specs.{Dataset}
use Rattle.shard_lines.specs.{PassShape}
use Rattle.shard_files.specs.{are_loops, BreaksAt, first_uncovered, IsShard, IsShardText, merge_of, MergeCause, shard_text, shards_joined, ShardView, unless_at}
use Rattle.shard_spans.specs.{loops_of, pass_shapes, span_loops, span_shard}
use Rattle.shard_runs.specs.Kinds.{pass_kind}

-- what the checks before a run give of a script and its table
pub record IsChecked (script : Script) (d : Dataset) : Type 0 where
  pub accepted : verdict (fn_names d.fns) d.columns script ≡ None
  pub words : StatementsHaveWords (history script)
  pub answers : AnswerIn64Bits d.fns
  pub header : IsHeader d.columns
  pub named : list_all (λ (c : Column). is_name c.name) d.columns ≡ true
  pub fit : FitRows d.columns d.rows
  pub few : length d.rows ≤ 1000000

-- what a run over a span of clusters finds is a shard
abbrev pub RunsAreShards : Type 0
RunsAreShards =
    (script : Script) (d : Dataset) (spans : List Span) (lo hi : ℕ)
    → IsChecked script d → Lead 0 (length d.rows) spans → lo ≤ hi → hi ≤ length spans → IsShard (span_shard script d spans lo hi)

-- ---- texts

-- its text is read as what it found, and no line of it is refused
abbrev pub WrittenRunsReadBack : Type 0
WrittenRunsReadBack =
    (script : Script) (d : Dataset) (spans : List Span) (lo hi : ℕ)
    → IsChecked script d → Lead 0 (length d.rows) spans → lo ≤ hi → hi ≤ length spans
    → (let shard : ShardView = span_shard script d spans lo hi in
    ((s : ShardView) → IsShardText (shard_text shard) s → s ≡ shard) × ((number : ℕ) → BreaksAt (shard_text shard) number → ⊥))

-- ---- shapes

-- the shapes of a script's passes, loop by loop, a Take by the kind of its column
abbrev pub script_shapes : Script → Dataset → List (List PassShape)
script_shapes script d = map (pass_shapes (pass_kind d)) (loops_of script)

-- the loops of a run have these shapes
abbrev pub RunsHaveShapes : Type 0
RunsHaveShapes =
    (script : Script) (d : Dataset) (spans : List Span) (lo hi : ℕ)
    → IsChecked script d → are_loops (script_shapes script d) (span_loops spans d lo hi (loops_of script)) ≡ true

-- ---- merging

-- what runs over these spans of clusters find
abbrev pub runs_over : Script → Dataset → List Span → List Span → List ShardView
runs_over script d spans parts = map (λ (s : Span). span_shard script d spans s.lo s.hi) parts

-- runs over spans of one cutting are merged unless a cluster isn't covered once: none is refused for its head or its loops
abbrev pub OnlyCoverIsRefused : Type 0
OnlyCoverIsRefused =
    (script : Script) (d : Dataset) (spans parts : List Span)
    → IsChecked script d → 0 < length parts
    → (let shards : List ShardView = runs_over script d spans parts in
    merge_of (script_shapes script d) shards ≡ unless_at (first_uncovered (length spans) shards) MergeCause.Cover (Ok (shards_joined (script_shapes script d) shards)))

-- where each cluster is covered once they are merged, in whatever order they are named, to one run over all clusters
abbrev pub RunsMergeToOneRun : Type 0
RunsMergeToOneRun =
    (script : Script) (d : Dataset) (spans parts : List Span)
    → IsChecked script d → Lead 0 (length d.rows) spans → 0 < length parts → All (λ (s : Span). (s.lo ≤ s.hi) × (s.hi ≤ length spans)) parts
    → first_uncovered (length spans) (runs_over script d spans parts) ≡ None
    → merge_of (script_shapes script d) (runs_over script d spans parts) ≡ Ok (span_loops spans d 0 (length spans) (loops_of script))

-- these are read of the texts of runs over these spans
abbrev pub AreReadOf : Script → Dataset → List Span → List Span → List ShardView → Type 0
AreReadOf script d spans [] [] = ⊤
AreReadOf script d spans [] (s ∷ read) = ⊥
AreReadOf script d spans (p ∷ parts) [] = ⊥
AreReadOf script d spans (p ∷ parts) (s ∷ read) = IsShardText (shard_text (span_shard script d spans p.lo p.hi)) s × AreReadOf script d spans parts read

-- so the texts of such runs, read back, are merged to one run over all clusters
abbrev pub WrittenRunsMergeToOneRun : Type 0
WrittenRunsMergeToOneRun =
    (script : Script) (d : Dataset) (spans parts : List Span) (read : List ShardView)
    → IsChecked script d → Lead 0 (length d.rows) spans → 0 < length parts → All (λ (s : Span). (s.lo ≤ s.hi) × (s.hi ≤ length spans)) parts
    → AreReadOf script d spans parts read → first_uncovered (length spans) read ≡ None
    → merge_of (script_shapes script d) read ≡ Ok (span_loops spans d 0 (length spans) (loops_of script))

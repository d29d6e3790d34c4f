-- Laws of shards and transcripts. Each is the contract of a function of this crate, and so proved.
use Rattle.std.specs.Prelude.{◌≡◌, ◌≤◌, ◌<◌, ℕ, List, [], All, None, false, length, map}
use Rattle.rdf_values.specs.{ColType, history, is_watched, Lead, Pass, Script, Span}
use Rattle.rdf_model.specs.{Course, Dataset, transcript}
use Rattle.graph_numbers.specs.{graph_of, IsGraph}
use Rattle.shard_files.specs.{first_uncovered, shards_joined, ShardView}
use Rattle.shard_spans.specs.{loops_of, pass_shapes, span_loops, span_shard}
use Rattle.merged_text.specs.{merged_text}

-- the script asks for no partial results
abbrev pub IsUnwatched : Script → Type 0
IsUnwatched script = (name : List ℕ) → is_watched (history script) name ≡ false

-- the loops of a run over all clusters of an accepted script print its transcript
abbrev pub MergedRunPrintsTheTranscript : Type 0
MergedRunPrintsTheTranscript =
    (script : Script) (d : Dataset) (spans : List Span) (course : Course)
    → IsGraph (graph_of script d) → IsUnwatched script → Lead 0 (length d.rows) spans
    → merged_text (graph_of script d) (span_loops spans d 0 (length spans) (loops_of script)) ≡ transcript script d course

-- whatever partial results the script asks for, they print its transcript in a course in which no loop noted a set of clusters
abbrev pub MergedRunPrintsNoPartials : Type 0
MergedRunPrintsNoPartials =
    (script : Script) (d : Dataset) (spans : List Span) (course : Course)
    → IsGraph (graph_of script d) → ((l : ℕ) → course.chains l ≡ []) → Lead 0 (length d.rows) spans
    → merged_text (graph_of script d) (span_loops spans d 0 (length spans) (loops_of script)) ≡ transcript script d course

-- the joined loops of shards over spans of one cutting that hold each cluster once, in whatever order they are named, print the
-- transcript of a script that asks for no partial results
abbrev pub ShardsMergeToTheTranscript : Type 0
ShardsMergeToTheTranscript =
    (script : Script) (d : Dataset) (spans parts : List Span) (course : Course) (column : Pass → ColType)
    → IsGraph (graph_of script d) → IsUnwatched script → Lead 0 (length d.rows) spans
    → 0 < length parts → All (λ (s : Span). (s.lo ≤ s.hi) × (s.hi ≤ length spans)) parts
    → (let shards : List ShardView = map (λ (s : Span). span_shard script d spans s.lo s.hi) parts in
    first_uncovered (length spans) shards ≡ None
    → merged_text (graph_of script d) (shards_joined (map (pass_shapes column) (loops_of script)) shards) ≡ transcript script d course)

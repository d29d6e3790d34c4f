-- What is due to the words, the files and the caller's functions: a status and the bytes that are written with it.
use Rattle.std.specs.Prelude.{◌≡◌, ◌⊎◌, ◌+◌, ℕ, Bool, ◌&&◌, List, [], ◌∷◌, ◌++◌, length, Option, nat_le, nat_lt, MatchOption, MatchResult, unwrap_or, slice_get}
use Rattle.std.specs.Bool.{MatchBool}
use Rattle.rdf_values.specs.{Column, cut, fn_names, Function, graph_cause_line, MarkedTable, Script, Span, verdict}
use Rattle.rdf_model.specs.{Dataset}
use Rattle.graph_numbers.specs.{GraphView}
use Rattle.input_files.specs.{due_of, WithFile, WithScriptFile, WithTableFile}
use Rattle.input_files.specs.Due.{Due}
use Rattle.shard_files.specs.{BreaksAt, first_other, IsShardText, MergeCause, shard_text, ShardLoop, ShardView}
use Rattle.shard_files.specs.Merging as merging
use Rattle.shard_spans.specs.{span_shard}
use Rattle.merged_text.specs.{merged_text}
use Rattle.graph_shapes.specs.{graph_shapes}
use Rattle.shard_words.specs.{asked_of, Merging, ShardCommand, SpanRun}
use Rattle.shard_due.specs.Lines.{differs_line, file_refused_line, long_files_line, span_line, uncovered_line, usage_line}
use Rattle.shard_due.specs.Statuses.{printed_status, statuses}
use Rattle.shard_words.specs.declared.command.ShardCommand.TheVariants.{Run, Merge}
use Rattle.shard_due.specs.declared.status.ShardStatus.{ShardStatus}
use Rattle.shard_due.specs.declared.status.ShardStatus.TheVariants.{Done, Words, ScriptRefused, BadSpan, FileRefused, FilesDiffer, NotCovered, TooLong}

abbrev pub ShardDue : Type 0
ShardDue = Due ShardStatus

-- the shelf's files by their names
abbrev pub Files : Type 0
Files = List ℕ → Option (List ℕ)

-- the most bytes of a file, and of all files that are merged
abbrev pub max_files : ℕ
max_files = 134217728

-- the text of a file that isn't too long
abbrev pub IsFile : List ℕ → ShardDue → Type 0
IsFile text due = MatchBool (nat_lt max_files (length text)) (due ≡ due_of TooLong long_files_line) (due ≡ due_of Done text)

-- ---- files, read one after the other

-- the bytes are refused at a line, or are the text of a shard
abbrev pub ReadsShard : List ℕ → List ℕ → (ShardView → ShardDue → Type 0) → ShardDue → Type 0
ReadsShard name bytes Next due =
    ((n : ℕ) × BreaksAt bytes n × (due ≡ due_of FileRefused (file_refused_line name n))) ⊎ ((s : ShardView) × IsShardText bytes s × Next s due)

-- a file, where so many bytes were read before
abbrev pub WithShard : List ℕ → ℕ → List ℕ → (ShardView → ShardDue → Type 0) → ShardDue → Type 0
WithShard name before bytes Next due = MatchBool (nat_lt max_files (before + length bytes)) (due ≡ due_of TooLong long_files_line) (ReadsShard name bytes Next due)

-- the files in order, where so many bytes were read before, and these shards
abbrev pub WithShards : Files → ℕ → List ShardView → List (List ℕ) → (List ShardView → ShardDue → Type 0) → ShardDue → Type 0
WithShards files before found [] Next due = Next found due
WithShards files before found (name ∷ names) Next due =
    WithFile statuses name (files name) (λ bytes d. WithShard name before bytes (λ s e. WithShards files (before + length bytes) (found ++ s ∷ []) names Next e) d) due

-- ---- merging

abbrev pub name_at : List (List ℕ) → ℕ → List ℕ
name_at names i = unwrap_or (slice_get names i) []

-- files that aren't merged are due their line
abbrev pub cause_due : List (List ℕ) → MergeCause → ShardDue
cause_due names (MergeCause.Head file) = due_of FilesDiffer (differs_line (name_at names file))
cause_due names (MergeCause.Shape file) = due_of FilesDiffer (differs_line (name_at names file))
cause_due names (MergeCause.Cover cluster) = due_of NotCovered (uncovered_line cluster)

-- the lines of merged loops
abbrev pub IsPrinted : GraphView → List ShardLoop → ShardDue → Type 0
IsPrinted g loops due = due ≡ due_of (printed_status (merged_text g loops).status) (merged_text g loops).bytes

-- the files' loops together, by a booked script, or the first cause that they aren't merged for
abbrev pub IsMerged : GraphView → List (List ℕ) → List ShardView → ShardDue → Type 0
IsMerged g names shards due =
    MatchResult (merging.merge_of (graph_shapes g) shards) (λ loops. IsPrinted g loops due) (λ why. due ≡ cause_due names why)

-- the span is one of so many clusters
abbrev pub is_span : ℕ → Span → Bool
is_span clusters s = nat_le s.lo s.hi && nat_le s.hi clusters

-- ---- with the caller's functions
module _ (fns : List Function) where
  -- a script that is accepted over these columns; neither a file nor merged lines say anything of watched results
  abbrev pub WithAccepted : Script → List Column → (ShardDue → Type 0) → ShardDue → Type 0
  WithAccepted script columns Next due =
      MatchOption (verdict (fn_names fns) columns script) (Next due) (λ refused. due ≡ due_of ScriptRefused (graph_cause_line refused.0 refused.1))

  abbrev pub dataset_of : MarkedTable → Dataset
  dataset_of t = record { fns = fns; columns = t.table.columns; rows = t.table.rows }

  -- the clusters of a table, the most entries of one being given
  abbrev pub clusters_of : MarkedTable → ℕ → List Span
  clusters_of t size = cut (length t.table.rows) size t.marks

  -- a span that isn't one of the table's clusters is refused, and any other is due its file
  abbrev pub IsSpanDue : Script → ℕ → Span → MarkedTable → ShardDue → Type 0
  IsSpanDue script size clusters t due =
      MatchBool (is_span (length (clusters_of t size)) clusters) (IsFile (shard_text (span_shard script (dataset_of t) (clusters_of t size) clusters.lo clusters.hi)) due)
      (due ≡ due_of BadSpan span_line)

  -- to a script over a table
  abbrev pub IsDueToTable : ℕ → Span → Script → MarkedTable → ShardDue → Type 0
  IsDueToTable size clusters script t due = WithAccepted script t.table.columns (λ d. IsSpanDue script size clusters t d) due

  -- to a run
  abbrev pub IsRunDue : SpanRun → Files → ShardDue → Type 0
  IsRunDue run files due =
      WithScriptFile statuses run.script (files run.script)
      (λ script d. WithTableFile statuses run.table (files run.table) (λ t e. IsDueToTable run.size run.clusters script t e) d) due

  -- the graph of a script over columns
  abbrev pub graph_over : Script → List Column → GraphView
  graph_over script columns = record { script = script; header = columns; names = fn_names fns }

  -- to a script and what was read of the files: they are of one table, over which the script is accepted, and are merged
  abbrev pub IsDueToShards : List (List ℕ) → Script → List ShardView → ShardDue → Type 0
  IsDueToShards names script [] due = ⊥
  IsDueToShards names script (first ∷ rest) due =
      MatchOption (first_other first (first ∷ rest)) (WithAccepted script first.columns (λ d. IsMerged (graph_over script first.columns) names (first ∷ rest) d) due)
      (λ file. due ≡ due_of FilesDiffer (differs_line (name_at names file)))

  -- to a merging
  abbrev pub IsMergeDue : Merging → Files → ShardDue → Type 0
  IsMergeDue m files due =
      WithScriptFile statuses m.script (files m.script) (λ script d. WithShards files 0 [] m.files (λ shards e. IsDueToShards m.files script shards e) d) due

  abbrev pub IsDueToCommand : ShardCommand → Files → ShardDue → Type 0
  IsDueToCommand (Run run) files due = IsRunDue run files due
  IsDueToCommand (Merge m) files due = IsMergeDue m files due

-- to the words: the usage line, where they aren't taken
abbrev pub IsDue : List Function → List (List ℕ) → Files → ShardDue → Type 0
IsDue fns words files due = MatchOption (asked_of words) (due ≡ due_of Words usage_line) (λ command. IsDueToCommand fns command files due)

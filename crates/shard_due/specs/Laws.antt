-- Laws of what is due. Each is the contract of a function of this crate, and so proved.
use Rattle.std.specs.Prelude.{◌≡◌, ◌≤◌, ◌<◌, ⊤, ℕ, List, [], ◌∷◌, None, MatchOption, length, sum_by, unwrap_or}
use Rattle.rdf_values.specs.{Function, MarkedTable, Script, Span}
use Rattle.rdf_model.specs.{Course, Printed, transcript}
use Rattle.input_files.specs.{due_of, HoldsTheScript}
use Rattle.shard_files.specs.{first_uncovered}
use Rattle.shard_runs.specs.{IsChecked, runs_over}
use Rattle.shard_words.specs.{asked_of, Merging}
use Rattle.unwatched_scripts.specs.{unwatched}
use Rattle.shard_due.specs.Due.{Files, IsDue, IsDueToTable, IsMergeDue, clusters_of, dataset_of, max_files}
use Rattle.shard_due.specs.Lines.{usage_line}
use Rattle.shard_due.specs.Statuses.{printed_status}
use Rattle.shard_due.specs.declared.status.ShardStatus.TheVariants.{Done, Words}

-- words that aren't taken are due the usage line, whatever the files
abbrev pub UntakenWordsAreDueUsage : Type 0
UntakenWordsAreDueUsage = (fns : List Function) (words : List (List ℕ)) (files : Files) → asked_of words ≡ None → IsDue fns words files (due_of Words usage_line)

-- ---- merging what runs are due

-- how many bytes the files of these names have together
abbrev pub bytes_in : Files → List (List ℕ) → ℕ
bytes_in files names = sum_by (λ name. length (unwrap_or (files name) [])) names

module _ (fns : List Function) (script : Script) (t : MarkedTable) (size : ℕ) where
  -- the file has what a run of the script over a span of the table's clusters is due, a refusal apart
  abbrev pub HoldsRun : Files → List ℕ → Span → Type 0
  HoldsRun files name s = MatchOption (files name) ⊥ (λ text. IsDueToTable fns size s script t (due_of Done text))

  -- file by file and span by span
  abbrev pub HoldRuns : Files → List (List ℕ) → List Span → Type 0
  HoldRuns files [] [] = ⊤
  HoldRuns files [] (s ∷ parts) = ⊥
  HoldRuns files (name ∷ names) [] = ⊥
  HoldRuns files (name ∷ names) (s ∷ parts) = HoldsRun files name s × HoldRuns files names parts

  -- each cluster is in just one of the spans
  abbrev pub CoverOnce : List Span → Type 0
  CoverOnce parts = first_uncovered (length (clusters_of fns t size)) (runs_over script (dataset_of fns t) (clusters_of fns t size) parts) ≡ None

  -- what one run over the table prints, without partial lines
  abbrev pub one_run : Course → Printed
  one_run course = transcript (unwatched script) (dataset_of fns t) course

-- files with what runs of a script over a table are due, on spans of one cutting that hold each cluster once, named in any order and
-- not too long: their merging is due the transcript of one run over the table, without partial lines
abbrev pub MergingIsDueTheTranscript : Type 0
MergingIsDueTheTranscript =
    (fns : List Function) (script : Script) (t : MarkedTable) (size : ℕ) (parts : List Span) (m : Merging) (files : Files) (course : Course)
    → IsChecked script (dataset_of fns t) → HoldsTheScript script (files m.script)
    → 0 < length parts → HoldRuns fns script t size files m.files parts → CoverOnce fns script t size parts → bytes_in files m.files ≤ max_files
    → IsMergeDue fns m files (due_of (printed_status (one_run fns script t size course).status) (one_run fns script t size course).bytes)

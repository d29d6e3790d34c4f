-- What is due to the words, the files and the caller's functions: a status and the bytes that are written with it.
use Rattle.std.specs.Prelude.{◌≡◌, ℕ, List, length, nat_lt, Option, MatchOption, MatchResult}
use Rattle.std.specs.Bool.{MatchBool}
use Rattle.rdf_values.specs.{Column, fn_names, Function, graph_cause_line, Script, TableView, verdict}
use Rattle.rdf_model.specs.{Dataset}
use Rattle.graph_numbers.specs.{GraphView}
use Rattle.input_files.specs.{due_of, Files, WithScriptFile, WithTableFile}
use Rattle.input_files.specs.Due.{Due}
use Rattle.snapshot_plan.specs.{cause_in, PlanView, SnapCause, under_of}
use Rattle.snapshot_rows.specs.{snapshot}
use Rattle.snapshot_run.specs.{most_bytes}
use Rattle.snapshot_text.specs.{table_text}
use Rattle.snapshot_words.specs.{asked_of, SnapCommand}
use Rattle.snapshot_due.specs.Lines.{cause_line, fault_line, long_line, usage_line}
use Rattle.snapshot_due.specs.Statuses.{status_of, statuses}
use Rattle.snapshot_due.specs.declared.status.SnapshotStatus.{SnapshotStatus}
use Rattle.snapshot_due.specs.declared.status.SnapshotStatus.TheVariants.{Done, Words, ScriptRefused, LoopFault, TooLong}

abbrev pub SnapshotDue : Type 0
SnapshotDue = Due SnapshotStatus

-- ---- the run

-- the text of a table that isn't too long
abbrev pub IsTextDue : TableView → SnapshotDue → Type 0
IsTextDue t due = MatchBool (nat_lt most_bytes (length (table_text t))) (due ≡ due_of TooLong long_line) (due ≡ due_of Done (table_text t))

-- the text of the plan's snapshot, or the first fault
abbrev pub IsRunDue : PlanView → Dataset → SnapshotDue → Type 0
IsRunDue p d due = MatchResult (snapshot p d) (λ t. IsTextDue t due) (λ fault. due ≡ due_of LoopFault (fault_line p.node fault))

-- ---- with the caller's functions, to a command
module _ (fns : List Function) (c : SnapCommand) where
  abbrev pub graph_over : Script → List Column → GraphView
  graph_over script columns = record { script = script; header = columns; names = fn_names fns }

  -- the plan that is asked for
  abbrev pub plan_over : Script → List Column → PlanView
  plan_over script columns = record { graph = graph_over script columns; node = c.node; columns = c.columns; under = under_of c.under }

  abbrev pub dataset_of : TableView → Dataset
  dataset_of t = record { fns = fns; columns = t.columns; rows = t.rows }

  -- the first cause for which there is no such plan
  abbrev pub cause_over : Script → List Column → Option SnapCause
  cause_over script columns = cause_in (graph_over script columns) c.node c.columns (under_of c.under)

  -- a script that is accepted over these columns, and a plan in it
  abbrev pub WithPlan : Script → List Column → (PlanView → SnapshotDue → Type 0) → SnapshotDue → Type 0
  WithPlan script columns Next due =
      MatchOption (verdict (fn_names fns) columns script)
      (MatchOption (cause_over script columns) (Next (plan_over script columns) due) (λ cause. due ≡ due_of (status_of cause) (cause_line c cause)))
      (λ refused. due ≡ due_of ScriptRefused (graph_cause_line refused.0 refused.1))

  -- to a script over a table
  abbrev pub IsDueOver : Script → TableView → SnapshotDue → Type 0
  IsDueOver script t due = WithPlan script t.columns (λ p d. IsRunDue p (dataset_of t) d) due

  -- to the files that are named; marks of clusters tell nothing of the text
  abbrev pub IsDueToFiles : Files → SnapshotDue → Type 0
  IsDueToFiles files due =
      WithScriptFile statuses c.script (files c.script) (λ script d. WithTableFile statuses c.table (files c.table) (λ t e. IsDueOver script t.table e) d) due

-- to the words: the usage line, where they aren't taken
abbrev pub IsDue : List Function → List (List ℕ) → Files → SnapshotDue → Type 0
IsDue fns words files due = MatchOption (asked_of words) (due ≡ due_of Words usage_line) (λ command. IsDueToFiles fns command files due)

-- What is due in stages, where a later stage answers more.
use Rattle.std.proofs.Common.{◌≡◌, inl, inr, ℕ, Bool, true, false, List, length, nat_lt, Option, None, Some, Result, Ok, Err, MatchOption, MatchResult}
use Rattle.std.specs.Bool.{MatchBool}
use Rattle.rdf_values.specs.{Column, fn_names, Function, graph_cause_line, GraphCause, long_script_line, long_table_line, MarkedTable, Script, table_cause_line, table_of, TableCause, verdict}
use Rattle.table_csv.specs.{csv_records}
use Rattle.input_files.specs.{due_of, FileStatuses, max_script, max_table, ReadsScript, WithScriptFile, WithTableFile}
use Rattle.input_files.specs.Due.{Due}
use Rattle.snapshot_plan.specs.{PlanView, SnapCause}
use Rattle.snapshot_words.specs.{SnapCommand}
use Rattle.snapshot_due.specs.{cause_line, cause_over, plan_over, SnapshotDue, status_of, WithPlan}
use Rattle.snapshot_due.specs.declared.status.SnapshotStatus.TheVariants.{ScriptRefused}

-- ---- files

module _ {S : Type 0} (statuses : FileStatuses S) (name : List ℕ) (d : Due S) where
  pub more_of_script : (file : Option (List ℕ)) (Next More : Script → Due S → Type 0) → ((s : Script) → Next s d → More s d) → WithScriptFile statuses name file Next d → WithScriptFile statuses name file More d
  more_of_script None Next More step h = h
  more_of_script (Some bytes) Next More step h = go (nat_lt max_script (length bytes)) h
    where
      reads : ReadsScript statuses bytes Next d → ReadsScript statuses bytes More d
      reads (inl refused) = inl refused
      reads (inr read) = inr (read.0, read.1, step read.0 read.2)

      go : (b : Bool) → MatchBool b (d ≡ due_of statuses.script_refused long_script_line) (ReadsScript statuses bytes Next d) → MatchBool b (d ≡ due_of statuses.script_refused long_script_line) (ReadsScript statuses bytes More d)
      go true e = e
      go false r = reads r

  pub more_of_table : (file : Option (List ℕ)) (Next More : MarkedTable → Due S → Type 0) → ((t : MarkedTable) → Next t d → More t d) → WithTableFile statuses name file Next d → WithTableFile statuses name file More d
  more_of_table None Next More step h = h
  more_of_table (Some bytes) Next More step h = go (nat_lt max_table (length bytes)) (table_of (csv_records bytes)) h
    where
      go : (b : Bool) (r : Result MarkedTable TableCause) → MatchBool b (d ≡ due_of statuses.table_refused long_table_line) (MatchResult r (λ t. Next t d) (λ why. d ≡ due_of statuses.table_refused (table_cause_line why)))
          → MatchBool b (d ≡ due_of statuses.table_refused long_table_line) (MatchResult r (λ t. More t d) (λ why. d ≡ due_of statuses.table_refused (table_cause_line why)))
      go true r e = e
      go false (Ok t) next = step t next
      go false (Err why) e = e

-- ---- a plan

pub more_of_plan : (fns : List Function) (c : SnapCommand) (script : Script) (columns : List Column) (Next More : PlanView → SnapshotDue → Type 0) (d : SnapshotDue)
    → ((p : PlanView) → Next p d → More p d) → WithPlan fns c script columns Next d → WithPlan fns c script columns More d
more_of_plan fns c script columns Next More d step h = go (verdict (fn_names fns) columns script) (cause_over fns c script columns) h
  where
    go : (v : Option (ℕ × GraphCause)) (k : Option SnapCause)
        → MatchOption v (MatchOption k (Next (plan_over fns c script columns) d) (λ why. d ≡ due_of (status_of why) (cause_line c why))) (λ refused. d ≡ due_of ScriptRefused (graph_cause_line refused.0 refused.1))
        → MatchOption v (MatchOption k (More (plan_over fns c script columns) d) (λ why. d ≡ due_of (status_of why) (cause_line c why))) (λ refused. d ≡ due_of ScriptRefused (graph_cause_line refused.0 refused.1))
    go None None next = step (plan_over fns c script columns) next
    go None (Some why) e = e
    go (Some refused) k e = e

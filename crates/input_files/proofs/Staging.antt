-- What is due to a file, by what reading it came to.
use Rattle.lemmas.proofs.{◌≡◌, inr, ℕ, Bool, true, false, List, length, nat_lt, Option, None, Some, Result, Ok, Err, sym, subst, MatchResult, le-ltb, MatchBool}
use Rattle.rdf_values.specs.{long_script_line, long_table_line, MarkedTable, Script, table_cause_line, table_of, TableCause}
use Rattle.table_csv.specs.{csv_records}
use Rattle.input_files.specs.{due_of, FileStatuses, HoldsTheScript, HoldsTheTable, max_script, max_table, ReadsScript, WithScriptFile, WithTableFile}
use Rattle.input_files.specs.Due.{Due}

module _ {S : Type 0} (statuses : FileStatuses S) where
  -- ---- scripts

  -- a script that was read
  pub script_read_due : (name : List ℕ) (file : Option (List ℕ)) (script : Script) (Next : Script → Due S → Type 0) (d : Due S) → HoldsTheScript script file → Next script d → WithScriptFile statuses name file Next d
  script_read_due name None script Next d h next = absurd h
  script_read_due name (Some bytes) script Next d h next = go (nat_lt max_script (length bytes)) (le-ltb max_script (length bytes) h.0)
    where
      go : (b : Bool) → b ≡ false → MatchBool b (d ≡ due_of statuses.script_refused long_script_line) (ReadsScript statuses bytes Next d)
      go true e = absurd (cc e)
      go false e = inr (script, h.1, next)

  -- ---- tables

  -- a table that was read
  pub table_read_due : (name : List ℕ) (file : Option (List ℕ)) (table : MarkedTable) (Next : MarkedTable → Due S → Type 0) (d : Due S) → HoldsTheTable table file → Next table d → WithTableFile statuses name file Next d
  table_read_due name None table Next d h next = absurd h
  table_read_due name (Some bytes) table Next d h next = go (nat_lt max_table (length bytes)) (table_of (csv_records bytes)) (le-ltb max_table (length bytes) h.0) h.1
    where
      go : (b : Bool) (r : Result MarkedTable TableCause) → b ≡ false → r ≡ Ok table
          → MatchBool b (d ≡ due_of statuses.table_refused long_table_line) (MatchResult r (λ t. Next t d) (λ cause. d ≡ due_of statuses.table_refused (table_cause_line cause)))
      go true r e is = absurd (cc e)
      go false (Ok t) e is = (let same : t ≡ table = cc is in subst (λ x. Next x d) (sym same) next)
      go false (Err cause) e is = absurd (cc is)

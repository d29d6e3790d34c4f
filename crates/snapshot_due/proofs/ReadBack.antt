-- That a text that is due as done reads back.
use Rattle.lemmas.proofs.{◌≡◌, ◌≤◌, ℕ, Bool, true, false, List, [], length, nat_lt, Option, None, Some, Result, Ok, Err, inl, inr, refl, sym, ap, subst, arith, MatchOption, MatchResult, MatchBool, nat_tests}
use Rattle.rdf_values.specs.{AnswerIn64Bits, Column, fn_names, Function, graph_cause_line, GraphCause, IsScript, IsTable, long_script_line, long_table_line, MarkedTable, Script, table_cause_line, table_of, TableCause, TableView, verdict}
use Rattle.rdf_values.proofs.OneText.{scripts_have_words}
use Rattle.rdf_values.proofs.ShortLists.{scripts_are_bookable}
use Rattle.rdf_model.specs.{Dataset}
use Rattle.table_csv.specs.{csv_records}
use Rattle.input_files.specs.{due_of, Files, HoldsTheScript, HoldsTheTable, max_script, max_table, ReadsScript, WithScriptFile, WithTableFile}
use Rattle.snapshot_plan.specs.{PlanView, SnapCause}
use Rattle.snapshot_rows.specs.{IsPlanOver, SnapFault, snapshot}
use Rattle.snapshot_rows.proofs.Tabled as rows
use Rattle.snapshot_run.specs.{most_bytes}
use Rattle.snapshot_text.specs.{table_text}
use Rattle.snapshot_words.specs.{asked_of, SnapCommand}
use Rattle.snapshot_words.proofs.Bounds.{asked_fits}
use Rattle.snapshot_due.specs.{cause_line, cause_over, dataset_of, fault_line, IsDueOver, IsDueToFiles, IsRunDue, IsTextDue, long_line, plan_over, ReadsBack, SnapshotDue, SnapshotReadsBack, status_of, statuses, usage_line}
use Rattle.snapshot_due.specs.declared.status.SnapshotStatus.TheVariants.{Done, Words, NoFile, ScriptRefused, TableRefused, LoopFault, TooLong}
use Rattle.snapshot_due.proofs.Spelt.{spelt_is_table}

status_in : {a b : SnapshotDue} → a ≡ b → a.status ≡ b.status
status_in e = ap (λ (d : SnapshotDue). d.status) e

not_a_cause : (why : SnapCause) → Done ≡ status_of why → ⊥
not_a_cause SnapCause.BadNode e = cc e
not_a_cause (SnapCause.BadColumn i) e = cc e
not_a_cause SnapCause.BadVariation e = cc e
not_a_cause (SnapCause.TooMany n) e = cc e

module _ (bytes : List ℕ) where
  abbrev done : SnapshotDue
  done = due_of Done bytes

  -- ---- the run

  -- the bytes are the text of a snapshot, and no too long one
  record IsItsText (p : PlanView) (d : Dataset) : Type 0 where
    shown : TableView
    is_snapshot : snapshot p d ≡ Ok shown
    text : bytes ≡ table_text shown
    short : length (table_text shown) ≤ most_bytes

  by_length : (p : PlanView) (d : Dataset) (shown : TableView) (long : Bool) → snapshot p d ≡ Ok shown → nat_lt most_bytes (length (table_text shown)) ≡ long
      → MatchBool long (done ≡ due_of TooLong long_line) (done ≡ due_of Done (table_text shown)) → IsItsText p d
  by_length p d shown true is l e = (let same : Done ≡ TooLong = status_in e in absurd (cc same))
  by_length p d shown false is l e = record { shown = shown; is_snapshot = is; text = ap (λ (x : SnapshotDue). x.bytes) e; short = grind (arith, nat_tests, l) }

  by_run : (p : PlanView) (d : Dataset) (r : Result TableView SnapFault) → snapshot p d ≡ r → MatchResult r (λ t. IsTextDue t done) (λ fault. done ≡ due_of LoopFault (fault_line p.node fault)) → IsItsText p d
  by_run p d (Ok shown) is h = by_length p d shown (nat_lt most_bytes (length (table_text shown))) is refl h
  by_run p d (Err fault) is h = (let same : Done ≡ LoopFault = status_in h in absurd (cc same))

  module _ (fns : List Function) (c : SnapCommand) where
    -- ---- the plan

    -- the script is accepted, there is a plan, and the bytes are its snapshot's
    record IsItsRun (script : Script) (t : TableView) : Type 0 where
      accepted : verdict (fn_names fns) t.columns script ≡ None
      planned : cause_over fns c script t.columns ≡ None
      text : IsItsText (plan_over fns c script t.columns) (dataset_of fns c t)

    by_cause : (script : Script) (t : TableView) (k : Option SnapCause) → verdict (fn_names fns) t.columns script ≡ None → cause_over fns c script t.columns ≡ k
        → MatchOption k (IsRunDue (plan_over fns c script t.columns) (dataset_of fns c t) done) (λ why. done ≡ due_of (status_of why) (cause_line c why)) → IsItsRun script t
    by_cause script t None accepted is h =
        record { accepted = accepted; planned = is; text = by_run (plan_over fns c script t.columns) (dataset_of fns c t) (snapshot (plan_over fns c script t.columns) (dataset_of fns c t)) refl h }
    by_cause script t (Some why) accepted is h = absurd (not_a_cause why (status_in h))

    by_verdict : (script : Script) (t : TableView) (v : Option (ℕ × GraphCause)) → verdict (fn_names fns) t.columns script ≡ v
        → MatchOption v (MatchOption (cause_over fns c script t.columns) (IsRunDue (plan_over fns c script t.columns) (dataset_of fns c t) done) (λ why. done ≡ due_of (status_of why) (cause_line c why)))
        (λ refused. done ≡ due_of ScriptRefused (graph_cause_line refused.0 refused.1))
        → IsItsRun script t
    by_verdict script t None is h = by_cause script t (cause_over fns c script t.columns) is refl h
    by_verdict script t (Some refused) is h = (let same : Done ≡ ScriptRefused = status_in h in absurd (cc same))

    -- ---- the files

    -- the files hold a script and a table
    record AreItsFiles (files : Files) : Type 0 where
      script : Script
      script_bytes : List ℕ
      few : length script_bytes ≤ max_script
      is_script : IsScript script_bytes script
      holds_script : HoldsTheScript script (files c.script)
      own : MarkedTable
      table_bytes : List ℕ
      is_own : table_of (csv_records table_bytes) ≡ Ok own
      holds_table : HoldsTheTable own (files c.table)
      run : IsItsRun script own.table

    -- a table, with what is due of it
    record IsItsTable (script : Script) (file : Option (List ℕ)) : Type 0 where
      own : MarkedTable
      table_bytes : List ℕ
      is_own : table_of (csv_records table_bytes) ≡ Ok own
      holds : HoldsTheTable own file
      run : IsItsRun script own.table

    by_table : (script : Script) (text : List ℕ) (b : Bool) (r : Result MarkedTable TableCause) → nat_lt max_table (length text) ≡ b → table_of (csv_records text) ≡ r
        → MatchBool b (done ≡ due_of TableRefused long_table_line) (MatchResult r (λ t. IsDueOver fns c script t.table done) (λ why. done ≡ due_of TableRefused (table_cause_line why)))
        → IsItsTable script (Some text)
    by_table script text true r l is h = (let same : Done ≡ TableRefused = status_in h in absurd (cc same))
    by_table script text false (Ok own) l is h =
        record { own = own; table_bytes = text; is_own = is; holds = (grind (arith, nat_tests, l), is); run = by_verdict script own.table (verdict (fn_names fns) own.table.columns script) refl h }
    by_table script text false (Err why) l is h = (let same : Done ≡ TableRefused = status_in h in absurd (cc same))

    by_table_file : (script : Script) (file : Option (List ℕ)) → WithTableFile statuses c.table file (λ t e. IsDueOver fns c script t.table e) done → IsItsTable script file
    by_table_file script None h = (let same : Done ≡ NoFile = status_in h in absurd (cc same))
    by_table_file script (Some text) h = by_table script text (nat_lt max_table (length text)) (table_of (csv_records text)) refl refl h

    module _ (files : Files) where
      abbrev Next : Script → SnapshotDue → Type 0
      Next script d = WithTableFile statuses c.table (files c.table) (λ t e. IsDueOver fns c script t.table e) d

      -- a script, with what is due of it
      record IsItsScript (file : Option (List ℕ)) : Type 0 where
        script : Script
        script_bytes : List ℕ
        few : length script_bytes ≤ max_script
        is_script : IsScript script_bytes script
        holds : HoldsTheScript script file
        next : Next script done

      by_script : (text : List ℕ) (b : Bool) → nat_lt max_script (length text) ≡ b → MatchBool b (done ≡ due_of ScriptRefused long_script_line) (ReadsScript statuses text Next done) → IsItsScript (Some text)
      by_script text true l h = (let same : Done ≡ ScriptRefused = status_in h in absurd (cc same))
      by_script text false l (inl refused) = (let same : Done ≡ ScriptRefused = status_in refused.2 in absurd (cc same))
      by_script text false l (inr read) =
          (let few : length text ≤ max_script = grind (arith, nat_tests, l) in record { script = read.0; script_bytes = text; few = few; is_script = read.1; holds = (few, read.1); next = read.2 })

      by_script_file : (file : Option (List ℕ)) → WithScriptFile statuses c.script file Next done → IsItsScript file
      by_script_file None h = (let same : Done ≡ NoFile = status_in h in absurd (cc same))
      by_script_file (Some text) h = by_script text (nat_lt max_script (length text)) refl h

    are_files : (files : Files) → IsDueToFiles fns c files done → AreItsFiles files
    are_files files h =
        let s = by_script_file files (files c.script) h in
        let t = by_table_file s.script (files c.table) s.next in
        record {
          script = s.script;
          script_bytes = s.script_bytes;
          few = s.few;
          is_script = s.is_script;
          holds_script = s.holds;
          own = t.own;
          table_bytes = t.table_bytes;
          is_own = t.is_own;
          holds_table = t.holds;
          run = t.run;
        }

-- ---- all of it

read_back : (fns : List Function) (words : List (List ℕ)) (files : Files) (bytes : List ℕ) (c : SnapCommand) → AnswerIn64Bits fns → asked_of words ≡ Some c → AreItsFiles bytes fns c files → ReadsBack fns words files bytes
read_back fns words files bytes c answers asked f =
    let fits = asked_fits words c asked in
    let columns : List Column = f.own.table.columns in
    let p : PlanView = plan_over fns c f.script columns in
    let d : Dataset = dataset_of fns c f.own.table in
    let table : IsTable f.own.table = spelt_is_table f.table_bytes f.own f.is_own in
    let over : IsPlanOver p d = record {
      graph = record { header = table.header; bookable = scripts_are_bookable f.script_bytes f.script f.few f.is_script; accepted = f.run.accepted };
      plan = record { some = fits.some; few = fits.few; planned = f.run.planned };
      columns = refl;
      functions = refl;
      table = table;
      answers = answers;
      words = scripts_have_words f.script_bytes f.script f.is_script;
    } in
    let shown : TableView = f.run.text.shown in
    let is : snapshot p d ≡ Ok shown = f.run.text.is_snapshot in
    let is_a_table = rows.snapshot_is_a_table p d shown over is in
    let text : bytes ≡ table_text shown = f.run.text.text in
    record {
      command = c;
      asked = asked;
      script = f.script;
      holds_script = f.holds_script;
      own = f.own;
      holds_table = f.holds_table;
      shown = shown;
      is_snapshot = is;
      reads = subst (λ (x : List ℕ). table_of (csv_records x) ≡ Ok (record { table = shown; marks = [] })) (sym text) (rows.snapshot_reads_back p d shown over fits.named is);
      short = subst (λ (x : List ℕ). length x ≤ max_table) (sym text) f.run.text.short;
      is_table = is_a_table.0;
      columns = is_a_table.1;
      no_more = is_a_table.2;
    }

pub snapshot_reads_back : SnapshotReadsBack
snapshot_reads_back fns words files bytes answers due = by (asked_of words) refl due
  where
    by : (o : Option SnapCommand) → asked_of words ≡ o → MatchOption o (due_of Done bytes ≡ due_of Words usage_line) (λ c. IsDueToFiles fns c files (due_of Done bytes)) → ReadsBack fns words files bytes
    by None is h = (let same : Done ≡ Words = status_in h in absurd (cc same))
    by (Some c) is h = read_back fns words files bytes c answers is (are_files bytes fns c files h)

-- A run over a chain, stage by stage.
use Rattle.lemmas.proofs.{Result, Ok, Err, ◌≡◌, ℕ, Bool, true, false, List, [], ◌∷◌, ◌++◌, length, nat_lt, Option, None, Some, refl, sym, subst, append_assoc, append-nil, MatchOption, MatchResult, le-ltb, MatchBool}
use Rattle.rdf_values.specs.{Column, fn_names, Function, graph_cause_line, GraphCause, long_table_line, MarkedTable, Script, table_cause_line, table_of, TableCause, verdict}
use Rattle.table_csv.specs.{csv_records}
use Rattle.shard_files.specs.{same_columns}
use Rattle.input_files.specs.{due_of, HoldsTheTable, max_table, WithFile}
use Rattle.chain_transcripts.proofs.WholeText.{chain_prints_the_transcript}
use Rattle.chain_due.specs.{chain_of, ChainDue, differs_line, Files, printed_over, printed_status, statuses, table_line, WithAccepted, WithTable, WithTableFile, WithTables}
use Rattle.chain_due.specs.declared.status.ChainStatus.TheVariants.{FilesDiffer, ScriptRefused, TableRefused}
use Rattle.chain_laws.specs.{HoldTables, RunIsDueTheTranscript}

if_true : (b : Bool) (P Q : Type 0) → b ≡ true → P → MatchBool b P Q
if_true true P Q e p = p
if_true false P Q e p = absurd (cc e)

-- behind a table that is held
table_goes : (files : Files) (name : List ℕ) (t : MarkedTable) (Next : MarkedTable → ChainDue → Type 0) (d : ChainDue) → HoldsTheTable t (files name) → Next t d → WithTableFile files name Next d
table_goes files name t Next d h next = go (files name) h
  where
    text : (b : Bool) (r : Result MarkedTable TableCause) → b ≡ false → r ≡ Ok t
        → MatchBool b (d ≡ due_of TableRefused (table_line name long_table_line)) (MatchResult r (λ t. Next t d) (λ cause. d ≡ due_of TableRefused (table_line name (table_cause_line cause))))
    text true r e is = absurd (cc e)
    text false (Ok u) e is = (let same : u ≡ t = cc is in subst (λ x. Next x d) (sym same) next)
    text false (Err cause) e is = absurd (cc is)

    go : (file : Option (List ℕ)) → HoldsTheTable t file → WithFile statuses name file (λ bytes e. WithTable name bytes Next e) d
    go None k = absurd k
    go (Some bytes) k = text (nat_lt max_table (length bytes)) (table_of (csv_records bytes)) (le-ltb max_table (length bytes) k.0) k.1

accepted_goes : (fns : List Function) (script : Script) (columns : List Column) (Next : ChainDue → Type 0) (d : ChainDue) → verdict (fn_names fns) columns script ≡ None → Next d → WithAccepted fns script columns Next d
accepted_goes fns script columns Next d v next = go (verdict (fn_names fns) columns script) v
  where
    go : (o : Option (ℕ × GraphCause)) → o ≡ None → MatchOption o (Next d) (λ refused. d ≡ due_of ScriptRefused (graph_cause_line refused.0 refused.1))
    go None e = next
    go (Some refused) e = absurd (cc e)

-- behind all tables that are held
tables_go : (files : Files) (columns : List Column) (Next : List MarkedTable → ChainDue → Type 0) (d : ChainDue) (names : List (List ℕ)) (found tables : List MarkedTable) → HoldTables files columns names tables → Next (found ++ tables) d
    → WithTables files columns found names Next d
tables_go files columns Next d [] found [] h next = subst (λ ts. Next ts d) (append-nil found) next
tables_go files columns Next d [] found (t ∷ tables) h next = absurd h
tables_go files columns Next d (name ∷ names) found [] h next = absurd h
tables_go files columns Next d (name ∷ names) found (t ∷ tables) h next =
    table_goes files name t (λ u e. MatchBool (same_columns columns u.table.columns) (WithTables files columns (found ++ u ∷ []) names Next e) (e ≡ due_of FilesDiffer (differs_line name))) d h.0
    (if_true (same_columns columns t.table.columns) (WithTables files columns (found ++ t ∷ []) names Next d) (d ≡ due_of FilesDiffer (differs_line name)) h.1
    (tables_go files columns Next d names (found ++ t ∷ []) tables h.2 (subst (λ ts. Next ts d) (sym (append_assoc found (t ∷ []) tables)) next)))

pub run_is_due_the_transcript : RunIsDueTheTranscript
run_is_due_the_transcript fns script first others name names files course graph unwatched held more =
    let columns = first.table.columns in
    let p = printed_over fns script columns (first ∷ others) in
    let end = (λ (all : List MarkedTable) (d : ChainDue). d ≡ due_of (printed_status (printed_over fns script columns all).status) (printed_over fns script columns all).bytes) in
    let due = due_of (printed_status p.status) p.bytes in
    record {
      due = table_goes files name first
          (λ t d. WithAccepted fns script t.table.columns
          (λ e. WithTables files t.table.columns (t ∷ []) names (λ all f. f ≡ due_of (printed_status (printed_over fns script t.table.columns all).status) (printed_over fns script t.table.columns all).bytes) e) d) due held
          (accepted_goes fns script columns (λ e. WithTables files columns (first ∷ []) names end e) due graph.accepted (tables_go files columns end due names (first ∷ []) others more refl));
      printed = chain_prints_the_transcript script (chain_of fns columns (first ∷ others)) course graph unwatched;
    }

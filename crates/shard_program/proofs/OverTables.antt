-- A booked script over a table, and the shard of a run.
use Rattle.lemmas.proofs.{◌≡◌, ◌≤◌, ℕ, List, length, None, Result, Ok, IfOk, sym, ap, ◌∙◌, subst, MatchOption}
use Rattle.rdf_values.specs.Answered.{Refuses}
use Rattle.rdf_values.specs.{AnswerIn64Bits, Column, fn_names, Function, FunctionNames, graph_cause_line, GraphCause, history, IsTable, Lead, MarkedTable, Script, Span, StatementsHaveWords, verdict}
use Rattle.rdf_values.proofs.Evenly.{cuts_lead}
use Rattle.columns.specs.Views.{ColumnsView}
use Rattle.graph_numbers.specs.{booked, GraphView, IsGraph}
use Rattle.input_files.specs.{due_of}
use Rattle.graph.specs.{GraphRefusal, refused_at}
use Rattle.graph.proofs.Finished.{accepted_verdict, refusal_of, refused_verdict}
use Rattle.shard_files.specs.{IsShard, ShardView}
use Rattle.shard_loop.specs.{cuts_of, table_of}
use Rattle.shard_runs.proofs.Runs.{runs_are_shards}
use Rattle.shard_spans.specs.{loops_of, span_loops, span_shard}
use Rattle.shard_due.specs.{graph_over, IsDueToTable, IsFinal, IsSpanDue, ShardDue, WithAccepted}
use Rattle.shard_due.specs.declared.status.ShardStatus.TheVariants.{ScriptRefused}
use Rattle.shard_program.specs.{AreNamed, due_in, IsOfFiles}
use Rattle.shard_program.specs.Answers.{Answers}
use Rattle.table_csv.specs.{columns_over, marked_in}
use Rattle.shard_program.specs.declared.answer.Answer.{Answer}
use Rattle.shard_program.proofs.FileReading.{if_ok}

-- ---- the checks of a script

module _ (fns : List Function) (script : Script) (columns header : List Column) (names : FunctionNames) (heads : header ≡ columns) (named : names ≡ fn_names fns) where
  same_booked : booked script header names ≡ booked script columns (fn_names fns)
  same_booked = λ i. booked script (heads i) (named i)

  -- a script that is booked
  pub accepted : (Next : GraphView → ShardDue → Type 0) (g : GraphView) (a : Answer) → booked script header names ≡ Ok g → Answers (Next g) a → Answers (WithAccepted fns script columns (λ d. Next (graph_over fns script columns) d)) a
  accepted Next g a h is =
      let both = accepted_verdict (graph_over fns script columns) g (verdict (fn_names fns) columns script) (sym same_booked ∙ h) in
      record {
        of_files = is.of_files;
        final = is.final;
        is_due =
            subst (λ o. MatchOption o (Next (graph_over fns script columns) (due_in a)) (λ refused. due_in a ≡ due_of ScriptRefused (graph_cause_line refused.0 refused.1))) (sym both.0)
            (subst (λ x. Next x (due_in a)) both.1 is.is_due);
      }

  -- a script with a line that is refused
  pub not_accepted : (Next : ShardDue → Type 0) (refusal : GraphRefusal) (line line' : ℕ) (cause cause' : GraphCause) (a : Answer) → refusal ≡ GraphRefusal.At line cause → Refuses refused_at GraphRefusal.Memory (booked script header names) refusal
      → line' ≡ line → cause' ≡ cause → (a.status ≡ ScriptRefused) × (a.text ≡ graph_cause_line line' cause') → Answers (WithAccepted fns script columns Next) a
  not_accepted Next refusal line line' cause cause' a refused is l k e =
      let v = refused_verdict (graph_over fns script columns) (verdict (fn_names fns) columns script) (line, cause)
      (sym same_booked ∙ refusal_of (booked script header names) line cause (subst (λ r. Refuses refused_at GraphRefusal.Memory (booked script header names) r) refused is)) in
      let due : due_in a ≡ due_of ScriptRefused (graph_cause_line line cause) = (λ i. due_of (e.0 i) ((e.1 ∙ (λ j. graph_cause_line (l j) (k j))) i)) in
      record {
        of_files = subst IsOfFiles (sym e.0) tt;
        final = subst IsFinal (sym e.0) tt;
        is_due = subst (λ o. MatchOption o (Next (due_in a)) (λ refused. due_in a ≡ due_of ScriptRefused (graph_cause_line refused.0 refused.1))) (sym v) due;
      }

-- the answer over a table, once the script was booked
pub table_due : {E : Type 0} (fns : List Function) (script : Script) (t : MarkedTable) (size : ℕ) (clusters : Span) (columns : ColumnsView) (header : List Column) (names : FunctionNames) (g : GraphView) (r : Result Answer E) → columns ≡ columns_over t size
    → header ≡ columns.table.columns → names ≡ fn_names fns → booked script header names ≡ Ok g → IfOk r (Answers (IsSpanDue fns g.script columns.cuts.size clusters (marked_in columns))) → IfOk r (Answers (IsDueToTable fns size clusters script t))
table_due fns script t size clusters columns header names g r same heads named is =
    if_ok (Answers (IsSpanDue fns g.script columns.cuts.size clusters (marked_in columns))) (Answers (IsDueToTable fns size clusters script t)) r
    (λ a h. accepted fns script t.table.columns header names (heads ∙ ap (λ (c : ColumnsView). c.table.columns) same) named (λ x d. IsSpanDue fns x.script size clusters t d) g a is
    (subst (λ (c : ColumnsView). Answers (IsSpanDue fns g.script c.cuts.size clusters (marked_in c)) a) same h))

-- and where a line of it was refused
pub script_refused : {E : Type 0} (fns : List Function) (script : Script) (t : MarkedTable) (size : ℕ) (clusters : Span) (columns : ColumnsView) (header : List Column) (names : FunctionNames) (refusal : GraphRefusal) (line line' : ℕ) (cause cause' : GraphCause)
    (r : Result Answer E) → columns ≡ columns_over t size → header ≡ columns.table.columns → names ≡ fn_names fns → refusal ≡ GraphRefusal.At line cause → Refuses refused_at GraphRefusal.Memory (booked script header names) refusal → line' ≡ line → cause' ≡ cause
    → IfOk r (λ a. (a.status ≡ ScriptRefused) × (a.text ≡ graph_cause_line line' cause')) → IfOk r (Answers (IsDueToTable fns size clusters script t))
script_refused fns script t size clusters columns header names refusal line line' cause cause' r same heads named refused is l k =
    if_ok (λ a. (a.status ≡ ScriptRefused) × (a.text ≡ graph_cause_line line' cause')) (Answers (IsDueToTable fns size clusters script t)) r
    (λ a e. not_accepted fns script t.table.columns header names (heads ∙ ap (λ (c : ColumnsView). c.table.columns) same) named (λ d. IsSpanDue fns script size clusters t d) refusal line line' cause cause' a refused is l k e)

-- ---- the shard of a run

module _ (g : GraphView) (columns : ColumnsView) (fns : List Function) (lo hi : ℕ) where
  abbrev Found : ShardView
  Found = span_shard g.script (table_of columns fns) (cuts_of columns) lo hi

  pub found_is_shard : IsGraph g → (g.header ≡ columns.table.columns) × (g.names ≡ fn_names fns) → StatementsHaveWords (history g.script) → AnswerIn64Bits fns → IsTable columns.table → columns.cuts.entries ≡ length columns.table.rows
      → AreNamed columns.table.columns → lo ≤ hi → hi ≤ length (cuts_of columns) → IsShard Found
  found_is_shard graph same words answers table entries named low high =
      runs_are_shards g.script (table_of columns fns) (cuts_of columns) lo hi
      (record {
        accepted = subst (λ ns. verdict ns columns.table.columns g.script ≡ None) same.1 (subst (λ cs. verdict g.names cs g.script ≡ None) same.0 graph.accepted);
        words = words;
        answers = answers;
        header = table.header;
        named = named;
        fit = table.fit;
        few = table.few;
      })
      (subst (λ n. Lead 0 n (cuts_of columns)) entries (cuts_lead columns.cuts.entries columns.cuts.size columns.cuts.marks))
      low high

  -- the parts of it
  pub parts_are : (s : ShardView) → s.entries ≡ length columns.table.rows → s.clusters ≡ length (cuts_of columns) → s.columns ≡ columns.table.columns → s.lo ≡ lo → s.hi ≡ hi
      → s.loops ≡ span_loops (cuts_of columns) (table_of columns fns) lo hi (loops_of g.script) → s ≡ Found
  parts_are s a b c d e f = λ i. record { entries = a i; clusters = b i; columns = c i; lo = d i; hi = e i; loops = f i }

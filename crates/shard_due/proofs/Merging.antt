-- That merging what runs are due is due the transcript of one run.
use Rattle.lemmas.proofs.{◌≡◌, inr, ◌≤◌, ◌<◌, ◌+◌, ℕ, Bool, true, false, ◌&&◌, List, [], ◌∷◌, ◌++◌, length, map, nat_lt, Option, None, Some, Result, Ok, refl, sym, ap, ◌∙◌, subst, arith, append-nil, append_assoc, All, MatchOption, MatchResult, nat_le, unwrap_or, All-cons, All-nil, le-ltb, MatchBool, nat_tests, sum_by-cons}
use Rattle.rdf_values.specs.{Function, graph_cause_line, Lead, long_script_line, MarkedTable, no_file_line, Script, Span}
use Rattle.rdf_values.proofs.Evenly.{cuts_lead}
use Rattle.rdf_values.proofs.ShortLists.{scripts_are_bookable}
use Rattle.rdf_model.specs.{Course, Dataset, Printed}
use Rattle.graph_numbers.specs.{GraphView, IsGraph}
use Rattle.input_files.specs.{due_of, HoldsTheScript, max_script, ReadsScript, WithScriptFile}
use Rattle.shard_files.specs.{first_misshapen, first_other, first_uncovered, IsShardText, merge_of, MergeCause, shard_text, ShardLoop, shards_joined, ShardView, unless_at}
use Rattle.shard_lines.specs.{PassShape}
use Rattle.shard_spans.specs.{loops_of, span_loops, span_shard}
use Rattle.shard_runs.specs.{IsChecked}
use Rattle.shard_runs.proofs.Merged.{runs_merge_to_one_run}
use Rattle.shard_runs.proofs.Runs.{runs_are_shards}
use Rattle.merged_text.specs.{merged_text}
use Rattle.graph_shapes.specs.{graph_shapes}
use Rattle.shard_transcripts.proofs.WholeText.{merged_run_prints_no_partials}
use Rattle.unwatched_scripts.proofs.Printing.{dropped_watches_drop_partial_lines}
use Rattle.shard_due.specs.{bytes_in, cause_due, clusters_of, CoverOnce, dataset_of, differs_line, Files, graph_over, HoldRuns, is_span, IsDueToShards, IsDueToTable, IsFile, IsMerged, IsPrinted, IsSpanDue, long_files_line, max_files, MergingIsDueTheTranscript, name_at, one_run, printed_status, ReadsShard, ShardDue, span_line, statuses, WithAccepted, WithShard, WithShards}
use Rattle.shard_due.specs.declared.status.ShardStatus.TheVariants.{BadSpan, Done, FilesDiffer, ScriptRefused, TooLong}

status_of : {a b : ShardDue} → a ≡ b → a.status ≡ b.status
status_of e = ap (λ (d : ShardDue). d.status) e

both : (a b : Bool) → a && b ≡ true → (a ≡ true) × (b ≡ true)
both true true h = (refl, refl)
both true false h = absurd (cc h)
both false b h = absurd (cc h)

-- shards that are merged have one head
no_other : (shapes : List (List PassShape)) (s : ShardView) (rest : List ShardView) (loops : List ShardLoop) → merge_of shapes (s ∷ rest) ≡ Ok loops → first_other s (s ∷ rest) ≡ None
unfolding merge_of
no_other shapes s rest loops h =
    go (first_other s (s ∷ rest)) (unless_at (first_misshapen shapes (s ∷ rest)) MergeCause.Shape (unless_at (first_uncovered s.clusters (s ∷ rest)) MergeCause.Cover (Ok (shards_joined shapes (s ∷ rest))))) h
  where
    go : (o : Option ℕ) (next : Result (List ShardLoop) MergeCause) → unless_at o MergeCause.Head next ≡ Ok loops → o ≡ None
    go None next e = refl
    go (Some place) next e = absurd (cc e)

module _ (fns : List Function) (script : Script) (t : MarkedTable) (size : ℕ) (checked : IsChecked script (dataset_of fns t)) where
  abbrev d : Dataset
  d = dataset_of fns t

  abbrev spans : List Span
  spans = clusters_of fns t size

  abbrev run : Span → ShardView
  run s = span_shard script d spans s.lo s.hi

  leads : Lead 0 (length d.rows) spans
  leads = cuts_lead (length t.table.rows) size t.marks

  -- ---- what a run is due

  -- the span is one of clusters, and the text that of what was found
  record IsRun (s : Span) (bytes : List ℕ) : Type 0 where
    ordered : s.lo ≤ s.hi
    within : s.hi ≤ length spans
    text : shard_text (run s) ≡ bytes

  short_text : (s : Span) (bytes : List ℕ) (long : Bool) → MatchBool long (due_of Done bytes ≡ due_of TooLong long_files_line) (due_of Done bytes ≡ due_of Done (shard_text (run s))) → shard_text (run s) ≡ bytes
  short_text s bytes true h = (let e : Done ≡ TooLong = status_of h in absurd (cc e))
  short_text s bytes false h = sym (ap (λ (x : ShardDue). x.bytes) h)

  by_span : (s : Span) (bytes : List ℕ) (b : Bool) → is_span (length spans) s ≡ b → MatchBool b (IsFile (shard_text (run s)) (due_of Done bytes)) (due_of Done bytes ≡ due_of BadSpan span_line) → IsRun s bytes
  by_span s bytes true e h =
      let each : (nat_le s.lo s.hi ≡ true) × (nat_le s.hi (length spans) ≡ true) = both (nat_le s.lo s.hi) (nat_le s.hi (length spans)) e in
      let low : nat_le s.lo s.hi ≡ true = each.0 in
      let high : nat_le s.hi (length spans) ≡ true = each.1 in
      record { ordered = grind (arith, nat_tests, low); within = grind (arith, nat_tests, high); text = short_text s bytes (nat_lt max_files (length (shard_text (run s)))) h }
  by_span s bytes false e h = (let same : Done ≡ BadSpan = status_of h in absurd (cc same))

  is_run : (s : Span) (bytes : List ℕ) → IsDueToTable fns size s script t (due_of Done bytes) → IsRun s bytes
  is_run s bytes h =
      by_span s bytes (is_span (length spans) s) refl
      (subst (λ o. MatchOption o (IsSpanDue fns script size s t (due_of Done bytes)) (λ refused. due_of Done bytes ≡ due_of ScriptRefused (graph_cause_line refused.0 refused.1))) checked.accepted h)

  is_text : (s : Span) (bytes : List ℕ) → IsRun s bytes → IsShardText bytes (run s)
  is_text s bytes r = record { text = r.text; valid = runs_are_shards script d spans s.lo s.hi checked leads r.ordered r.within }

  -- ---- the files of runs

  module _ (files : Files) where
    all_within : (names : List (List ℕ)) (parts : List Span) → HoldRuns fns script t size files names parts → All (λ (s : Span). (s.lo ≤ s.hi) × (s.hi ≤ length spans)) parts
    all_within [] [] h = All-nil (λ (s : Span). (s.lo ≤ s.hi) × (s.hi ≤ length spans))
    all_within [] (s ∷ parts) h = absurd h
    all_within (name ∷ names) [] h = absurd h
    all_within (name ∷ names) (s ∷ parts) h = All-cons (λ (s : Span). (s.lo ≤ s.hi) × (s.hi ≤ length spans)) s parts (one (files name) h.0) (all_within names parts h.1)
      where
        one : (o : Option (List ℕ)) → MatchOption o ⊥ (λ bytes. IsDueToTable fns size s script t (due_of Done bytes)) → (s.lo ≤ s.hi) × (s.hi ≤ length spans)
        one None k = absurd k
        one (Some bytes) k = (let r = is_run s bytes k in (r.ordered, r.within))

    -- what follows a file, where so many bytes were read before, and these shards
    abbrev Follow : ℕ → List ShardView → List (List ℕ) → (List ShardView → ShardDue → Type 0) → List ℕ → ShardView → ShardDue → Type 0
    Follow before found names Next bytes x due = WithShards files (before + length bytes) (found ++ x ∷ []) names Next due

    -- they are read
    are_read : (names : List (List ℕ)) (parts : List Span) (before : ℕ) (found : List ShardView) (Next : List ShardView → ShardDue → Type 0) (due : ShardDue)
        → HoldRuns fns script t size files names parts → before + bytes_in files names ≤ max_files → Next (found ++ map run parts) due → WithShards files before found names Next due
    are_read [] [] before found Next due h few next = subst (λ (all : List ShardView). Next all due) (append-nil found) next
    are_read [] (s ∷ parts) before found Next due h few next = absurd h
    are_read (name ∷ names) [] before found Next due h few next = absurd h
    are_read (name ∷ names) (s ∷ parts) before found Next due h few next =
        by_file (files name) refl h.0
        (λ bytes fits. are_read names parts (before + length bytes) (found ++ run s ∷ []) Next due h.1 fits (subst (λ (all : List ShardView). Next all due) (sym (append_assoc found (run s ∷ []) (map run parts))) next))
      where
        by_text : (bytes : List ℕ) (long : Bool) → long ≡ false → IsShardText bytes (run s) → Follow before found names Next bytes (run s) due
            → MatchBool long (due ≡ due_of TooLong long_files_line) (ReadsShard name bytes (Follow before found names Next bytes) due)
        by_text bytes true e is rest = absurd (cc e)
        by_text bytes false e is rest = inr (run s, is, rest)

        by_file : (o : Option (List ℕ)) → files name ≡ o → MatchOption o ⊥ (λ bytes. IsDueToTable fns size s script t (due_of Done bytes))
            → ((bytes : List ℕ) → before + length bytes + bytes_in files names ≤ max_files → Follow before found names Next bytes (run s) due)
            → MatchOption o (due ≡ due_of statuses.no_file (no_file_line name)) (λ bytes. WithShard name before bytes (Follow before found names Next bytes) due)
        by_file None e k rest = absurd k
        by_file (Some bytes) e k rest =
            let one = sum_by-cons (λ n. length (unwrap_or (files n) [])) name names in
            let here : length (unwrap_or (files name) []) ≡ length bytes = ap (λ o. length (unwrap_or o [])) e in
            let fits : before + length bytes + bytes_in files names ≤ max_files = omega (arith, one, here, few) in
            by_text bytes (nat_lt max_files (before + length bytes)) (le-ltb max_files (before + length bytes) (omega (arith, fits))) (is_text s bytes (is_run s bytes k)) (rest bytes fits)

  -- ---- merging

  abbrev g : GraphView
  g = graph_over fns script t.table.columns

  module _ (course : Course) (booked : IsGraph g) where
    abbrev unnoted : Course
    unnoted = record { spans = []; chains = λ l. [] }

    abbrev answer : Printed → ShardDue
    answer p = due_of (printed_status p.status) p.bytes

    abbrev all_loops : List ShardLoop
    all_loops = span_loops spans d 0 (length spans) (loops_of script)

    whole_text : merged_text g all_loops ≡ one_run fns script t size course
    whole_text = merged_run_prints_no_partials script d spans unnoted booked (λ l. refl) leads ∙ sym (dropped_watches_drop_partial_lines script d course unnoted (λ l. refl))

    are_merged : (names : List (List ℕ)) (s : Span) (parts : List Span) → merge_of (graph_shapes g) (run s ∷ map run parts) ≡ Ok all_loops → IsDueToShards fns names script (run s ∷ map run parts) (answer (one_run fns script t size course))
    are_merged names s parts h =
        let due : ShardDue = answer (one_run fns script t size course) in
        let shards : List ShardView = run s ∷ map run parts in
        let printed : IsPrinted g all_loops due = sym (ap answer whole_text) in
        let merged : IsMerged g names shards due = subst (λ r. MatchResult r (λ loops. IsPrinted g loops due) (λ why. due ≡ cause_due names why)) (sym h) printed in
        let accepted : WithAccepted fns script t.table.columns (λ e. IsMerged g names shards e) due =
        subst (λ o. MatchOption o (IsMerged g names shards due) (λ refused. due ≡ due_of ScriptRefused (graph_cause_line refused.0 refused.1))) (sym checked.accepted) merged in
        subst (λ o. MatchOption o (WithAccepted fns script t.table.columns (λ e. IsMerged g names shards e) due) (λ file. due ≡ due_of FilesDiffer (differs_line (name_at names file))))
        (sym (no_other (graph_shapes g) (run s) (map run parts) all_loops h)) accepted

    all_merged : (names : List (List ℕ)) (parts : List Span) → 0 < length parts → All (λ (s : Span). (s.lo ≤ s.hi) × (s.hi ≤ length spans)) parts → CoverOnce fns script t size parts
        → IsDueToShards fns names script (map run parts) (answer (one_run fns script t size course))
    all_merged names [] some within covered = absurd (omega arith)
    all_merged names (s ∷ parts) some within covered = are_merged names s parts (runs_merge_to_one_run script d spans (s ∷ parts) checked leads some within covered)

-- ---- the script's file

-- a file that holds a script is due what follows
with_script : (name : List ℕ) (script : Script) (Next : Script → ShardDue → Type 0) (due : ShardDue) (file : Option (List ℕ)) → HoldsTheScript script file → Next script due → WithScriptFile statuses name file Next due
with_script name script Next due None h next = absurd h
with_script name script Next due (Some bytes) h next = go (nat_lt max_script (length bytes)) (le-ltb max_script (length bytes) h.0)
  where
    go : (long : Bool) → long ≡ false → MatchBool long (due ≡ due_of statuses.script_refused long_script_line) (ReadsScript statuses bytes Next due)
    go true e = absurd (cc e)
    go false e = inr (script, h.1, next)

bookable : (script : Script) (file : Option (List ℕ)) (fns : List Function) (t : MarkedTable) → HoldsTheScript script file → IsChecked script (dataset_of fns t) → IsGraph (graph_over fns script t.table.columns)
bookable script None fns t h checked = absurd h
bookable script (Some bytes) fns t h checked = record { header = checked.header; bookable = scripts_are_bookable bytes script h.0 h.1; accepted = checked.accepted }

pub merging_is_due_the_transcript : MergingIsDueTheTranscript
merging_is_due_the_transcript fns script t size parts m files course checked holds some runs covered few =
    let printed : Printed = one_run fns script t size course in
    let due : ShardDue = due_of (printed_status printed.status) printed.bytes in
    with_script m.script script (λ s d. WithShards files 0 [] m.files (λ shards e. IsDueToShards fns m.files s shards e) d) due (files m.script) holds
    (are_read fns script t size checked files m.files parts 0 [] (λ shards e. IsDueToShards fns m.files script shards e) due runs (omega (arith, few))
    (all_merged fns script t size checked course (bookable script (files m.script) fns t holds checked) m.files parts some (all_within fns script t size checked files m.files parts runs) covered))

-- Tables of a chain, one after the other.
use Rattle.lemmas.proofs.{◌≡◌, ◌≤◌, ◌<◌, ◌+◌, inl, ℕ, zero, suc, Bool, true, false, List, [], ◌∷◌, ◌++◌, length, drop, map, Option, None, Some, IfSome, arith, ap, ap₂, refl, sym, subst, ◌∙◌, slice_get, All-from_recursion, AllByRecursion, both_true, bytes_eq-Decides, length-append, length-map, list_all, map-append, MatchBool}
use Rattle.rdf_values.specs.{AnswerIn64Bits, ColType, Column, FitRows, fn_names, Function, history, is_name, IsHeader, IsTable, MarkedTable, same, Script, StatementsHaveWords, TableView, Value, verdict}
use Rattle.rdf_model.specs.{Printed}
use Rattle.graph_numbers.specs.{GraphView}
use Rattle.shard_files.specs.{same_column, same_columns, same_kind}
use Rattle.columns.specs.Views.{ColumnsView}
use Rattle.shard_loop.specs.{table_of}
use Rattle.shard_spans.specs.{loops_of, pass_shapes}
use Rattle.shard_runs.specs.Kinds as runs
use Rattle.shard_runs.specs.{IsChecked}
use Rattle.graph_shapes.specs.{graph_shapes, pass_kind}
use Rattle.input_files.specs.{due_of, HoldsTheTable, Tells}
use Rattle.chain_files.specs.{are_loops, IsPart, joined_loops, PartLoop, PartView}
use Rattle.chain_runs.specs.{alone, AreChecked, Chain, chain_loops, chain_part, one_table, with_rows}
use Rattle.chain_runs.proofs.Joining.{chains_join}
use Rattle.chain_runs.proofs.Parts.{chains_are_part}
use Rattle.chain_runs.proofs.Shapes.{chains_have_shapes}
use Rattle.chain_text.specs.{chain_text, FitGraph}
use Rattle.chain_text.proofs.Fitting.{shaped_loops_fit}
use Rattle.chain_due.specs.{chain_of, ChainDue, differs_line, Files, graph_over, IsRunOver, printed_over, printed_status, WithAccepted, WithTableFile, WithTables}
use Rattle.chain_due.specs.declared.status.ChainStatus.TheVariants.{FilesDiffer}
use Rattle.chain_program.specs.{AreRun, IsAnswer, IsBookedOver, IsFirstOf, IsNext, IsOfFiles, IsOver, IsRunEnd}
use Rattle.chain_program.specs.declared.answer.Answer.{Answer}
use Rattle.chain_program.specs.declared.booking.Booked.{Booked}
use Rattle.chain_program.specs.declared.first_table.FirstTable.{FirstTable}
use Rattle.chain_program.proofs.Staging.{accepted_goes, all_told, both_told, each_told, from_told, goes_on, if_true, of_files, table_goes, table_instead}
use Rattle.chain_program.proofs.Turning.{left_from, none_from}

-- ---- columns that are the same

kinds_equal : (a b : ColType) → same_kind a b ≡ true → a ≡ b
kinds_equal ColType.Int ColType.Int h = refl
kinds_equal ColType.Int ColType.Bool h = cc h
kinds_equal ColType.Int ColType.Vect h = cc h
kinds_equal ColType.Bool ColType.Int h = cc h
kinds_equal ColType.Bool ColType.Bool h = refl
kinds_equal ColType.Bool ColType.Vect h = cc h
kinds_equal ColType.Vect ColType.Int h = cc h
kinds_equal ColType.Vect ColType.Bool h = cc h
kinds_equal ColType.Vect ColType.Vect h = refl

column_equal : (c d : Column) → same_column c d ≡ true → c ≡ d
column_equal c d h =
    let both = both_true (same c.name d.name) (same_kind c.kind d.kind) h in
    ap₂ (λ n t. record { name = n; kind = t }) ((bytes_eq-Decides c.name d.name).0 both.0) (kinds_equal c.kind d.kind both.1)

pub columns_equal : (cs ds : List Column) → same_columns cs ds ≡ true → cs ≡ ds
columns_equal [] [] h = refl
columns_equal [] (d ∷ ds) h = cc h
columns_equal (c ∷ cs) [] h = cc h
columns_equal (c ∷ cs) (d ∷ ds) h = let both = both_true (same_column c d) (same_columns cs ds) h in ap₂ (λ x xs. x ∷ xs) (column_equal c d both.0) (columns_equal cs ds both.1)

-- the rows of a table
abbrev rows_in : MarkedTable → List (List Value)
rows_in t = t.table.rows

module _ (fns : List Function) (script : Script) where
  -- ---- the first table

  pub over_of : (file : ℕ) (t : MarkedTable) (b : Booked) (f : FirstTable) → IsBookedOver fns script t b → IsFirstOf fns file b f → IsOver fns script file t f
  over_of file t b f h g = record {
    accepted = h.accepted;
    table = subst IsTable h.columns g.table;
    graph = g.graph ∙ h.graph;
    columns = g.columns ∙ ap (λ (x : TableView). x.columns) h.columns;
    named = subst (λ (x : TableView). list_all (λ (c : Column). is_name c.name) x.columns ≡ true) h.columns g.named;
    entries = g.entries ∙ ap (λ (x : TableView). length x.rows) h.columns;
    loops = g.loops
        ∙ ap₂ (λ (x : TableView) (s : Script). chain_loops (record { fns = fns; columns = x.columns; tables = x.rows ∷ [] }) file (loops_of s)) h.columns (ap (λ (v : GraphView). v.script) h.graph);
  }

  -- a further table, by its columns
  pub next_of : (header : List Column) (file : ℕ) (t : MarkedTable) (own its : List Column) (c : ColumnsView) (loops : List PartLoop) → own ≡ header → its ≡ c.table.columns → c.table ≡ t.table → IsTable c.table → same_columns own its ≡ true
      → loops ≡ chain_loops (alone (table_of c fns)) file (loops_of script) → IsNext fns script header file t loops
  next_of header file t own its c loops o i same table tested found =
      let columns : its ≡ t.table.columns = i ∙ ap (λ (x : TableView). x.columns) same in
      let equal : t.table.columns ≡ header = sym columns ∙ sym (columns_equal own its tested) ∙ o in
      record {
        table = subst IsTable same table;
        same = equal;
        tested = ap₂ (λ a b. same_columns a b) (sym o) (sym columns) ∙ tested;
        found = found ∙ ap (λ (x : TableView). chain_loops (record { fns = fns; columns = x.columns; tables = x.rows ∷ [] }) file (loops_of script)) same
            ∙ ap (λ (cs : List Column). chain_loops (record { fns = fns; columns = cs; tables = t.table.rows ∷ [] }) file (loops_of script)) equal;
      }

  -- what is due behind the first table
  first_goes : (files : Files) (names : List (List ℕ)) (name : List ℕ) (t : MarkedTable) (d : ChainDue) → slice_get names 0 ≡ Some name → HoldsTheTable t (files name) → verdict (fn_names fns) t.table.columns script ≡ None
      → WithTables files t.table.columns (t ∷ []) (drop 1 names) (IsRunEnd fns script t.table.columns) d → IsRunOver fns script names files d
  first_goes files [] name t d at hold accepted next = absurd (cc at)
  first_goes files (first ∷ names) name t d at hold accepted next =
      let same : first ≡ name = cc at in
      table_goes files first t (λ u e. WithAccepted fns script u.table.columns (λ g. WithTables files u.table.columns (u ∷ []) names (IsRunEnd fns script u.table.columns) g) e) d (subst (λ n. HoldsTheTable t (files n)) (sym same) hold)
      (accepted_goes fns script t.table.columns (λ g. WithTables files t.table.columns (t ∷ []) names (IsRunEnd fns script t.table.columns) g) d accepted next)

  pub begin_run : (told : Option Files) (names : List (List ℕ)) (name : List ℕ) (t : MarkedTable) (f : FirstTable) → slice_get names 0 ≡ Some name → Tells told name (HoldsTheTable t) → IsOver fns script 0 t f
      → AreRun fns script t.table.columns told names 1 f.loops
  begin_run told names name t f at hold over = record {
    found = t ∷ [];
    many = refl;
    tables = ((over.table, refl), tt);
    joined = over.loops;
    due = from_told told name (HoldsTheTable t) (λ files. (d : ChainDue) → WithTables files t.table.columns (t ∷ []) (drop 1 names) (IsRunEnd fns script t.table.columns) d → IsRunOver fns script names files d) hold
        (λ files h d next. first_goes files names name t d at h over.accepted next);
  }

  -- ---- one table more

  module _ (columns : List Column) where
    abbrev over : List MarkedTable → Chain
    over found = chain_of fns columns found

    joined_more : (found : List MarkedTable) (t : MarkedTable) (place : ℕ) (g : GraphView) → g.script ≡ script → length found ≡ place
        → joined_loops (graph_shapes g) (chain_loops (over found) 0 (loops_of script)) (chain_loops (over (t ∷ [])) place (loops_of script)) ≡ chain_loops (over (found ++ t ∷ [])) 0 (loops_of script)
    joined_more found t place g is many =
        let law = ap (λ (s : PartView). s.loops) (chains_join [] script (over found) (t.table.rows ∷ []) 0 (pass_kind g)) in
        let long = length-map found rows_in in
        let count : 0 + length (map rows_in found) ≡ place = omega (arith, long, many) in
        let from_there = ap (λ n. joined_loops (map (pass_shapes (pass_kind g)) (loops_of script)) (chain_loops (over found) 0 (loops_of script)) (chain_loops (over (t ∷ [])) n (loops_of script))) (sym count) in
        let shapes = ap (λ (s : Script). joined_loops (map (pass_shapes (pass_kind g)) (loops_of s)) (chain_loops (over found) 0 (loops_of script)) (chain_loops (over (t ∷ [])) place (loops_of script))) is in
        shapes ∙ from_there ∙ law ∙ ap (λ tables. chain_loops (record { fns = fns; columns = columns; tables = tables }) 0 (loops_of script)) (sym (map-append rows_in found (t ∷ [])))

    all_more : (P : MarkedTable → Type 0) (found : List MarkedTable) (t : MarkedTable) → AllByRecursion P found → P t → AllByRecursion P (found ++ t ∷ [])
    all_more P [] t h p = (p, tt)
    all_more P (s ∷ found) t h p = (h.0, all_more P found t h.1 p)

    -- what is due from the next table on is due
    next_goes : (files : Files) (found : List MarkedTable) (name : List ℕ) (rest : List (List ℕ)) (t : MarkedTable) (d : ChainDue) → HoldsTheTable t (files name) → same_columns columns t.table.columns ≡ true
        → WithTables files columns (found ++ t ∷ []) rest (IsRunEnd fns script columns) d → WithTables files columns found (name ∷ rest) (IsRunEnd fns script columns) d
    next_goes files found name rest t d hold tested next =
        table_goes files name t (λ u e. MatchBool (same_columns columns u.table.columns) (WithTables files columns (found ++ u ∷ []) rest (IsRunEnd fns script columns) e) (e ≡ due_of FilesDiffer (differs_line name))) d hold
        (if_true (same_columns columns t.table.columns) (WithTables files columns (found ++ t ∷ []) rest (IsRunEnd fns script columns) d) (d ≡ due_of FilesDiffer (differs_line name)) tested next)

    pub one_more : (told : Option Files) (names : List (List ℕ)) (place : ℕ) (name : List ℕ) (t : MarkedTable) (g : GraphView) (loops more all : List PartLoop) → g.script ≡ script → place < length names → slice_get names place ≡ Some name
        → Tells told name (HoldsTheTable t) → IsNext fns script columns place t more → all ≡ joined_loops (graph_shapes g) loops more → AreRun fns script columns told names place loops → AreRun fns script columns told names (place + 1) all
    one_more told names place name t g loops more all is lt at hold next e h = record {
      found = h.found ++ t ∷ [];
      many = length-append h.found (t ∷ []) ∙ ap (λ n. n + 1) h.many;
      tables = all_more (λ (u : MarkedTable). IsTable u.table × (u.table.columns ≡ columns)) h.found t h.tables (next.table, next.same);
      joined = e ∙ ap₂ (λ ls ms. joined_loops (graph_shapes g) ls ms) h.joined next.found ∙ joined_more h.found t place g is h.many;
      due = both_told told (λ files. HoldsTheTable t (files name)) (λ files. (d : ChainDue) → WithTables files columns h.found (drop place names) (IsRunEnd fns script columns) d → IsRunOver fns script names files d)
          (λ files. (d : ChainDue) → WithTables files columns (h.found ++ t ∷ []) (drop (place + 1) names) (IsRunEnd fns script columns) d → IsRunOver fns script names files d)
          (from_told told name (HoldsTheTable t) (λ files. HoldsTheTable t (files name)) hold (λ files x. x)) h.due
          (λ files holds due d rest. due d (subst (λ l. WithTables files columns h.found l (IsRunEnd fns script columns) d) (sym (left_from names place name lt at)) (next_goes files h.found name (drop (place + 1) names) t d holds next.tested rest)));
    }

    -- the answer where a table is refused
    next_stops : (files : Files) (found : List MarkedTable) (name : List ℕ) (rest : List (List ℕ)) (d : ChainDue)
        → WithTableFile files name (λ t e. MatchBool (same_columns columns t.table.columns) ⊥ (e ≡ due_of FilesDiffer (differs_line name))) d → WithTables files columns found (name ∷ rest) (IsRunEnd fns script columns) d
    next_stops files found name rest d h =
        table_instead files name (λ t e. MatchBool (same_columns columns t.table.columns) ⊥ (e ≡ due_of FilesDiffer (differs_line name)))
        (λ u e. MatchBool (same_columns columns u.table.columns) (WithTables files columns (found ++ u ∷ []) rest (IsRunEnd fns script columns) e) (e ≡ due_of FilesDiffer (differs_line name))) d
        (λ t. go (same_columns columns t.table.columns) (WithTables files columns (found ++ t ∷ []) rest (IsRunEnd fns script columns) d)) h
      where
        go : (b : Bool) (P : Type 0) → MatchBool b ⊥ (d ≡ due_of FilesDiffer (differs_line name)) → MatchBool b P (d ≡ due_of FilesDiffer (differs_line name))
        go true P e = absurd e
        go false P e = e

    pub run_stops : (told : Option Files) (turns : List (List ℕ)) (f0 f1 f2 : ℕ) (a : Answer) (names : List (List ℕ)) (place : ℕ) (name : List ℕ) (loops : List PartLoop) → f0 ≤ f1 → place < length names → slice_get names place ≡ Some name
        → AreRun fns script columns told names place loops
        → IsAnswer (λ files d. WithTableFile files name (λ t e. MatchBool (same_columns columns t.table.columns) ⊥ (e ≡ due_of FilesDiffer (differs_line name))) d) told turns f1 f2 a
        → IsAnswer (IsRunOver fns script names) told turns f0 f2 a
    run_stops told turns f0 f1 f2 a names place name loops le lt at h stop =
        goes_on told turns f0 f1 f2 a (λ files d. WithTableFile files name (λ t e. MatchBool (same_columns columns t.table.columns) ⊥ (e ≡ due_of FilesDiffer (differs_line name))) d) (IsRunOver fns script names)
        (each_told told (λ files. (d : ChainDue) → WithTables files columns h.found (drop place names) (IsRunEnd fns script columns) d → IsRunOver fns script names files d)
        (λ files. (d : ChainDue) → WithTableFile files name (λ t e. MatchBool (same_columns columns t.table.columns) ⊥ (e ≡ due_of FilesDiffer (differs_line name))) d → IsRunOver fns script names files d)
        (λ files due d e. due d (subst (λ l. WithTables files columns h.found l (IsRunEnd fns script columns) d) (sym (left_from names place name lt at)) (next_stops files h.found name (drop (place + 1) names) d e))) h.due)
        le stop

    -- ---- all tables

    -- what all checks before the loops give
    pub record IsKnown : Type 0 where
      pub accepted : verdict (fn_names fns) columns script ≡ None
      pub words : StatementsHaveWords (history script)
      pub answers : AnswerIn64Bits fns
      pub named : list_all (λ (c : Column). is_name c.name) columns ≡ true

    each_checked : IsKnown → (found : List MarkedTable) → AllByRecursion (λ (t : MarkedTable). IsTable t.table × (t.table.columns ≡ columns)) found → AllByRecursion (λ rows. IsChecked script (with_rows (over found) rows)) (map rows_in found)
    each_checked known found h = go found h
      where
        go : (ts : List MarkedTable) → AllByRecursion (λ (t : MarkedTable). IsTable t.table × (t.table.columns ≡ columns)) ts → AllByRecursion (λ rows. IsChecked script (with_rows (over found) rows)) (map rows_in ts)
        go [] h = tt
        go (t ∷ ts) h = (
          record {
            accepted = known.accepted;
            words = known.words;
            answers = known.answers;
            header = subst IsHeader h.0.1 h.0.0.header;
            named = known.named;
            fit = subst (λ (cs : List Column). FitRows cs t.table.rows) h.0.1 h.0.0.fit;
            few = h.0.0.few;
          },
          go ts h.1,
        )

    pub checked : IsKnown → (found : List MarkedTable) → AllByRecursion (λ (t : MarkedTable). IsTable t.table × (t.table.columns ≡ columns)) found → AreChecked script (over found)
    checked known found h = All-from_recursion (λ rows. IsChecked script (with_rows (over found) rows)) (map rows_in found) (each_checked known found h)

    pub loops_fit : (g : GraphView) (told : Option Files) (names : List (List ℕ)) (place : ℕ) (loops : List PartLoop) → g.script ≡ script → 0 < place → place ≤ 16384 → IsKnown → AreRun fns script columns told names place loops → FitGraph g loops
    loops_fit g told names place loops is some few known h =
        let found = h.found in
        let each = checked known found h.tables in
        let count : length (over found).tables ≡ place = length-map found rows_in ∙ h.many in
        let any : 0 < length (over found).tables = subst (λ n. 0 < n) (sym count) some in
        let below : 0 + length (over found).tables ≤ 16777216 = subst (λ n. 0 + n ≤ 16777216) (sym count) (omega (arith, few)) in
        let part : PartView = chain_part [] script (over found) 0 in
        let is_part : IsPart part = chains_are_part [] script (over found) 0 each any below in
        let shaped = chains_have_shapes [] script (over found) 0 each any in
        let fit = shaped_loops_fit g (runs.pass_kind (one_table (over found))) part is_part (subst (λ (s : Script). are_loops (map (pass_shapes (runs.pass_kind (one_table (over found)))) (loops_of s)) part.loops ≡ true) (sym is) shaped) in
        subst (FitGraph g) (sym h.joined) fit

    -- what is printed is due
    pub run_printed : (g : GraphView) (told : Option Files) (names : List (List ℕ)) (loops : List PartLoop) (status : ℕ) (bytes : List ℕ) → g ≡ graph_over fns script columns → status ≡ (chain_text g loops).status → bytes ≡ (chain_text g loops).bytes
        → AreRun fns script columns told names (length names) loops → IfSome told (λ files. IsRunOver fns script names files (due_of (printed_status status) bytes))
    run_printed g told names loops status bytes is s b h =
        let all : chain_text g loops ≡ printed_over fns script columns h.found = ap₂ (λ v ls. chain_text v ls) is h.joined in
        let due : due_of (printed_status status) bytes ≡ due_of (printed_status (printed_over fns script columns h.found).status) (printed_over fns script columns h.found).bytes
        = ap₂ (λ n (l : List ℕ). due_of (printed_status n) l) (s ∙ ap (λ (p : Printed). p.status) all) (b ∙ ap (λ (p : Printed). p.bytes) all) in
        each_told told (λ files. (d : ChainDue) → WithTables files columns h.found (drop (length names) names) (IsRunEnd fns script columns) d → IsRunOver fns script names files d) (λ files. IsRunOver fns script names files (due_of (printed_status status) bytes))
        (λ files step. step (due_of (printed_status status) bytes) (subst (λ l. WithTables files columns h.found l (IsRunEnd fns script columns) (due_of (printed_status status) bytes)) (sym (none_from names (length names) (omega arith))) due)) h.due

-- ---- by the graph over the first table

module _ (fns : List Function) (script : Script) (t : MarkedTable) (f : FirstTable) (over : IsOver fns script 0 t f) where
  known_of : StatementsHaveWords (history script) → AnswerIn64Bits fns → IsKnown fns f.graph.script f.graph.header
  known_of words answers = subst (λ (v : GraphView). IsKnown fns v.script v.header) (sym over.graph) (record { accepted = over.accepted; words = words; answers = answers; named = over.named })

  pub run_begins : (told told' : Option Files) (names names' : List (List ℕ)) (name : List ℕ) → told' ≡ told → names' ≡ names → slice_get names 0 ≡ Some name → Tells told name (HoldsTheTable t)
      → AreRun fns f.graph.script f.graph.header told' names' 1 f.loops
  run_begins told told' names names' name a b at hold =
      subst (λ (v : GraphView). AreRun fns v.script v.header told' names' 1 f.loops) (sym over.graph)
      (subst (λ ns. AreRun fns script t.table.columns told' ns 1 f.loops) (sym b) (subst (λ o. AreRun fns script t.table.columns o names 1 f.loops) (sym a) (begin_run fns script told names name t f at hold over)))

  pub graph_fits : (told : Option Files) (names names' : List (List ℕ)) (loops loops' : List PartLoop) → names' ≡ names → 0 < length names → length names ≤ 16384 → StatementsHaveWords (history script) → AnswerIn64Bits fns
      → AreRun fns f.graph.script f.graph.header told names' (length names') loops → loops' ≡ loops → FitGraph f.graph loops'
  graph_fits told names names' loops loops' e some few words answers h same =
      subst (FitGraph f.graph) (sym same)
      (loops_fit fns f.graph.script f.graph.header f.graph told names' (length names') loops refl (subst (λ ns. 0 < length ns) (sym e) some) (subst (λ ns. length ns ≤ 16384) (sym e) few) (known_of words answers) h)

  -- what is printed is the answer
  pub run_answers : (told told' : Option Files) (names names' turns : List (List ℕ)) (f0 f1 n : ℕ) (a : Answer) (loops loops' : List PartLoop) → told' ≡ told → names' ≡ names → AreRun fns f.graph.script f.graph.header told' names' (length names') loops → loops' ≡ loops
      → a.status ≡ printed_status n → n ≡ (chain_text f.graph loops').status → a.text ≡ (chain_text f.graph loops').bytes → IsAnswer (IsRunOver fns script names) told turns f0 f1 a
  run_answers told told' names names' turns f0 f1 n a loops loops' e i h same s m b =
      let moved = subst (λ ns. AreRun fns f.graph.script f.graph.header told ns (length ns) loops) i (subst (λ o. AreRun fns f.graph.script f.graph.header o names' (length names') loops) e h) in
      let run = subst (λ (v : GraphView). AreRun fns v.script v.header told names (length names) loops) over.graph moved in
      let status : n ≡ (chain_text f.graph loops).status = m ∙ ap (λ ls. (chain_text f.graph ls).status) same in
      let bytes : a.text ≡ (chain_text f.graph loops).bytes = b ∙ ap (λ ls. (chain_text f.graph ls).bytes) same in
      inl (
        of_files a.status (printed_status n) (printed_is_of_files n) s,
        each_told told (λ files. IsRunOver fns script names files (due_of (printed_status n) a.text)) (λ files. IsRunOver fns script names files (due_of a.status a.text))
            (λ files d. subst (λ k. IsRunOver fns script names files (due_of k a.text)) (sym s) d) (run_printed fns script t.table.columns f.graph told names loops n a.text over.graph status bytes run),
      )
    where
      printed_is_of_files : (k : ℕ) → IsOfFiles (printed_status k)
      printed_is_of_files zero = tt
      printed_is_of_files (suc k) = tt

  -- another table is refused
  pub run_refused : (told told' : Option Files) (names names' turns : List (List ℕ)) (f0 f1 f2 : ℕ) (a : Answer) → told' ≡ told → names' ≡ names → f0 ≤ f1 → IsAnswer (IsRunOver fns f.graph.script names') told' turns f1 f2 a → IsAnswer (IsRunOver fns script names) told turns f0 f2 a
  run_refused told told' names names' turns f0 f1 f2 a e i le h =
      let moved = subst (λ ns. IsAnswer (IsRunOver fns f.graph.script ns) told turns f1 f2 a) i (subst (λ o. IsAnswer (IsRunOver fns f.graph.script names') o turns f1 f2 a) e h) in
      goes_on told turns f0 f1 f2 a (IsRunOver fns script names) (IsRunOver fns script names) (all_told told (λ files. (d : ChainDue) → IsRunOver fns script names files d → IsRunOver fns script names files d) (λ files d k. k)) le
      (subst (λ (v : GraphView). IsAnswer (IsRunOver fns v.script names) told turns f1 f2 a) over.graph moved)

-- What is known of a whole run.
use Rattle.lemmas.proofs.{◌≡◌, ℕ, ◌≤◌, ◌++◌, List, [], ◌∷◌, length, map, Option, None, Some, Ok, Err, refl, sym, ap, ap₂, ◌∙◌, subst, flat_map, option_map, Result, flat_map-append, length-map}
use Rattle.rdf_values.specs.{Column, Fault, first_in, fn_names, FunctionNames, IsTable, Lead, Span, TableView, Value}
use Rattle.rdf_values.proofs.Evenly.{cuts_lead}
use Rattle.rdf_model.specs.{Dataset}
use Rattle.columns.specs.Views.{CutsView}
use Rattle.graph_numbers.specs.{graph_of, GraphView, IsGraph}
use Rattle.snapshot_plan.specs.{IsPlan, plan_columns, PlanView}
use Rattle.snapshot_text.specs.{entries_text, entry_text, header_text, table_text}
use Rattle.snapshot_rows.specs.{plan_path, SnapFault, snapshot_entries, snapshot_fault, unless_fault}
use Rattle.snapshot_entries.specs.{IsWork, plan_graph, rows_of}
use Rattle.snapshot_pieces.specs.{AreFacts, HasAll, IsOutcome, SnapshotOutcome}
use Rattle.snapshot_run.specs.{AreRecords, as_fault, facts_of, IsRun, IsTogether, most_bytes, spans_of}
use Rattle.snapshot_run.specs.declared.stop.SnapStop.{SnapStop}
use Rattle.snapshot_run.proofs.Clusters.{first_cluster, in_entry_order, kept_of_all}

-- ---- texts

texts_join : (g : Span → List (List Value)) (spans : List Span) → flat_map (λ t. t) (map (λ (s : Span). entries_text (g s)) spans) ≡ entries_text (flat_map g spans)
texts_join g [] = refl
texts_join g (s ∷ ss) = ap (λ l. entries_text (g s) ++ l) (texts_join g ss) ∙ sym (flat_map-append entry_text (g s) (flat_map g ss))

-- ---- faults

fault_as : (o : Option SnapFault) (f : Fault) → option_map as_fault o ≡ Some f → o ≡ Some (record { entry = f.entry; kind = f.kind })
fault_as None f h = cc h
fault_as (Some g) f h = let same : as_fault g ≡ f = cc h in ap (λ (x : Fault). Some (record { entry = x.entry; kind = x.kind })) same

none_as : (o : Option SnapFault) → option_map as_fault o ≡ None → o ≡ None
none_as None h = refl
none_as (Some g) h = cc h

-- ---- the clusters of a table

module _ (p : PlanView) (d : Dataset) (cuts : CutsView) (all : cuts.entries ≡ length d.rows) where
  leads : Lead 0 (length d.rows) (spans_of cuts)
  leads = subst (λ (k : ℕ). Lead 0 k (spans_of cuts)) all (cuts_lead cuts.entries cuts.size cuts.marks)

  pub are_facts : (n : ℕ) → n ≡ length (spans_of cuts) → AreFacts n (facts_of p d (spans_of cuts))
  are_facts n is = record {
    faults = length-map (spans_of cuts) (λ (s : Span). option_map as_fault (snapshot_fault p d s.lo (rows_of d s))) ∙ sym is;
    texts = length-map (spans_of cuts) (λ (s : Span). entries_text (snapshot_entries p d (rows_of d s))) ∙ sym is;
    order = in_entry_order d (plan_path p) p.columns p.under (spans_of cuts) leads;
  }

  first_is : first_in (facts_of p d (spans_of cuts)).faults ≡ option_map as_fault (snapshot_fault p d 0 d.rows)
  first_is = first_cluster d (plan_path p) p.columns p.under (spans_of cuts) leads

  pub is_fault : (end : SnapshotOutcome) (fault : Fault) → IsOutcome (facts_of p d (spans_of cuts)) end → end ≡ SnapshotOutcome.Faulted fault → AreRecords p d (Err (SnapStop.Fault fault.entry fault.kind))
  is_fault end fault ended is = fault_as (snapshot_fault p d 0 d.rows) fault (sym first_is ∙ subst (IsOutcome (facts_of p d (spans_of cuts))) is ended)

  pub has_all : (end : SnapshotOutcome) (ps : _) → IsOutcome (facts_of p d (spans_of cuts)) end → end ≡ SnapshotOutcome.Made ps → HasAll (facts_of p d (spans_of cuts)) ps
  has_all end ps ended is = (subst (IsOutcome (facts_of p d (spans_of cuts))) is ended).1

  pub are_records : (end : SnapshotOutcome) (ps : _) (texts : List (List ℕ)) → IsOutcome (facts_of p d (spans_of cuts)) end → end ≡ SnapshotOutcome.Made ps → texts ≡ (facts_of p d (spans_of cuts)).texts → AreRecords p d (Ok texts)
  are_records end ps texts ended is same = (
    none_as (snapshot_fault p d 0 d.rows) (sym first_is ∙ (subst (IsOutcome (facts_of p d (spans_of cuts))) is ended).0),
    ap (flat_map (λ t. t)) same ∙ texts_join (λ (s : Span). snapshot_entries p d (rows_of d s)) (spans_of cuts) ∙ ap entries_text (kept_of_all d (plan_path p) p.columns p.under (spans_of cuts) leads),
  )

-- ---- the work

-- a graph is its script, its header and its names
graph_is : (graph : GraphView) (d : Dataset) → graph.header ≡ d.columns → graph.names ≡ fn_names d.fns → graph ≡ graph_of graph.script d
graph_is graph d header names = ap₂ (λ (h : List Column) (n : FunctionNames). record { script = graph.script; header = h; names = n }) header names

pub is_work : (p : PlanView) (d : Dataset) → p.graph.header ≡ d.columns → p.graph.names ≡ fn_names d.fns → IsGraph p.graph → IsPlan p → IsTable (record { columns = d.columns; rows = d.rows }) → IsWork p d
is_work p d header names booked planned table =
    let same : p.graph ≡ plan_graph p d = graph_is p.graph d header names in
    record { graph = same; booked = subst IsGraph same booked; planned = planned; table = table }

-- ---- the answer

module _ (p : PlanView) (d : Dataset) where
  abbrev table : TableView
  table = record { columns = plan_columns p; rows = snapshot_entries p d d.rows }

  pub is_run : (texts : List (List ℕ)) (r : Result (List ℕ) SnapStop) → AreRecords p d (Ok texts) → IsTogether (header_text (plan_columns p) ++ flat_map (λ t. t) texts) r → IsRun p d r
  is_run texts (Ok text) h t =
      let whole : header_text (plan_columns p) ++ flat_map (λ t. t) texts ≡ table_text table = ap (λ l. header_text (plan_columns p) ++ l) h.1 in
      (table, ap (unless_fault table) h.0, t.0 ∙ whole, subst (λ (l : List ℕ). length l ≤ most_bytes) (sym t.0) t.1)
  is_run texts (Err (SnapStop.Fault entry kind)) h t = absurd t
  is_run texts (Err (SnapStop.TooLong bytes)) h t =
      let whole : header_text (plan_columns p) ++ flat_map (λ t. t) texts ≡ table_text table = ap (λ l. header_text (plan_columns p) ++ l) h.1 in
      (table, ap (unless_fault table) h.0, t.0 ∙ ap length whole, t.1)
  is_run texts (Err SnapStop.Memory) h t = tt

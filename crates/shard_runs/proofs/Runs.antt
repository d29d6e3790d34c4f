-- What a run over a span finds is a shard.
use Rattle.lemmas.proofs.{◌≡◌, ℕ, ◌*◌, ◌<◌, ◌≤◌, List, [], ◌∷◌, ◌++◌, length, map, Option, None, Some, refl, arith, length-append, flat_map, slice_get, AllByRecursion, count_by-le-length, length-map, recursion_from_All}
use Rattle.rdf_values.specs.{ActionAt, ActionKind, AreAccepted, Booked, Booking, ColType, Fault, FitRows, fn_names, history, Item, Lead, Pass, Path, ReportOn, scope_of, Script, Span, Under, Value}
use Rattle.rdf_model.specs.{cutflow, Dataset, FitsAction, items_of, loop_passes, loop_results, passes_filters, rows_in}
use Rattle.rdf_model.proofs.Accepted.{verdict_is_the_first_refusal}
use Rattle.loop_pieces.specs.{begin_of, counts_of}
use Rattle.shard_lines.specs.{EachFits, FitLines, FitsCount, FitsLine}
use Rattle.shard_files.specs.{fault_or_lines, FitLoops, shard_limits, up_to_fault}
use Rattle.shard_spans.specs.{booking_line, clusters_in, loops_of, over_span, pass_line, span_fault, span_loops}
use Rattle.shard_runs.specs.{booking_kind, IsChecked, RunsAreShards}
use Rattle.shard_runs.proofs.Lines.{AreFew, AreWide, IsOfKind, TakesAre, items_line}
use Rattle.shard_runs.proofs.Loops.{IsLoop, few_passes, few_variations, loops_are, passes_are, some_passes}
use Rattle.shard_runs.proofs.Rows.{end_within, fault_within, few_clusters, few_rows, rows_fit}
use Rattle.shard_runs.proofs.Sums.{all_both}
use Rattle.shard_runs.proofs.Takes.{FeedsWell, feeds_well}

-- ---- lines

takes_none : (t : ColType) (k : ActionKind) → TakesAre t k []
takes_none t (ActionKind.Take c) = tt
takes_none t k = tt

takes_both : (t : ColType) (k : ActionKind) (xs ys : List Item) → TakesAre t k xs → TakesAre t k ys → TakesAre t k (xs ++ ys)
takes_both t (ActionKind.Take c) xs ys h k = all_both (IsOfKind t) xs ys h k
takes_both t action xs ys h k = tt

-- what a million entries come to is within the limits of shards
wide : AreWide shard_limits 4096000000
wide = record { sum = omega arith; cell_sum = omega arith; cell_squares = omega arith }

are_few : (k : ActionKind) (items : List Item) → length items ≤ 4096000000 → AreFew shard_limits k items
are_few ActionKind.Count items h = omega arith
are_few (ActionKind.Take c) items h = tt
are_few k items h = tt

-- what rows feed to an action, all together
pub record AreFed (t : ColType) (k : ActionKind) (rows : ℕ) (items : List Item) : Type 0 where
  pub few : length items ≤ rows * 4096
  pub fit : AllByRecursion (FitsAction k) items
  pub takes : TakesAre t k items

module _ (d : Dataset) where
  pub fed : (k : ActionKind) (at : Path) (u : Under) → FeedsWell d (ActionAt k at) → (rows : List (List Value)) → FitRows d.columns rows → AreFed (booking_kind d (ActionAt k at)) k (length rows) (flat_map (items_of d k at u) rows)
  fed k at u well [] h = record { few = omega arith; fit = tt; takes = takes_none (booking_kind d (ActionAt k at)) k }
  fed k at u well (row ∷ rows) h =
      let one = well row u h.0 in
      let rest = fed k at u well rows h.1 in
      let long = length-append (items_of d k at u row) (flat_map (items_of d k at u) rows) in
      let first = one.0.few in
      let others = rest.few in
      record {
        few = omega arith;
        fit = all_both (FitsAction k) (items_of d k at u row) (flat_map (items_of d k at u) rows) (recursion_from_All (FitsAction k) (items_of d k at u row) one.0.fit) rest.fit;
        takes = takes_both (booking_kind d (ActionAt k at)) k (items_of d k at u row) (flat_map (items_of d k at u) rows) one.1 rest.takes;
      }

  module _ (rows : List (List Value)) (few : length rows ≤ 1000000) (fit : FitRows d.columns rows) where
    abbrev some_rows : Dataset
    some_rows = record d { rows = rows }

    count_fits : (filter : Path) → FitsCount shard_limits (counts_of (cutflow some_rows filter))
    count_fits [] = (omega arith, omega arith)
    count_fits (s ∷ up) =
        let all = count_by-le-length (passes_filters some_rows up) rows in
        let pass = count_by-le-length (passes_filters some_rows (s ∷ up)) rows in
        (omega arith, omega arith)

    counts_fit : (filters : List Path) → EachFits (FitsCount shard_limits) (map (λ filter. counts_of (cutflow some_rows filter)) filters)
    counts_fit [] = tt
    counts_fit (f ∷ fs) = (count_fits f, counts_fit fs)

    line_fits : (p : Pass) (b : Booking) → FeedsWell d b → FitsLine shard_limits (booking_line some_rows b p)
    line_fits p (ActionAt k at) well =
        let all = fed k at p.under well rows fit in
        let most = all.few in
        let items : List Item = flat_map (items_of d k at p.under) rows in
        let few_items : length items ≤ 4096000000 = omega arith in
        items_line shard_limits 4096000000 wide (booking_kind d (ActionAt k at)) k items few_items all.fit all.takes (are_few k items few_items)
    line_fits p (ReportOn filters) well = counts_fit filters

    lines_fit : (ps : List Pass) → AllByRecursion (λ (p : Pass). FeedsWell d p.result.booking) ps → FitLines shard_limits (map (pass_line some_rows) ps)
    lines_fit [] h = tt
    lines_fit (p ∷ ps) h = (line_fits p p.result.booking h.0, lines_fit ps h.1)

-- ---- loops

-- 1 to 8,256 passes, each of which is fed well
pub record ArePasses (d : Dataset) (ps : List Pass) : Type 0 where
  pub some : 0 < length ps
  pub few : length ps ≤ 8256
  pub well : AllByRecursion (λ (p : Pass). FeedsWell d p.result.booking) ps

module _ (d : Dataset) (spans : List Span) (leads : Lead 0 (length d.rows) spans) (fit : FitRows d.columns d.rows) (few : length d.rows ≤ 1000000) (lo hi : ℕ) (le : lo ≤ hi) (top : hi ≤ length spans) where
  abbrev its_rows : List (List Value)
  its_rows = rows_in spans d.rows (clusters_in lo hi)

  loops_fit : (loops : List (List Pass)) → AllByRecursion (ArePasses d) loops → FitLoops (span_loops spans d lo hi loops)
  loops_fit [] h = tt
  loops_fit (ps ∷ loops) h = go (span_fault spans d ps lo hi) refl (loops_fit loops h.1)
    where
      go : (o : Option Fault) → span_fault spans d ps lo hi ≡ o → FitLoops (span_loops spans d lo hi loops) → FitLoops (up_to_fault (fault_or_lines o (map (pass_line (over_span spans d lo hi)) ps)) (span_loops spans d lo hi loops))
      go None q next =
          let same_number : length (map (pass_line (over_span spans d lo hi)) ps) ≡ length ps = length-map ps (pass_line (over_span spans d lo hi)) in
          let some = h.0.some in
          let fewer = few_rows d spans leads lo hi le top in
          (omega arith, lines_fit d its_rows (omega arith) (rows_fit d.columns spans d.rows (clusters_in lo hi) fit) ps h.0.well, next)
      go (Some f) q next =
          let at = fault_within d ps (begin_of (slice_get spans lo)) its_rows f q in
          let entry = at.0 in
          let pass = at.2 in
          let end = end_within d spans leads lo hi le top at.1 in
          let fewer = h.0.few in
          (omega arith, omega arith)

module _ (script : Script) (d : Dataset) (checked : IsChecked script d) where
  good : AreAccepted (fn_names d.fns) (scope_of d.columns) (history script)
  good = (verdict_is_the_first_refusal (fn_names d.fns) d.columns script).0 checked.accepted

  abbrev IsWell : Booked → Type 0
  IsWell b = FeedsWell d b.booking

  passes_of_loops : (loops : List (List Booked)) → AllByRecursion (IsLoop (fn_names d.fns) (scope_of d.columns) IsWell (feeds_well d checked.answers)) loops → AllByRecursion (ArePasses d) (map (loop_passes (history script)) loops)
  passes_of_loops [] h = tt
  passes_of_loops (bs ∷ loops) h = (
    record {
      some = some_passes (history script) bs h.0.0;
      few = few_passes (history script) (few_variations (fn_names d.fns) (scope_of d.columns) (history script) good) bs h.0.1;
      well = passes_are IsWell (history script) bs h.0.2;
    },
    passes_of_loops loops h.1,
  )

  pub all_passes : AllByRecursion (ArePasses d) (loops_of script)
  all_passes = passes_of_loops (loop_results (history script)) (loops_are (fn_names d.fns) (scope_of d.columns) IsWell (feeds_well d checked.answers) (history script) good checked.words)

pub runs_are_shards : RunsAreShards
runs_are_shards script d spans lo hi checked leads le top =
    let clusters = few_clusters spans 0 (length d.rows) leads in
    let few = checked.few in
    record {
      entries = few;
      clusters = omega arith;
      header = checked.header;
      named = checked.named;
      span = le;
      within = top;
      loops = loops_fit d spans leads checked.fit few lo hi le top (loops_of script) (all_passes script d checked);
    }

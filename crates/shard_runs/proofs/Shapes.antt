-- The lines of a run have the shapes of the script's passes.
use Rattle.lemmas.proofs.{◌≡◌, ℕ, suc, ◌+◌, ◌*◌, true, ◌&&◌, List, [], ◌∷◌, length, map, Option, None, Some, refl, ap, ap₂, ◌∙◌, arith, length-append, flat_map, nat_eq, slice_get, AllByRecursion, length-map, lt-ltb, nat_tests}
use Rattle.rdf_values.specs.{ActionAt, ActionKind, Booking, cells_on, Fault, FitRows, flat_cell, Item, Pass, Path, ReportOn, Span, square_cell, Value}
use Rattle.rdf_values.specs.results.Fold.{Cell}
use Rattle.rdf_values.proofs.UnionLemmas.{length-below}
use Rattle.rdf_model.specs.{cutflow, Dataset, items_of, rows_in}
use Rattle.histograms.specs.{CellSum}
use Rattle.loop_pieces.specs.{begin_of, counts_of}
use Rattle.shard_lines.specs.{booking_shape, has_shape, have_shapes, PassShape}
use Rattle.shard_files.specs.{are_loops, fault_or_lines, up_to_fault}
use Rattle.shard_spans.specs.{booking_line, cell_sum, clusters_in, loops_of, over_span, pass_line, pass_shapes, span_fault, span_loops}
use Rattle.shard_runs.specs.{booking_kind, pass_kind, RunsHaveShapes}
use Rattle.shard_runs.proofs.Lines.{all_of_kind}
use Rattle.shard_runs.proofs.Rows.{fault_within, rows_fit}
use Rattle.shard_runs.proofs.Runs.{ArePasses, all_passes, fed}
use Rattle.shard_runs.proofs.Takes.{FeedsWell}
use Rattle.shard_spans.proofs.LinesOfBoth.{cells_long}

-- ---- lengths

pub equal : (a b : ℕ) → a ≡ b → nat_eq a b ≡ true
equal a b h = grind (arith, nat_tests, h)

plane_long : (f : ℕ → ℕ → Cell) (is js : List ℕ) → length (flat_map (λ cells. map cell_sum cells) (map (λ i. map (f i) js) is)) ≡ length is * length js
plane_long f [] js = grind arith
plane_long f (i ∷ is) js =
    let row : List CellSum = map cell_sum (map (f i) js) in
    let rest : List CellSum = flat_map (λ cells. map cell_sum cells) (map (λ k. map (f k) js) is) in
    let l = length-append row rest in
    let one : length row ≡ length js = cells_long (f i) js in
    let others : length rest ≡ length is * length js = plane_long f is js in
    let many : suc (length is) * length js ≡ length js + length is * length js = grind arith in
    omega arith

flows_long : (d : Dataset) (filters : List Path) → length (map (λ filter. counts_of (cutflow d filter)) filters) ≡ length filters
flows_long d [] = refl
flows_long d (f ∷ fs) = ap suc (flows_long d fs)

-- ---- lines

module _ (d : Dataset) (rows : List (List Value)) (fit : FitRows d.columns rows) where
  abbrev some_rows : Dataset
  some_rows = record d { rows = rows }

  action_shaped : (p : Pass) (k : ActionKind) (at : Path) → FeedsWell d (ActionAt k at) → has_shape (booking_shape (booking_kind d (ActionAt k at)) (ActionAt k at)) (booking_line some_rows (ActionAt k at) p) ≡ true
  action_shaped p ActionKind.Count at well = refl
  action_shaped p (ActionKind.Sum c) at well = refl
  action_shaped p (ActionKind.Min c) at well = refl
  action_shaped p (ActionKind.Max c) at well = refl
  action_shaped p (ActionKind.Take c) at well = all_of_kind (booking_kind d (ActionAt (ActionKind.Take c) at)) (flat_map (items_of d (ActionKind.Take c) at p.under) rows) (fed d (ActionKind.Take c) at p.under well rows fit).takes
  action_shaped p (ActionKind.Reduce o c) at well = refl
  action_shaped p (ActionKind.Histo1D edges x w) at well =
      let items : List Item = flat_map (items_of d (ActionKind.Histo1D edges x w) at p.under) rows in
      equal (length (map cell_sum (map (flat_cell edges items) (cells_on edges)))) (suc (length edges)) (cells_long (flat_cell edges items) (cells_on edges) ∙ length-below (suc (length edges)))
  action_shaped p (ActionKind.Histo2D xs ys x y w) at well =
      let items : List Item = flat_map (items_of d (ActionKind.Histo2D xs ys x y w) at p.under) rows in
      equal (length (flat_map (λ cells. map cell_sum cells) (map (λ i. map (square_cell xs ys items i) (cells_on ys)) (cells_on xs)))) (suc (length xs) * suc (length ys))
      (plane_long (square_cell xs ys items) (cells_on xs) (cells_on ys) ∙ ap₂ (λ a b. a * b) (length-below (suc (length xs))) (length-below (suc (length ys))))

  line_shaped : (p : Pass) (b : Booking) → FeedsWell d b → has_shape (booking_shape (booking_kind d b) b) (booking_line some_rows b p) ≡ true
  line_shaped p (ActionAt k at) well = action_shaped p k at well
  line_shaped p (ReportOn filters) well = equal (length (map (λ filter. counts_of (cutflow some_rows filter)) filters)) (length filters) (flows_long some_rows filters)

  pub lines_shaped : (ps : List Pass) → AllByRecursion (λ (p : Pass). FeedsWell d p.result.booking) ps → have_shapes (pass_shapes (pass_kind d) ps) (map (pass_line some_rows) ps) ≡ true
  lines_shaped [] h = refl
  lines_shaped (p ∷ ps) h = ap₂ (λ a b. a && b) (line_shaped p p.result.booking h.0) (lines_shaped ps h.1)

-- ---- loops

module _ (d : Dataset) (spans : List Span) (fit : FitRows d.columns d.rows) (lo hi : ℕ) where
  abbrev its_rows : List (List Value)
  its_rows = rows_in spans d.rows (clusters_in lo hi)

  loops_shaped : (loops : List (List Pass)) → AllByRecursion (ArePasses d) loops → are_loops (map (pass_shapes (pass_kind d)) loops) (span_loops spans d lo hi loops) ≡ true
  loops_shaped [] h = refl
  loops_shaped (ps ∷ loops) h = go (span_fault spans d ps lo hi) refl (loops_shaped loops h.1)
    where
      go : (o : Option Fault) → span_fault spans d ps lo hi ≡ o → are_loops (map (pass_shapes (pass_kind d)) loops) (span_loops spans d lo hi loops) ≡ true
          → are_loops (pass_shapes (pass_kind d) ps ∷ map (pass_shapes (pass_kind d)) loops) (up_to_fault (fault_or_lines o (map (pass_line (over_span spans d lo hi)) ps)) (span_loops spans d lo hi loops)) ≡ true
      go None q next = ap₂ (λ a b. a && b) (lines_shaped d its_rows (rows_fit d.columns spans d.rows (clusters_in lo hi) fit) ps h.0.well) next
      go (Some f) q next =
          let at = fault_within d ps (begin_of (slice_get spans lo)) its_rows f q in
          let shape_of : Pass → PassShape = λ p. booking_shape (pass_kind d p) p.result.booking in
          let same_number : length (map shape_of ps) ≡ length ps = length-map ps shape_of in
          let pass = at.2 in
          lt-ltb f.pass (length (map shape_of ps)) (omega arith)

pub runs_have_shapes : RunsHaveShapes
runs_have_shapes script d spans lo hi checked = loops_shaped d spans checked.fit lo hi (loops_of script) (all_passes script d checked)

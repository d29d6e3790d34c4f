-- Loops with the shapes of a graph's passes fit the graph.
use Rattle.lemmas.proofs.{◌≡◌, ℕ, zero, suc, ◌<◌, ◌≤◌, true, List, [], ◌∷◌, length, map, Option, None, Some, refl, sym, ap, ◌∙◌, arith, option_map, slice_get, unwrap_or, and_right, length-map, ltb-true, same_Some, slice_get-map}
use Rattle.rdf_values.specs.{Booked, ColType, history, Pass}
use Rattle.rdf_model.specs.{loop_passes, loop_results}
use Rattle.graph_numbers.specs.{graph_loops, GraphView, pass_at}
use Rattle.graph_numbers.proofs.Placing.{itself}
use Rattle.graph_numbers.proofs.Covering.{loops_are}
use Rattle.result_text.specs.{passes_at}
use Rattle.shard_lines.specs.{booking_shape, have_shapes, PassShape}
use Rattle.shard_spans.specs.{loops_of, pass_shapes}
use Rattle.chain_files.specs.{are_loops, ChainFault, FitLoops, PartLoop}
use Rattle.chain_files.specs.declared.part_loop.PartLoop.TheVariants.{Whole, Faulted}
use Rattle.chain_text.specs.{ShapedLoopsFit}

module _ (column : Pass → ColType) (first end n : ℕ) where
  few_loops : (L : List (List Pass)) (loops : List PartLoop) → are_loops (map (pass_shapes column) L) loops ≡ true → FitLoops first end n loops → length loops ≤ length L
  few_loops [] [] h fit = omega arith
  few_loops [] (l ∷ loops) h fit = cc h
  few_loops (ps ∷ L) [] h fit = omega arith
  few_loops (ps ∷ L) (Whole ls ∷ loops) h fit = let rest = few_loops L loops (and_right (have_shapes (pass_shapes column ps) ls) (are_loops (map (pass_shapes column) L) loops) h) fit.2 in omega arith
  few_loops (ps ∷ L) (Faulted f ∷ []) h fit = omega arith
  few_loops (ps ∷ L) (Faulted f ∷ next ∷ loops) h fit = absurd fit

  fault_inside : (L : List (List Pass)) (loops : List PartLoop) (l : ℕ) (f : ChainFault) → are_loops (map (pass_shapes column) L) loops ≡ true → FitLoops first end n loops → slice_get loops l ≡ Some (Faulted f)
      → (ps : List Pass) × (slice_get L l ≡ Some ps) × (f.pass < length ps)
  fault_inside L [] l f h fit at = absurd (cc)
  fault_inside [] (one ∷ loops) l f h fit at = cc h
  fault_inside (ps ∷ L) (Whole ls ∷ loops) zero f h fit at = absurd (cc)
  fault_inside (ps ∷ L) (Whole ls ∷ loops) (suc l) f h fit at = fault_inside L loops l f (and_right (have_shapes (pass_shapes column ps) ls) (are_loops (map (pass_shapes column) L) loops) h) fit.2 at
  fault_inside (ps ∷ L) (Faulted g ∷ []) zero f h fit at =
      let same : g ≡ f = cc in
      let shape_of : Pass → PassShape = λ p. booking_shape (column p) p.result.booking in
      let many : length (map shape_of ps) ≡ length ps = length-map ps shape_of in
      let lt = ltb-true g.pass (length (map shape_of ps)) h in
      let pass : g.pass ≡ f.pass = ap (λ (x : ChainFault). x.pass) same in
      (ps, refl, omega arith)
  fault_inside (ps ∷ L) (Faulted g ∷ []) (suc l) f h fit at = absurd (cc)
  fault_inside (ps ∷ L) (Faulted g ∷ next ∷ loops) l f h fit at = absurd fit

loops_many : (g : GraphView) → length (graph_loops g) ≡ length (loops_of g.script)
loops_many g =
    let h = history g.script in
    sym (length-map (graph_loops g) (map (pass_at h))) ∙ ap length (loops_are h h itself) ∙ length-map (loop_results h) (λ results. map (λ (p : Pass). Some p) (loop_passes h results))
    ∙ sym (length-map (loop_results h) (loop_passes h))

-- the passes of a loop by its number
passes_are : (g : GraphView) (l : ℕ) (ps : List Pass) → slice_get (loops_of g.script) l ≡ Some ps → passes_at g l ≡ ps
passes_are g l ps at = go (slice_get (loop_results (history g.script)) l) refl (sym (slice_get-map (loop_passes (history g.script)) (loop_results (history g.script)) l) ∙ at)
  where
    go : (o : Option (List Booked)) → slice_get (loop_results (history g.script)) l ≡ o → option_map (loop_passes (history g.script)) o ≡ Some ps → passes_at g l ≡ ps
    go None q there = absurd (cc)
    go (Some results) q there = ap (λ (o : Option (List Booked)). loop_passes (history g.script) (unwrap_or o [])) q ∙ same_Some (loop_passes (history g.script) results) ps there

pub shaped_loops_fit : ShapedLoopsFit
shaped_loops_fit g column s part shaped = record {
  many = omega (arith, few_loops column s.first_file s.end_file s.entries (loops_of g.script) s.loops shaped part.loops, loops_many g);
  faults = λ l f at.
      let inside = fault_inside column s.first_file s.end_file s.entries (loops_of g.script) s.loops l f shaped part.loops at in
      let passes = ap (λ (ps : List Pass). length ps) (passes_are g l inside.0 inside.1) in
      let lt = inside.2 in
      omega arith;
}

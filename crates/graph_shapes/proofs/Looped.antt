-- The shapes of a loop, pass by pass, and of a graph, loop by loop.
use Rattle.lemmas.proofs.{◌≡◌, ◌≤◌, ◌<◌, ◌+◌, ℕ, List, [], ◌∷◌, ◌++◌, length, map, take, Option, Some, sym, ap, ap₂, ◌∙◌, arith, option_map, slice_get, unwrap_or, slice_get-map, something_at, take_next}
use Rattle.std.proofs.lemmas.List.{length-map, map-append, take_all}
use Rattle.rdf_values.specs.{Booked, ColType, Pass}
use Rattle.rdf_model.specs.{loop_passes, loop_results}
use Rattle.graph_numbers.specs.{booked_statements, graph_loops, GraphView, pass_at}
use Rattle.graph_numbers.proofs.Placing.{itself}
use Rattle.graph_numbers.proofs.Covering.{loops_are}
use Rattle.result_text.specs.{passes_at}
use Rattle.shard_lines.specs.{booking_shape, PassShape}
use Rattle.shard_spans.specs.{loops_of, pass_shapes}
use Rattle.graph_shapes.specs.{graph_shapes, pass_kind}

-- ---- passes

module _ (column : Pass → ColType) where
  pub shapes_more : (ps : List Pass) (i : ℕ) (p : Pass) (shapes more : List PassShape) (s : PassShape) → slice_get ps i ≡ Some p → s ≡ booking_shape (column p) p.result.booking → more ≡ shapes ++ s ∷ [] → shapes ≡ pass_shapes column (take i ps)
      → more ≡ pass_shapes column (take (i + 1) ps)
  shapes_more ps i p shapes more s at is pushed before =
      pushed ∙ ap₂ (λ (x : List PassShape) y. x ++ y ∷ []) before is ∙ sym (map-append (λ (q : Pass). booking_shape (column q) q.result.booking) (take i ps) (p ∷ [])) ∙ sym (ap (pass_shapes column) (take_next ps i p at))

  pub shapes_all : (ps : List Pass) (i : ℕ) (shapes : List PassShape) → length ps ≤ i → shapes ≡ pass_shapes column (take i ps) → shapes ≡ pass_shapes column ps
  shapes_all ps i shapes le h = h ∙ ap (pass_shapes column) (take_all i ps le)

-- ---- loops

pub loops_many : (g : GraphView) → length (graph_loops g) ≡ length (loops_of g.script)
loops_many g =
    let h = booked_statements g in
    sym (length-map (graph_loops g) (map (pass_at h))) ∙ ap length (loops_are h h itself) ∙ length-map (loop_results h) (λ results. map (λ (p : Pass). Some p) (loop_passes h results))
    ∙ sym (length-map (loop_results h) (loop_passes h))

shapes_at : (g : GraphView) (n : ℕ) → n < length (graph_loops g) → slice_get (graph_shapes g) n ≡ Some (pass_shapes (pass_kind g) (passes_at g n))
shapes_at g n lt =
    let h = booked_statements g in
    let many : length (loops_of g.script) ≡ length (loop_results h) = length-map (loop_results h) (loop_passes h) in
    let here = something_at (loop_results h) n (omega (arith, loops_many g)) in
    slice_get-map (pass_shapes (pass_kind g)) (loops_of g.script) n ∙ ap (option_map (pass_shapes (pass_kind g))) (slice_get-map (loop_passes h) (loop_results h) n ∙ ap (option_map (loop_passes h)) here.1)
    ∙ ap (λ (o : Option (List Booked)). Some (pass_shapes (pass_kind g) (loop_passes h (unwrap_or o [])))) (sym here.1)

pub loop_more : (g : GraphView) (n : ℕ) (all more : List (List PassShape)) (one : List PassShape) → n < length (graph_loops g) → one ≡ pass_shapes (pass_kind g) (passes_at g n) → more ≡ all ++ one ∷ [] → all ≡ take n (graph_shapes g)
    → more ≡ take (n + 1) (graph_shapes g)
loop_more g n all more one lt is pushed before =
    pushed ∙ ap₂ (λ (x : List (List PassShape)) y. x ++ y ∷ []) before is ∙ sym (take_next (graph_shapes g) n (pass_shapes (pass_kind g) (passes_at g n)) (shapes_at g n lt))

pub loops_all : (g : GraphView) (n : ℕ) (all : List (List PassShape)) → length (graph_loops g) ≤ n → all ≡ take n (graph_shapes g) → all ≡ graph_shapes g
loops_all g n all le h =
    let many : length (graph_shapes g) ≡ length (loops_of g.script) = length-map (loops_of g.script) (pass_shapes (pass_kind g)) in
    h ∙ take_all n (graph_shapes g) (omega (arith, loops_many g))

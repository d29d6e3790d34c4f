use Rattle.lemmas.proofs.{◌≡◌, ◌≤◌, ℕ, List, [], length, Some, sym, ◌∙◌, ap, slice_get, unwrap_or, arith}
use Rattle.graph_numbers.specs.{graph_loops, graph_variations, GraphView, Pass as NumberedPass}
use Rattle.loop_keys.specs.{IsJob, job_graph, job_of, JobView, numbered_passes}
use Rattle.loop_keys.proofs.PassNumbers.{passes_count, few_passes}
use Rattle.block_passes.proofs.plan.loop_passes.Goals as goal

read : (j : JobView) (g : GraphView) (ps : List NumberedPass) → g ≡ job_graph j → slice_get (graph_loops g) j.number ≡ Some ps → ps ≡ numbered_passes j
read j g ps e q = sym (ap (λ (h : GraphView). unwrap_or (slice_get (graph_loops h) j.number) []) (sym e) ∙ ap (λ o. unwrap_or o []) q)

few : (j : JobView) → IsJob j → (g : GraphView) → g ≡ job_graph j → (n : ℕ) → n ≡ length (graph_variations g) → n ≤ 128 → length (graph_variations (job_graph j)) ≤ 128
few j job g e n q le = let l : length (graph_variations g) ≡ length (graph_variations (job_graph j)) = ap (λ (h : GraphView). length (graph_variations h)) e in omega (arith, l, q, le)

pub returns-clause-count : goal.returns-clause-count
returns-clause-count g c = ap length (read (job_of c.args.job.now) c.args.job.now.graph.now c.passes.result.now c.requires.graph c.passes.ensures) ∙ passes_count (job_of c.args.job.now)

pub returns-clause-few : goal.returns-clause-few
returns-clause-few g c =
    let l : length c.passes.result.now ≡ length (numbered_passes (job_of c.args.job.now)) = ap length (read (job_of c.args.job.now) c.args.job.now.graph.now c.passes.result.now c.requires.graph c.passes.ensures) in
    let h = few_passes (job_of c.args.job.now) c.requires.job
    (few (job_of c.args.job.now) c.requires.job c.args.job.now.graph.now c.requires.graph c.len-few.result (c.len-few.ensures.count ∙ ap length c.variations.ensures) c.len-few.ensures.few) in omega (arith, l, h)

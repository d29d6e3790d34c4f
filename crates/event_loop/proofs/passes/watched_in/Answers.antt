use Rattle.lemmas.proofs.{map, ◌∙◌, ap, arith}
use Rattle.graph_numbers.specs.{booked_statements, pass_at}
use Rattle.loop_keys.specs.{job_of, passes_in}
use Rattle.loop_keys.proofs.PassNumbers.{passes_are}
use Rattle.event_loop.proofs.Found.{read, loop_few, pass_of}
use Rattle.event_loop.proofs.passes.watched_in.Goals as goal

pub counts_of-counts-requires-clause-passes : goal.counts_of-counts-requires-clause-passes
counts_of-counts-requires-clause-passes g c = pass_of c.args.job.now.graph.now c.is_booked.ensures c.args.job.now.loop_index c.passes-passes.result.now c.passes-passes.ensures

pub counts_of-counts-requires-clause-few : goal.counts_of-counts-requires-clause-few
counts_of-counts-requires-clause-few g c =
    let few = loop_few c.args.job.now.graph.now c.is_booked.ensures c.args.job.now.loop_index c.passes-passes.result.now c.passes-passes.ensures _ _ c.variations.ensures c.len-variations.ensures.count c.len-variations.ensures.few in
    omega (arith, few)

pub returns : goal.returns
returns g c =
    let j = job_of c.args.job.now in
    let graph = c.args.job.now.graph.now in
    (c.counts_of-counts.ensures (passes_in j) (ap (map (pass_at (booked_statements graph))) (read j graph c.passes-passes.result.now c.requires.graph c.passes-passes.ensures) ∙ passes_are j)).1

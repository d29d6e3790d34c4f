use Rattle.lemmas.proofs.{ap, arith, length, map, refl, subst, ℕ}
use Rattle.std.specs.declared.snapshot.Snapshot.{Snapshot}
use Rattle.rdf_values.specs.{cut}
use Rattle.columns.specs.Views.{CutsView}
use Rattle.block_passes.specs.{CountsVectors}
use Rattle.loop_keys.specs.{job_of}
use Rattle.graph_numbers.specs.{GraphView}
use Rattle.event_loop.specs.contracts.state.SlotState.{the_view}
use Rattle.event_loop.specs.{SlotPhase}
use Rattle.event_loop.proofs.Ended.{begun}
use Rattle.event_loop.proofs.state.SlotState.new.Goals as goal

pub returns : goal.returns
returns g c =
    let t = c.in_ok-tally in
    let d = c.in_ok-done in
    begun (job_of c.args.job.now) c.requires.job.job c.answers_have_64_bits.ensures c.requires.words
    (the_view (record { blocks = c.in_ok-blocks.blocks; vectors = c.in_ok-vectors.vectors; tally = t.tally; done = d.done; phase = SlotPhase.Going }))
    c.in_ok-blocks.ensures (subst (λ (g : GraphView). CountsVectors g c.in_ok-vectors.vectors) c.requires.job.graph c.in_ok-vectors.ensures.count, c.in_ok-vectors.ensures.few) t.ensures.fresh t.ensures.flow (omega (arith, d.ensures.capacity, c.count.ensures.value, ap (λ (v : CutsView). length (cut v.entries v.size v.marks)) c.cuts.ensures.value)) (ap (map (λ (s : Snapshot ℕ). s.value)) d.ensures.items) refl

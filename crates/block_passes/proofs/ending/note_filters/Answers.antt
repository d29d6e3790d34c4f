use Rattle.lemmas.proofs.{◌≡◌, ◌∙◌, ap, arith, length, subst, ℕ}
use Rattle.graph_numbers.specs.{graph_filters, GraphView}
use Rattle.loop_keys.specs.{facts_in, job_graph}
use Rattle.cluster_tally.specs.{HoldsIn}
use Rattle.block_passes.specs.{at_filter, turn_job}
use Rattle.block_passes.proofs.Feeding.{can_note}
use Rattle.block_passes.proofs.PlanSteps.{filter_in}
use Rattle.block_passes.proofs.ending.note_filters.Goals as goal

pub note_counts-requires : goal.note_counts-requires
note_counts-requires g c =
    let b = c.requires.begin in (
      facts_in (turn_job c.args.at.now),
      b.0,
      at_filter b.1 c.loop-filter.filter,
      can_note (turn_job c.args.at.now) c.args.at.now.first c.args.at.now.count c.args.tally.now c.loop-filter.tally c.loop-filter.filter c.counts_of-counts.result c.loop-filter.invariant (filter_in (turn_job c.args.at.now) c.args.at.now.job.now.graph.now c.requires.turn.fits.graph c.filters-filter-end.result c.loop-filter.filter c.filters-filter-end.ensures c.loop-filter-test.true) c.counts_of-counts.ensures b.0 b.1 b.2 b.3 b.4,
    )

pub loop-filter-preserved : goal.loop-filter-preserved
loop-filter-preserved g c = λ watched s amid none holds.
    c.note_counts.ensures (facts_in (turn_job c.args.at.now)) watched (at_filter s c.loop-filter.filter)
    (can_note (turn_job c.args.at.now) c.args.at.now.first c.args.at.now.count c.args.tally.now c.loop-filter.tally c.loop-filter.filter c.counts_of-counts.result c.loop-filter.invariant (filter_in (turn_job c.args.at.now) c.args.at.now.job.now.graph.now c.requires.turn.fits.graph c.filters-filter-end.result c.loop-filter.filter c.filters-filter-end.ensures c.loop-filter-test.true) c.counts_of-counts.ensures watched s amid none holds)

pub returns : goal.returns
returns g c = λ watched s amid none holds.
    let all : c.filters-filter-end.result ≡ length (graph_filters (job_graph (turn_job c.args.at.now))) = c.filters-filter-end.ensures ∙ ap (λ (v : GraphView). length (graph_filters v)) c.requires.turn.fits.graph in
    let e : c.loop-filter.filter ≡ length (graph_filters (job_graph (turn_job c.args.at.now))) = (let f = c.loop-filter-test.false in let l = c.loop-filter.auto.filter-end in omega (arith, f, l, all)) in
    subst (λ (n : ℕ). HoldsIn (facts_in (turn_job c.args.at.now)) watched (at_filter s n) c.loop-filter.tally) e (c.loop-filter.invariant watched s amid none holds)

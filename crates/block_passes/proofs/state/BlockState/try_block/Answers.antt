use Rattle.lemmas.proofs.{arith, List, ◌-◌, ◌∙◌, ap, length, subst, sym, ℤ, refl, with_items, with_items_is}
use Rattle.block_cache.specs.{kinds_of}
use Rattle.rdf_values.specs.{Span}
use Rattle.loop_keys.specs.{job_of}
use Rattle.block_passes.specs.{CanServeAll, IsBlockTried, IsPlan, IsReadyBelow, IsStateOf, KeptPlaces, StateView}
use Rattle.block_passes.specs.contracts.state.BlockState.{the_view}
use Rattle.block_passes.proofs.ClusterBlocks.{as_entries, state_stays}
use Rattle.block_passes.proofs.state.BlockState.try_block.Goals as goal

pub try_begun-requires-clause-serve : goal.try_begun-requires-clause-serve
try_begun-requires-clause-serve g c =
    subst (λ (cells : List (List ℤ)). CanServeAll (job_of c.args.job.now) c.args.entries.lo (c.args.entries.hi - c.args.entries.lo) (kinds_of c.self.inside.work.lanes.items) cells (length c.self.inside.work.scratch.items) (length c.self.inside.work.levels.items)) (sym c.deref.ensures.value)
    (subst (λ (s : StateView). CanServeAll (job_of c.args.job.now) c.args.entries.lo (c.args.entries.hi - c.args.entries.lo) (kinds_of s.lanes) s.cells s.scratch s.levels) (sym c.self.view_is) c.begin.ensures.begun.serve)

pub try_begun-requires-clause-ready : goal.try_begun-requires-clause-ready
try_begun-requires-clause-ready g c =
    subst (λ (kept : List KeptPlaces). (p : IsPlan (job_of c.args.job.now) c.self.inside.plan) → IsReadyBelow (job_of c.args.job.now) c.args.entries.lo (c.args.entries.hi - c.args.entries.lo) p.chains (c.args.entries.hi - c.args.entries.lo) c.self.inside.work.lanes.items kept) (sym c.deref_mut.ensures.value)
    (subst (λ (s : StateView). (p : IsPlan (job_of c.args.job.now) s.plan) → IsReadyBelow (job_of c.args.job.now) c.args.entries.lo (c.args.entries.hi - c.args.entries.lo) p.chains (c.args.entries.hi - c.args.entries.lo) s.lanes s.kept) (sym c.self.view_is) c.begin.ensures.begun.ready)

pub returns-clause-state : goal.returns-clause-state
returns-clause-state g c =
    let len = c.self.inside.kept.ok.0 in
    let many = c.try_begun.ensures.kept in
    let same = ap length c.deref_mut.ensures.value in
    let is = with_items_is c.self.inside.kept c.try_begun.new.kept (omega (arith, len, many, same)) in
    let state = subst (λ (s : StateView). IsStateOf (job_of c.args.job.now) s) (sym c.self.view_is) c.begin.ensures.state in
    state_stays (job_of c.args.job.now) (the_view c.self.inside) (the_view c.self.inside).cells c.try_begun.new.work.lanes.items (length c.try_begun.new.work.scratch.items) (length c.try_begun.new.work.levels.items) c.try_begun.new.work.found (with_items c.self.inside.kept c.try_begun.new.kept).items
    state refl state.cell_room c.try_begun.ensures.leaves.spends.kinds c.try_begun.ensures.leaves.spends.rooms c.try_begun.ensures.leaves.scratch c.try_begun.ensures.leaves.levels (ap length is ∙ many ∙ same)

pub returns-clause-tried : goal.returns-clause-tried
returns-clause-tried g c =
    subst (λ (b : Span). IsBlockTried (job_of c.args.job.now) c.args.cluster b c.args.tally.now c.try_begun.new.tally c.args.steps.now c.try_begun.new.steps c.try_begun.result) (as_entries c.args.entries c.requires.before.2.next.some) c.try_begun.ensures.tried

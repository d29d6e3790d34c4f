use Rattle.lemmas.proofs.{◌-◌, ◌∙◌, ap, arith, length, subst, sym, refl}
use Rattle.std.proofs.lemmas.List.{with_items_is}
use Rattle.block_cache.specs.{kinds_of, rooms_of}
use Rattle.loop_keys.specs.{job_of}
use Rattle.block_passes.specs.{IsStateOf, StateView}
use Rattle.block_passes.specs.contracts.state.BlockState.{the_view}
use Rattle.block_passes.proofs.ClusterBlocks.{is_begun, state_stays}
use Rattle.block_passes.proofs.state.BlockState.begin.Goals as goal

pub returns : goal.returns
returns g c =
    let j = job_of c.args.job.now in
    let cells = with_items_is c.self.inside.cells c.load_columns.new.cells (let a = c.load_columns.auto.cells in let b = c.deref_mut.ensures.len in omega (arith, a, b)) in
    let lanes = with_items_is c.self.inside.work.lanes c.begin_block.new.lanes (let a = c.begin_block.auto.lanes in let b = c.deref_mut-2.ensures.len in omega (arith, a, b)) in
    let kept = with_items_is c.self.inside.kept c.forget.new.kept (let a = c.forget.auto.kept in let b = c.deref_mut-3.ensures.len in omega (arith, a, b)) in
    let state =
    state_stays j (the_view c.self.inside) c.load_columns.new.cells c.begin_block.new.lanes (the_view c.self.inside).scratch (the_view c.self.inside).levels c.begin-self-inside.result c.forget.new.kept (subst (λ (v : StateView). IsStateOf j v) (sym c.self.view_is) c.requires.state) (c.load_columns.ensures.many ∙ ap length c.deref_mut.ensures.value) c.load_columns.ensures.room
    (c.begin_block.ensures.kinds ∙ ap kinds_of c.deref_mut-2.ensures.value) (c.begin_block.ensures.rooms ∙ ap rooms_of c.deref_mut-2.ensures.value) refl refl (c.forget.ensures.many ∙ ap length c.deref_mut-3.ensures.value) in
    let some = c.requires.some in
    let inside = c.requires.inside in
    record {
      state = rw (cells, lanes, kept) state;
      begun =
          rw (cells, lanes, kept)
          (is_begun j c.requires.job.job c.args.entries.lo (c.args.entries.hi - c.args.entries.lo) _ state (omega (arith, some)) (omega (arith, some, inside)) c.begin_block.ensures.unknown c.forget.ensures.none c.load_columns.ensures.loaded c.begin-self-inside.ensures);
    }

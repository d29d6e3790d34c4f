use Rattle.lemmas.proofs.{List, ◌∙◌, ap, length, subst, sym, length-map}
use Rattle.rdf_values.specs.{ColType}
use Rattle.block_cache.specs.{LaneView, size_for, kinds_of}
use Rattle.graph_numbers.specs.{graph_sites, GraphView}
use Rattle.loop_keys.specs.{AreKeys, key_count}
use Rattle.block_passes.specs.{AreDeepEnough, HaveKinds}
use Rattle.block_passes.proofs.state.BlockState.new.Goals as goal

pub returns : goal.returns
returns g c =
    let is = c.requires.graph in
    let kinds = c.in_ok-new_lanes.ensures.kinds ∙ c.as_slice.ensures in
    record {
      size = c.block_size-size.ensures.value ∙ ap size_for (c.in_ok-rows.ensures.1 ∙ ap key_count is);
      least = c.block_size-size.ensures.least;
      most = c.block_size-size.ensures.most;
      plan = c.in_ok-plan.ensures;
      rows = subst (λ (v : GraphView). AreKeys v c.in_ok-rows.rows) is c.in_ok-rows.ensures.0;
      cells = c.in_ok-cells.ensures.many ∙ ap length c.columns.ensures.value;
      cell_room = c.in_ok-cells.ensures.room;
      lanes = sym (length-map c.in_ok-new_lanes.field-0.items (λ (l : LaneView). l.kind)) ∙ ap length kinds ∙ c.in_ok-kinds.ensures.many ∙ ap key_count is;
      kinds = subst (λ (v : GraphView). HaveKinds v (length (graph_sites v)) (kinds_of c.in_ok-new_lanes.field-0.items)) is (subst (λ (ks : List ColType). HaveKinds c.args.job.now.graph.now (length (graph_sites c.args.job.now.graph.now)) ks) (sym kinds) c.in_ok-kinds.ensures.kinds);
      lane_room = c.in_ok-new_lanes.ensures.rooms;
      scratch = subst (λ (v : GraphView). AreDeepEnough v (length c.in_ok-new_scratch.field-0.items)) is (subst (AreDeepEnough c.args.job.now.graph.now) (sym c.in_ok-new_scratch.ensures) c.in_ok-deepest.ensures);
      levels = c.in_ok-new_levels.ensures ∙ c.sites.ensures ∙ ap (λ (v : GraphView). length (graph_sites v)) is;
      kept = c.in_ok-kept.ensures ∙ c.steps.ensures;
    }

use Rattle.lemmas.proofs.{rules, arith, ◌≡◌, ◌<◌, ◌∙◌, [], refl, sym, None}
use Rattle.rdf_values.specs.{Bin, num_tree, num_trees}
use Rattle.expr_lanes.specs.declared.TheConstants.{MAX_PLACES}
use Rattle.expr_lanes.specs.{fold_read, IsReady, IsSelected, lane_call, with_zero}
use Rattle.expr_lanes.proofs.Composed.{gathered_more, come_from, come_told, go_on, choice, idle, able_sides, at_hand, called, has_at_hand, operated, same_depth, with_sides, rest_left, whole, selected_next, selected_part, selected_other}
use Rattle.expr_lanes.proofs.nodes.+lanes.Goals as goal
use Rattle.expr_lanes.proofs.nodes.+lanes.Goals.{eval_unary-in-Neg, eval_unary-in-Not}

pub eval_side-returns-in-Some : goal.eval_side-returns-in-Some
eval_side-returns-in-Some g t c =
    record { come = at_hand _ _ _ _ _ c.in-Some.ensures c.requires.ready.selected.inside; has = has_at_hand _ _ _ _ c.in-Some.ensures c.requires.ready.selected.inside }

pub eval_side-returns-in-None : goal.eval_side-returns-in-None
eval_side-returns-in-None g t c =
    let next : IsSelected (g.S.LaneInputs.size c.args.scope.now) c.eval_node.new.selection c.eval_node.new.stops.items = selected_next _ _ _ _ _ _ _ c.requires.ready.selected c.eval_node.ensures.come in
    record { come = c.eval_node.ensures.come; has = λ p h. omega (arith, next.inside p h, c.requires.ready.long) }

pub eval_sides-eval_side-right-requires : goal.eval_sides-eval_side-right-requires
eval_sides-eval_side-right-requires g t c =
    let next : IsSelected (g.S.LaneInputs.size c.args.sides.now.scope.now) c.eval_side-left.new.selection c.eval_side-left.new.stops.items = selected_next _ _ _ _ _ _ _ c.requires.ready.selected c.eval_side-left.ensures.come in
    let ready : IsReady (g.S.LaneInputs.size c.args.sides.now.scope.now) c.eval_side-left.new.selection c.args.level.now.right c.eval_side-left.new.stops.items = record { selected = next; long = omega (arith, next.small) } in
    search rules

pub eval_sides-combine_sides-requires : goal.eval_sides-combine_sides-requires
eval_sides-combine_sides-requires g t c =
    let next = selected_next _ _ _ _ _ _ _ c.requires.ready.selected c.eval_side-left.ensures.come in
    let last = selected_next _ _ _ _ _ _ _ next c.eval_side-right.ensures.come in
    record {
      left = λ p h. c.eval_side-left.ensures.has p (come_from _ _ _ _ _ _ c.eval_side-right.ensures.come p h);
      right = c.eval_side-right.ensures.has;
      inside = λ p h. omega (arith, last.inside p h, c.requires.ready.long);
      room = last.room;
    }

pub eval_sides-returns : goal.eval_sides-returns
eval_sides-returns g t c =
    operated _ _ _ _ _ _ _ _ _ _ _ _ _ _ _ c.requires.op c.eval_side-left.ensures.come c.eval_side-right.ensures.come c.combine_sides.ensures

pub eval_choice-part-requires : goal.eval_choice-part-requires
eval_choice-part-requires g t c =
    let next : IsSelected (g.S.LaneInputs.size c.args.choice.now.scope.now) c.eval_node.new.selection c.eval_node.new.stops.items = selected_next _ _ _ _ _ _ _ c.requires.ready.selected c.eval_node.ensures.come in
    record { inside = λ p h. omega (arith, next.inside p h, c.requires.ready.long) }

pub eval_choice-eval_branch-requires : goal.eval_choice-eval_branch-requires
eval_choice-eval_branch-requires g t c =
    let next : IsSelected (g.S.LaneInputs.size c.args.choice.now.scope.now) c.eval_node.new.selection c.eval_node.new.stops.items = selected_next _ _ _ _ _ _ _ c.requires.ready.selected c.eval_node.ensures.come in
    let half : IsSelected (g.S.LaneInputs.size c.args.choice.now.scope.now) c.part.new.others c.eval_node.new.stops.items = selected_part _ _ _ _ _ next c.part.ensures.others in
    let ready : IsReady (g.S.LaneInputs.size c.args.choice.now.scope.now) c.part.new.others c.eval_node.new.lane c.eval_node.new.stops.items = record { selected = half; long = omega (arith, c.requires.ready.long) } in
    search rules

pub eval_choice-eval_branch-requires-2 : goal.eval_choice-eval_branch-requires-2
eval_choice-eval_branch-requires-2 g t c =
    let next : IsSelected (g.S.LaneInputs.size c.args.choice.now.scope.now) c.eval_node.new.selection c.eval_node.new.stops.items = selected_next _ _ _ _ _ _ _ c.requires.ready.selected c.eval_node.ensures.come in
    let other : IsSelected (g.S.LaneInputs.size c.args.choice.now.scope.now) c.part.new.zeros c.eval_branch.new.stops.items = selected_other _ _ _ _ _ _ _ _ _ _ _ next c.part.ensures.zeros c.part.ensures.others c.eval_branch.ensures in
    let ready : IsReady (g.S.LaneInputs.size c.args.choice.now.scope.now) c.part.new.zeros c.eval_branch.new.lane c.eval_branch.new.stops.items = record { selected = other; long = omega (arith, c.requires.ready.long) } in
    search rules

pub eval_choice-rejoin-requires : goal.eval_choice-rejoin-requires
eval_choice-rejoin-requires g t c =
    let next = selected_next _ _ _ _ _ _ _ c.requires.ready.selected c.eval_node.ensures.come in
    let half = selected_part _ _ _ _ _ next c.part.ensures.others in
    let others = selected_next _ _ _ _ _ _ _ half c.eval_branch.ensures.come in
    let other = selected_other _ _ _ _ _ _ _ _ _ _ _ next c.part.ensures.zeros c.part.ensures.others c.eval_branch.ensures in
    let zeros = selected_next _ _ _ _ _ _ _ other c.eval_branch-2.ensures.come in
    record {
      inside = λ p h. let below : p < MAX_PLACES = omega (arith, next.inside p h, next.small) in omega arith;
      zeros_inside = λ p h. let below : p < MAX_PLACES = omega (arith, zeros.inside p h, zeros.small) in omega arith;
      others_inside = λ p h. let below : p < MAX_PLACES = omega (arith, others.inside p h, others.small) in omega arith;
      whole = whole _ _ _ _ _ _ c.part.ensures.zeros c.part.ensures.others (rest_left _ _ _ _ _ _ c.eval_branch-2.ensures.come) (rest_left _ _ _ _ _ _ c.eval_branch.ensures.come);
    }

pub eval_choice-returns : goal.eval_choice-returns
eval_choice-returns g t c =
    choice _ _ _ _ _ _ _ _ _ c.eval_node.ensures c.part.ensures.others c.part.ensures.zeros _ _ _ _ _ _ _ _ _ c.eval_branch.ensures c.eval_branch-2.ensures c.rejoin.ensures

pub gather_more-eval_node-requires : goal.gather_more-eval_node-requires
gather_more-eval_node-requires = grind arith

pub gather_more-gather-requires : goal.gather_more-gather-requires
gather_more-gather-requires g t c =
    let next : IsSelected (g.S.LaneInputs.size c.args.arguments.now.scope.now) c.eval_node.new.selection c.eval_node.new.stops.items = selected_next _ _ _ _ _ _ _ c.requires.ready c.eval_node.ensures.come in
    search rules

pub gather_more-returns : goal.gather_more-returns
gather_more-returns g t c =
    gathered_more _ _ _ _ _ _ _ _ _ _ c.eval_node.ensures.come c.gather.ensures

pub gather-returns-in-End : goal.gather-returns-in-End
gather-returns-in-End g t c =
    rw c.in-End.is (come_told (λ p. []) c.args.selection.now c.args.stops.now.items)

pub eval_branch-returns-in-Same : goal.eval_branch-returns-in-Same
eval_branch-returns-in-Same g t c =
    rw c.in-Same.is (idle c.args.lane.now c.args.selection.now c.args.stops.now.items)

pub eval_call-call_lanes-requires-clause-inside : goal.eval_call-call_lanes-requires-clause-inside
eval_call-call_lanes-requires-clause-inside g t c =
    let next : IsSelected (g.S.LaneInputs.size c.args.called.now.scope.now) c.gather.new.selection c.gather.new.stops.items = selected_next _ _ _ _ _ _ _ c.requires.ready.selected c.gather.ensures in
    λ p h. (omega (arith, next.inside p h, c.requires.ready.long), omega (arith, next.inside p h, next.small))

pub eval_call-call_lanes-requires-clause-room : goal.eval_call-call_lanes-requires-clause-room
eval_call-call_lanes-requires-clause-room g t c =
    let next : IsSelected (g.S.LaneInputs.size c.args.called.now.scope.now) c.gather.new.selection c.gather.new.stops.items = selected_next _ _ _ _ _ _ _ c.requires.ready.selected c.gather.ensures in
    next.room

pub eval_call-returns-in-None : goal.eval_call-returns-in-None
eval_call-returns-in-None g t c =
    let scope = c.args.called.now.scope.now in
    let none : fold_read c.args.called.now.callee (num_trees c.args.called.now.args.now) ≡ None = sym c.fold_call.ensures ∙ c.in-None.is in
    called g.S.LaneInputs.look g.S.Calls.functions scope _ _ _ _ _ _ c.args.called.now.callee (num_trees c.args.called.now.args.now) none
    (go_on _ _ _ _ _ _ _ _ c.gather.ensures (λ p zs. lane_call (g.S.Calls.functions scope) c.args.called.now.callee zs) _ _ _ (λ p h. refl) (rw c.args_length.ensures at c.call_lanes.ensures))

pub eval_unary-eval_operator-requires : goal.eval_unary-eval_operator-requires
eval_unary-eval_operator-requires = grind (arith, eval_unary-in-Neg, eval_unary-in-Not, able_sides, same_depth)

pub eval_unary-returns : goal.eval_unary-returns
eval_unary-returns g t c =
    let same : Bin c.match-node.op.0 (num_tree c.match-node.op.1.now) (num_tree c.match-node.op.2.now) ≡ with_zero (num_tree c.args.node.now) =
    elim c.match-node.branch [ eval_unary-in-Neg w ↦ rw (w.op-is, w.in-Neg.is) (search rules) | eval_unary-in-Not w ↦ rw (w.op-is, w.in-Not.is) (search rules) ] in
    with_sides g.S.LaneInputs.look g.S.Calls.functions c.args.scope.now _ _ _ _ _ _ (num_tree c.args.node.now) _ same c.eval_operator.ensures

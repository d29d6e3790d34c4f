use Rattle.lemmas.proofs.{◌+◌, ◌*◌, max}
use Rattle.rdf_values.specs.{args_count, num_tree, num_trees}
use Rattle.expr_lanes.specs.{depth, depth_of_all}
use Rattle.expr_lanes.proofs.Composed.{branch_depth}
use Rattle.expr_lanes.proofs.nodes.+lanes.Given as goal

abbrev pub decreases-eval_node : goal.decreases-eval_node
decreases-eval_node g l = 6 * depth (num_tree l.node.now) + 4

abbrev pub decreases-eval_unary : goal.decreases-eval_unary
decreases-eval_unary g l = 6 * depth (num_tree l.node.now) + 3

abbrev pub decreases-eval_side : goal.decreases-eval_side
decreases-eval_side g l = 6 * depth (num_tree l.node.now) + 5

abbrev pub decreases-eval_operator : goal.decreases-eval_operator
decreases-eval_operator g l = 6 * max (depth (num_tree l.sides.now.left.now)) (depth (num_tree l.sides.now.right.now)) + 8

abbrev pub decreases-eval_sides : goal.decreases-eval_sides
decreases-eval_sides g l = 6 * max (depth (num_tree l.sides.now.left.now)) (depth (num_tree l.sides.now.right.now)) + 6

abbrev pub decreases-eval_decider : goal.decreases-eval_decider
decreases-eval_decider g l = 6 * max (depth (num_tree l.sides.now.left.now)) (depth (num_tree l.sides.now.right.now)) + 7

abbrev pub decreases-eval_choice : goal.decreases-eval_choice
decreases-eval_choice g l = 6 * max (depth (num_tree l.choice.now.condition.now)) (max (branch_depth l.choice.now.zero) (branch_depth l.choice.now.other)) + 6

abbrev pub decreases-eval_branch : goal.decreases-eval_branch
decreases-eval_branch g l = 6 * branch_depth l.branch + 5

abbrev pub decreases-eval_call : goal.decreases-eval_call
decreases-eval_call g l = 6 * (args_count (num_trees l.called.now.args.now) + depth_of_all (num_trees l.called.now.args.now)) + 3

abbrev pub decreases-gather : goal.decreases-gather
decreases-gather g l = 6 * (args_count (num_trees l.args.now) + depth_of_all (num_trees l.args.now)) + 2

abbrev pub decreases-gather_more : goal.decreases-gather_more
decreases-gather_more g l = 6 * max (depth (num_tree l.arguments.now.first.now)) (args_count (num_trees l.arguments.now.others.now) + depth_of_all (num_trees l.arguments.now.others.now)) + 5

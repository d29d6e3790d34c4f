use Rattle.lemmas.proofs.{◌∙◌, arith}
use Rattle.result_text.proofs.PassLines.{is_pass_at, result_within}
use Rattle.graph_shapes.proofs.Shaping.{action_shaped, cells_within, report_shaped}
use Rattle.graph_shapes.proofs.shapes.pass_shape.Goals as goal

pub input_kind-column-requires : goal.input_kind-column-requires
input_kind-column-requires c =
    let g = c.args.graph.now in
    let its = c.requires in
    result_within g its.0 its.1 c.args.pass (is_pass_at g its.0 its.1 its.2.passes c.args.pass its.2.its_loop its.2.its_pass)

pub kind-requires : goal.kind-requires
kind-requires c =
    let g = c.args.graph.now in
    let its = c.requires in
    result_within g its.0 its.1 c.args.pass (is_pass_at g its.0 its.1 its.2.passes c.args.pass its.2.its_loop its.2.its_pass)

pub action_shape-requires : goal.action_shape-requires
action_shape-requires c =
    let g = c.args.graph.now in
    let its = c.requires in
    cells_within g c.is_booked.ensures its.0 its.1 c.args.pass (is_pass_at g its.0 its.1 its.2.passes c.args.pass its.2.its_loop its.2.its_pass) c.kind.result.now c.kind.ensures c.in-Action.kind c.in-Action.is

pub covered-requires : goal.covered-requires
covered-requires c =
    let g = c.args.graph.now in
    let its = c.requires in
    result_within g its.0 its.1 c.args.pass (is_pass_at g its.0 its.1 its.2.passes c.args.pass its.2.its_loop its.2.its_pass)

pub returns-in-Action : goal.returns-in-Action
returns-in-Action c = λ l n p is at.
    let g = c.args.graph.now in
    let its = is_pass_at g l n is.passes c.args.pass is.its_loop is.its_pass in
    c.action_shape.ensures ∙ action_shaped g c.is_booked.ensures l n c.args.pass its c.kind.result.now c.kind.ensures p at c.in-Action.kind c.input_kind-column.result c.in-Action.is c.input_kind-column.ensures

pub overflow_cast-result : goal.overflow_cast-result
overflow_cast-result c =
    let g = c.args.graph.now in
    let it = c.requires in
    let its = is_pass_at g it.0 it.1 it.2.passes c.args.pass it.2.its_loop it.2.its_pass in
    let few = report_shaped g c.is_booked.ensures it.0 it.1 c.args.pass its c.kind.result.now c.kind.ensures _ its.its_pass c.covered.result.now c.in-Report.is c.covered.ensures in
    omega (arith, few.0)

pub returns-in-Report : goal.returns-in-Report
returns-in-Report c = λ l n p is at.
    let g = c.args.graph.now in
    let its = is_pass_at g l n is.passes c.args.pass is.its_loop is.its_pass in
    (report_shaped g c.is_booked.ensures l n c.args.pass its c.kind.result.now c.kind.ensures p at c.covered.result.now c.in-Report.is c.covered.ensures).1

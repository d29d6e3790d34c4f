use Rattle.graph.specs.{statements}
use Rattle.snapshot_plan.proofs.Found.{kind_found, kind_none, kind_within, kinds_many}
use Rattle.snapshot_plan.proofs.columns.kind_at.Goals as goal

pub returns-then-not-is_visible : goal.returns-then-not-is_visible
returns-then-not-is_visible c =
    kind_none c.args.graph.now c.header-header.result.now (statements c.lines-lines.result.now) c.args.node.now c.kinds-kinds.result.now c.header-header.ensures c.lines-lines.ensures.value c.kinds-kinds.ensures c.args.name.now _ (c.is_visible.ensures c.args.graph.now.names) c.if-not-is_visible.true

pub named_version-version-requires : goal.named_version-version-requires
named_version-version-requires c =
    kinds_many c.args.graph.now c.header-header.result.now (statements c.lines-lines.result.now) c.args.node.now c.kinds-kinds.result.now c.header-header.ensures c.lines-lines.ensures.value c.kinds-kinds.ensures

pub kind_of-requires : goal.kind_of-requires
kind_of-requires c =
    kind_within c.args.graph.now c.header-header.result.now (statements c.lines-lines.result.now) c.args.node.now c.kinds-kinds.result.now c.header-header.ensures c.lines-lines.ensures.value c.kinds-kinds.ensures
    c.args.name.now _ c.target_of-target.ensures _ (c.is_visible.ensures c.args.graph.now.names) c.if-not-is_visible.false _ c.named_version-version.ensures

pub returns : goal.returns
returns c =
    kind_found c.args.graph.now c.header-header.result.now (statements c.lines-lines.result.now) c.args.node.now c.kinds-kinds.result.now c.header-header.ensures c.lines-lines.ensures.value c.kinds-kinds.ensures
    c.args.name.now _ c.target_of-target.ensures _ (c.is_visible.ensures c.args.graph.now.names) c.if-not-is_visible.false _ c.named_version-version.ensures _ c.kind_of.ensures

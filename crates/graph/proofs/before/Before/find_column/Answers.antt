use Rattle.lemmas.proofs.{◌<◌, ◌∙◌, ap, length, List, refl, slice_get, subst, sym}
use Rattle.rdf_values.specs.{ColType}
use Rattle.graph.specs.{statements}
use Rattle.graph.proofs.Walking.{found_as, found_none, found_within}
use Rattle.graph.proofs.before.Before.find_column.Goals as goal

pub returns-then-not-is_visible : goal.returns-then-not-is_visible
returns-then-not-is_visible c = found_none c.args.self.now.header.now c.args.self.now.names.now (statements c.args.self.now.lines.now) c.args.node.now c.args.self.now.tables.now.kinds.items c.args.name.now _ (c.is_visible.ensures c.args.self.now.names.now) c.if-not-is_visible.true

pub at-requires : goal.at-requires
at-requires c =
    subst (λ (kinds : List ColType). c.named_version-version.result < length kinds) (sym c.as_slice.ensures.value)
    (found_within c.args.self.now.header.now c.args.self.now.names.now (statements c.args.self.now.lines.now) c.args.node.now c.args.self.now.tables.now.kinds.items c.args.self.now.are.versions c.args.name.now _ c.target_of-target.ensures _ (c.is_visible.ensures c.args.self.now.names.now) c.if-not-is_visible.false _ c.named_version-version.ensures)

pub returns : goal.returns
returns c =
    let found = found_as c.args.self.now.header.now c.args.self.now.names.now (statements c.args.self.now.lines.now) c.args.node.now c.args.self.now.tables.now.kinds.items c.args.self.now.are.versions c.args.name.now _ c.target_of-target.ensures _ (c.is_visible.ensures c.args.self.now.names.now) c.if-not-is_visible.false _ c.named_version-version.ensures _ _
    (ap (λ (kinds : List ColType). slice_get kinds c.named_version-version.result) (sym c.as_slice.ensures.value) ∙ c.at.ensures, refl) in
    (found.kind, found.number)

use Rattle.block_passes.proofs.Serving.{input_vect, never_stops, scalar_input}
use Rattle.block_passes.proofs.inputs.element_at.Goals as goal

pub returns-in-Vect : goal.returns-in-Vect
returns-in-Vect g c =
    rw (input_vect c.args.at.now c.args.lanes.now c.requires.over c.args.of.now.under c.args.of.now.site c.requires.site c.args.place c.requires.inside c.requires.held c.key.result c.key.ensures.key c.key.ensures.small c.index-lanes-key.result c.index-lanes-key.is c.input.result c.input.ensures c.in-Vect.zs c.in-Vect.is) c.tagged.ensures

pub returns-in-Int : goal.returns-in-Int
returns-in-Int g c =
    scalar_input c.args.at.now c.args.lanes.now c.requires.over c.args.of.now.under c.args.of.now.site c.requires.site c.args.place c.requires.inside c.requires.held c.key.result c.key.ensures.key c.key.ensures.small c.index-lanes-key.result c.index-lanes-key.is c.input.result c.input.ensures c.args.of.now.tags c.args.of.now.nth c.in-Int.is

pub unreachable-requires : goal.unreachable-requires
unreachable-requires g c =
    never_stops c.args.at.now c.args.lanes.now c.requires.over c.args.of.now.under c.args.of.now.site c.requires.site c.args.place c.requires.inside c.requires.held c.key.result c.key.ensures.key c.key.ensures.small c.index-lanes-key.result c.index-lanes-key.is c.input.result c.input.ensures c.in-Faulted.is

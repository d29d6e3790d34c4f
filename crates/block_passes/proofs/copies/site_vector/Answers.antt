use Rattle.block_passes.proofs.Serving.{input_vect, vect_only}
use Rattle.block_passes.proofs.copies.site_vector.Goals as goal

pub unreachable-requires : goal.unreachable-requires
unreachable-requires g c =
    vect_only c.args.at.now c.args.lanes.now c.requires.over c.args.under c.args.site c.requires.site c.args.place c.requires.inside c.requires.held c.key.result c.key.ensures.key c.key.ensures.small c.index-lanes-key.result c.index-lanes-key.is c.input.result c.input.ensures c.requires.vectors c.in-Int.is

pub returns : goal.returns
returns g c =
    input_vect c.args.at.now c.args.lanes.now c.requires.over c.args.under c.args.site c.requires.site c.args.place c.requires.inside c.requires.held c.key.result c.key.ensures.key c.key.ensures.small c.index-lanes-key.result c.index-lanes-key.is c.input.result c.input.ensures c.in-Vect.zs c.in-Vect.is

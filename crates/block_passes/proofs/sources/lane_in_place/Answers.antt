use Rattle.lemmas.proofs.{◌∙◌, IfSome_then}
use Rattle.block_passes.proofs.Serving.{lane_gives}
use Rattle.block_passes.proofs.sources.lane_in_place.Goals as goal

pub returns-in-Key-clause-given : goal.returns-in-Key-clause-given
returns-in-Key-clause-given g c = IfSome_then c.key_lane.result c.key_lane.ensures.given (lane_gives c.args.at.now c.args.lanes.now c.requires.over c.args.under c.args.version c.requires.can c.in-Key.key (c.place.ensures ∙ c.in-Key.is))

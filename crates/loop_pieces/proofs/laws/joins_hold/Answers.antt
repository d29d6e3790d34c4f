use Rattle.loop_pieces.proofs.ByCluster.{joins_from_either_side, joins_in_either_order, no_cluster_is_neutral}
use Rattle.loop_pieces.proofs.laws.joins_hold.Goals as goal

pub returns : goal.returns
returns g c = record {
  neutral = λ job. no_cluster_is_neutral (g.P.Piece.stands job);
  either_order = λ job. joins_in_either_order (g.P.Piece.stands job);
  either_side = λ job. joins_from_either_side (g.P.Piece.stands job);
}

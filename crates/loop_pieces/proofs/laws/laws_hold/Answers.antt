use Rattle.loop_pieces.proofs.ByCluster.{pieces_of_one_set_agree, first_cluster_has_first_fault, lower_clusters_fault_first, all_clusters_are_the_table, piece_holds_counts, piece_holds_results, watch_piece_is_partial_result}
use Rattle.loop_pieces.proofs.WatchLemmas.{watch_pieces_of_one_set_agree}
use Rattle.loop_pieces.proofs.laws.laws_hold.Goals as goal

pub returns : goal.returns
returns c = record {
  one_set = pieces_of_one_set_agree;
  one_watched_set = watch_pieces_of_one_set_agree;
  first_fault = first_cluster_has_first_fault;
  lower_fault = lower_clusters_fault_first;
  table = all_clusters_are_the_table;
  results = piece_holds_results;
  counts = piece_holds_counts;
  partial_result = watch_piece_is_partial_result;
}

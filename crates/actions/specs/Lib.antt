pub mod Accumulators
pub mod Batches
pub mod Parts
pub mod Fillings
-- what other crates name of these
pub use Accumulators.{Accumulator, HasFed, better_of, better_of_two, HasEdges, Holds, IsTake, IsWithin, kept_of, kind_of, made, fed_value, values_from}
pub use Batches.{batch_items, EachPlace, fault_or_later, first_fault_in, first_lane, first_numbers_in, HasPlace, HasValues, lane_value, numbers_in, places_of, span_at, SuitsAt, truth_of, values_at}
pub use Parts.{by_cluster, Fed, from_cluster, in_file_order, put, AreAlike, first_numbers, first_scalar, HasWeight, IsInteger, IsNumeric, IsSingle, part_value, part_values, second_part, Suits, values_of, weight_part, WeightSuits}
pub use Fillings.{filled_seen}
pub use declared.batch.Batch.{Batch}
pub use declared.batch.BatchFault.{BatchFault}
pub use declared.batch.Sources.{Sources}
pub use declared.lane.FedLane.{FedLane}

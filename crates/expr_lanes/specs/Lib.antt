pub mod Able
pub mod Folds
pub mod Marks
pub mod Places
pub mod Sides
-- what other crates name of these
pub use Able.{AreAble, depth, depth_of_all, IsAble, IsAbleBranch, HasMarks, is_known, IsVectorAt}
pub use Folds.{callee_of, CanLane, CanLaneAll, column_of, fold_named, fold_outcome, fold_read, fold_told, fold_with, only_column}
pub use Marks.{answer_number, called_at, fold_or, given_number, HasValues, lane_at, lane_call, lane_evaluate, lane_evaluate_all, lane_number, lane_operation, lane_outcome, lane_value, lanes_at, numbers_at, one_more}
pub use Places.{answered_at, AreRising, at_place, EachPlace, Evaluated, given_in, HasCome, is_given, is_in, is_marked, IsReady, IsSelected, stopped, stops_in, with_stop}
pub use Sides.{branch_at, choice_at, HasNumber, is_decider, is_unary, IsAtHand, side_number, sides_tree, with_zero}
pub use declared.parting.Stopped.{Stopped}

pub mod Clusters
pub mod Feeds
pub mod InTurn
pub mod Inputs
pub mod Plans
pub mod Searches
pub mod States
pub mod Tries
-- what other modules and crates name of these
pub use Clusters.{after_block, at_end, at_entry, block_demands, block_rows, demands_in, entries_from, IsBefore, IsBlockAnswer, IsBlockOf, IsBlockTried, IsClusterAnswer, span_demands}
pub use Feeds.{AreCountable, AreLanesOf, at_filter, at_pass, CanFeedAny, CanGather, GivesNumber, GivesVector, HasHeld, HasVector, IsAmid, IsBatchOf, IsClear, IsLaneOf, IsNumberOf, of_batch, unfed}
pub use InTurn.{AreCopiedInTurn, AreHeldInTurn, AreInPlaceInTurn, CanGatherInTurn, CanSelectInTurn, CanServeAllInTurn, CanServeAllWith, CanServeInTurn, CanServeWith, IsAmidTurn, IsClearInTurn, IsCopyInTurn, IsKnown, IsOver, IsPlainRead, IsPlanOfTurn, IsReadyInTurn, IsSelected, IsSelectedInTurn, IsServedInTurn, IsSpentInTurn, IsTurn, KeepsRoom, Leaves, source_in_turn, turn_job, unfed_in_turn}
pub use Inputs.{AreAtHand, CanServe, Demands, DemandsInputs, DemandsSource, inputs_fault, IsAtHand, IsDemandedAt, IsFillableSite, IsServable, IsServedTo, IsSettledAt, IsWhole, source_fault, Spends}
pub use Plans.{ArePlanned, AreSteps, Chain, chain_at, IsActionOf, IsBegin, IsFilterPlanned, IsFilterStep, IsGrown, IsLast, IsLed, IsNamed, IsOfFilter, IsOfPass, IsPassLast, IsPlan, IsPlanned, IsPlannedFilter, IsStep, IsStepped, IsTried, longer, PlanView, through_chain}
pub use Searches.{fault_at, feeding_fault, IsSearched, Lowers, noted, where_in, where_passed}
pub use States.{AreDeepEnough, AreLoaded, CountsVectors, HaveCells, HaveKinds, IsBegunBlock, IsStateOf, StateView}
pub use Tries.{AreKept, AreRemade, CanSelect, CanServeAll, chosen, filter_fault, filters_fault, IsFilteredTo, IsMade, IsMadeAt, IsNamedMade, IsNarrowed, IsNextSelected, IsOverAll, IsPassMade, IsPassTried, IsReadBelow, IsReadOf, IsReadyBelow, IsSearchedTo, IsSelectedTo, IsTriedTo}
pub use declared.plan.NamedSteps.{NamedSteps}
pub use declared.plan.Step.{Step}
pub use declared.turn.BlockStop.{BlockStop}
pub use declared.turn.Found.{Found}
pub use declared.turn.KeptPlaces.{KeptPlaces}

pub mod ClusterBlocks
pub mod Demanding
pub mod Feeding
pub mod FirstLengths
pub mod Serving
pub mod PlanSteps
pub mod Selecting

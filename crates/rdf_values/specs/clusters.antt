-- Clusters, and the slots that claim them.
pub mod Claiming
pub mod Cuts
pub mod Draws

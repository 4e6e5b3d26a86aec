pub mod ClientCounts
pub mod Counting
pub mod LegTimes
pub mod LoopTotals
pub mod ProxyCounts
pub mod Sums
pub mod Telling

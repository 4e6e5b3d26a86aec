pub mod PostLemmas
pub mod WatchLemmas

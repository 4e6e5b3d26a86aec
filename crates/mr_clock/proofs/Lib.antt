pub mod ReadingLemmas
pub mod ClockLemmas

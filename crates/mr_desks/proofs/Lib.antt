pub mod ClosingLemmas
pub mod DirectLemmas
pub mod HeldLemmas
pub mod KeptLemmas
pub mod ReplayLemmas

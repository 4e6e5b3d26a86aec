-- A cache node as a machine that an event loop drives: what its cache is asked, and what its clients are told.
pub mod Cache
pub mod Counting
pub mod Counts
pub mod Serving
pub mod NodeView
pub mod NodeRuns

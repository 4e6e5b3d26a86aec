-- What single steps do: definitions that no public clause cites.
pub mod Carrying
pub mod ClientStep
pub mod ClientCounts
pub mod Destinations
pub mod Exchange
pub mod Reading
pub mod Standing

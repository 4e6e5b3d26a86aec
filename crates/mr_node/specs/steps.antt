-- What single steps do: definitions that no public clause cites.
pub mod Step
pub mod Counts
pub mod Change

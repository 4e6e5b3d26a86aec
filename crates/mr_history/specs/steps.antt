-- What private functions of this crate find in a history. No clause of a public call cites these definitions.
pub mod Tests
pub mod Index

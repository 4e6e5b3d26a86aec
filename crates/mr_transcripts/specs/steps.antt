-- What private functions of this crate add up before a transcript is written. No clause of a public call cites these definitions.
pub mod Least

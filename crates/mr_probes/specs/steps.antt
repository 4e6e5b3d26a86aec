-- What private functions of this crate keep and find. No clause of a public call cites these definitions.
pub mod Judging
pub mod Notebook

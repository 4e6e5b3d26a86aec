-- An index over the names of a setup's nodes. No clause of a public call cites these definitions.
pub mod HomeIndex

pub mod Data
pub mod Format
pub mod Objects
pub mod Shown
pub mod Verdict

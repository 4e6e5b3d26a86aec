pub mod Lines
pub mod Names
pub mod Explain
pub mod Command
pub mod WordSteps
pub mod Words
pub mod Version
pub mod Printing

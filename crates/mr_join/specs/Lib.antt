pub mod Join
pub mod Sides
pub mod Came

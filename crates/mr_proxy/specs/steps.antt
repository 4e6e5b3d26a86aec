pub mod Noted
pub mod Room
pub mod Outstanding
pub mod Dealing

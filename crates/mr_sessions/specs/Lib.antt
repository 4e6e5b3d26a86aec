pub mod Account
pub mod Asking
pub mod ClientSession
pub mod Exchange
pub mod Link
pub mod Own
pub mod Reading
pub mod steps

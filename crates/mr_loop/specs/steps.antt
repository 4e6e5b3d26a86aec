-- What single steps do: definitions that no public clause cites.
pub mod Sending
pub mod Denying
pub mod Clearing
pub mod Returning
pub mod Asking
pub mod Telling
pub mod Serving

pub mod Heard
pub mod Reading
pub mod Response
pub mod Scrape
pub mod Fault
pub mod Pieces
pub mod Received
pub mod Fetch

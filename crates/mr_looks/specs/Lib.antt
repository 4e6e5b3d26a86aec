pub mod Looking
pub mod Posts
pub mod Watch
pub mod WatchText

pub mod ClientEnd
pub mod Links

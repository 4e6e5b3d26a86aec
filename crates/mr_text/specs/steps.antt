-- What private functions of this crate say to one another, and how private types stand for what contracts see. No clause
-- of a public call cites these definitions: a reader of the contracts needs none of them.
pub mod Count
pub mod Roll
pub mod Least
pub mod Spelled
pub mod StreamView
pub mod Waiting
pub mod BegunSet
pub mod Place
pub mod KeyPlace
pub mod ItemPlace
pub mod RequestNext
pub mod Reading
pub mod CommandView
pub mod RequestView
pub mod ReplyReading
pub mod ReplyView
pub mod ReplySteps
pub mod BegunItem
pub mod ReplyProgress

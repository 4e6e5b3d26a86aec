pub mod Check
pub mod Play
pub mod Seen
pub mod Transcript
pub mod Transcripts
pub mod steps

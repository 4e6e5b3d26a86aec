pub mod EscapeLemmas
pub mod TitleLemmas

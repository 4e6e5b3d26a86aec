pub mod CharacterLemmas
pub mod DataLemmas

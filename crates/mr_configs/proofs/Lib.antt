pub mod CheckingLemmas
pub mod ConfigLemmas
pub mod DigestLemmas
pub mod FieldLemmas
pub mod MatchLemmas
pub mod PoolLemmas
pub mod RouteLemmas
pub mod TimelineLemmas

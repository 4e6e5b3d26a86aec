pub mod ByteLemmas
pub mod NumberLemmas
pub mod WordLemmas

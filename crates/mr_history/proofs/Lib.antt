pub mod Lists
pub mod TestLemmas
pub mod FormLemmas
pub mod JudgeLemmas
pub mod GrowthLemmas
pub mod IndexLemmas

pub mod ChainLemmas
pub mod InForceLemmas
pub mod LeastLemmas
pub mod Members
pub mod PhaseLemmas
pub mod PoolLemmas
pub mod WalkLemmas

pub mod NameLemmas
pub mod NodeNameLemmas
pub mod PoolLemmas
pub mod RoutingLemmas

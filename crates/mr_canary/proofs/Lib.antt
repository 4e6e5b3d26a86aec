pub mod ViewLemmas
pub mod NoteLemmas
pub mod KeyLemmas
pub mod KeysLemmas
pub mod RequestLemmas

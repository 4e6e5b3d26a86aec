pub mod ClientEndLemmas
pub mod FleetEndLemmas
pub mod SendLemmas
pub mod TurnLemmas

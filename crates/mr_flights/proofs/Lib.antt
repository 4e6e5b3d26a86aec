pub mod SeeingLemmas
pub mod PlansLemmas
pub mod FlightLemmas

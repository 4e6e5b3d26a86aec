pub mod AddressLemmas
pub mod CarrierLemmas
pub mod NodeLemmas
pub mod PortLemmas

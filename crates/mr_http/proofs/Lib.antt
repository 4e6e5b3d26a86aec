pub mod FetchLemmas
pub mod ReceivedLemmas

pub mod StepLemmas
pub mod CountLemmas
pub mod AskLemmas
pub mod CarryLemmas
pub mod OwnLemmas
pub mod SumLemmas
pub mod ReadLemmas
pub mod ExchangeLemmas

pub mod JsonLemmas
pub mod PercentileLemmas
mod SumLemmas
pub mod TableLemmas
pub mod TextLemmas
pub mod WidthLemmas

pub mod ChoosingLemmas
pub mod DigitsLemmas
pub mod HeardLemmas
pub mod NotebookLemmas
pub mod RoundLemmas
pub mod StampLemmas

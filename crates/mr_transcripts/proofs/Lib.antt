pub mod CheckLemmas
pub mod LeastLemmas
pub mod PlayLemmas
pub mod SeenLemmas
pub mod ShownLemmas

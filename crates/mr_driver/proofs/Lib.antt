-- Lemmas on what loops tell, on machines that cross threads, and on how machines go on.
mod ReportLemmas
pub mod SendLemmas
pub mod GoingLemmas

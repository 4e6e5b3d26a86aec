pub mod OpIds
pub mod Places
pub mod History
pub mod HistoryView
pub mod Judgement
pub mod HistoryError
pub mod steps

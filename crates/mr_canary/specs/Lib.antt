pub mod Notes
pub mod JudgeView
pub mod Views
pub mod steps

pub mod CheckText
pub mod Drawing
pub mod ExplainText
pub mod HopText
pub mod PlanText
pub mod TimelineText

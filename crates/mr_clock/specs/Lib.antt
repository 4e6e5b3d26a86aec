pub mod ListClock
pub mod Readings
pub mod Clocks
pub mod ClockError
pub mod SystemClock
pub mod steps

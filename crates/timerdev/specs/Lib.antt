pub mod Timing
pub mod Held
pub mod DueTimes

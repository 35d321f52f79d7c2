-- The lemma files of `timerdev`.
pub mod Times
pub mod Filters
pub mod Choice
pub mod Homes
pub mod Walk
pub mod Keeping
pub mod Next
pub mod DueTimes

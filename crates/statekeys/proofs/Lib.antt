-- The lemma files of `statekeys`.
pub mod Schedules
pub mod Programs
pub mod Words
pub mod Drifting
pub mod Telling
pub mod ByteLemmas
pub mod Runs
pub mod Walks
pub mod Standing
pub mod BareLemmas

-- The lemma files of `scheduler`.
pub mod ScheduleLemmas
pub mod Settling
pub mod Joining

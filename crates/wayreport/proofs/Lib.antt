-- The lemma files of `wayreport`.
mod Adding
pub mod Cutting
pub mod Asking
mod Distinct
mod Entering
mod Finding
pub mod Heads
pub mod Lining
mod Parting
pub mod Totalling
pub mod Wording

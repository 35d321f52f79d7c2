-- The lemma files of `ways`.
pub mod WayLemmas
pub mod Counting
pub mod Parts
pub mod Skips
pub mod Tables
pub mod Maps
pub mod Rows
pub mod Merging
pub mod Exact
mod Rules
mod Sorting
mod Folding

-- The lemma files of `execlist`.
pub mod OrderLaws
pub mod Places
pub mod Pools
pub mod PlainLemmas
pub mod Walks
pub mod CopyLemmas
mod Computed
pub mod Values
pub mod Cells
pub mod Rows
pub mod Steps
pub mod Memory
pub mod Chains
pub mod Linked
pub mod Read
pub mod Empty
pub mod LinkLemmas
pub mod KeyLemmas

-- The lemma files of `signals`.
pub mod Highest
pub mod Sets

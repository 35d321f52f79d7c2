-- The lemma files of `softint`.
pub mod Headers
pub mod Chains

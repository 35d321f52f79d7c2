-- The lemma files of `execlib`.
pub mod Asking
pub mod Names

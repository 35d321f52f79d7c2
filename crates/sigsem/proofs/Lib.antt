-- The lemma files of `sigsem`.
pub mod Waiting
pub mod NewTask

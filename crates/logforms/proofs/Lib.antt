-- The lemma files of `logforms`.
pub mod Pages
pub mod Turns

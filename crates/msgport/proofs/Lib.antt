-- The lemma files of `msgport`.
pub mod Linking

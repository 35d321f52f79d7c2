-- The lemma files of `logger`.
pub mod FailLemmas

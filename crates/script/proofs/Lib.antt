-- The lemma files of `script`.
pub mod WordGroups

-- The lemma files of `execadvice`.
pub mod Reading
pub mod Trees

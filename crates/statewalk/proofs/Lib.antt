-- The lemma files of `statewalk`.
pub mod Among

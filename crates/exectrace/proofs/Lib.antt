-- The lemma files of `exectrace`.
pub mod Pieces
pub mod Digits
pub mod Examples
pub mod Drafts

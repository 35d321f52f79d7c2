-- The lemma files of `execpicture`.
pub mod Turns

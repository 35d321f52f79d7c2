-- The lemma files of `iorequest`.
pub mod Counted
pub mod Under

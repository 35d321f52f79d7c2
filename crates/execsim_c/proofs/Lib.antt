-- The lemma files of `execsim_c`.
mod Added
mod Fed
mod Kept
mod Steps
mod Values
mod Whole

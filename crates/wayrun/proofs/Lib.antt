-- The lemma files of `wayrun`.
mod Keeping
mod Standing

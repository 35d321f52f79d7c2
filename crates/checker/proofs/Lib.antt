-- The lemma files of `checker`.
mod CommandLemmas
mod JudgingLemmas

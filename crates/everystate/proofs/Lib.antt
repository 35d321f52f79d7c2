-- The lemma files of `everystate`.
mod CommandLemmas

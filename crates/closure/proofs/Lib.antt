-- The lemma files of `closure`.
mod Everything

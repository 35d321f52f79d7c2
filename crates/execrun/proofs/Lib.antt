-- The lemma files of `execrun`.
pub mod CommandLemmas
mod LentLemmas
mod PageLemmas
mod ReadLemmas
mod RunLemmas

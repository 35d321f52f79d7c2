-- The lemma files of `execexplore`.
pub mod AskLemmas
mod CommandLemmas
pub mod FailLemmas
pub mod KindLemmas
pub mod SearchLemmas
pub mod SumLemmas
pub mod TickLemmas

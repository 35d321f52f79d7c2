-- The lemma files of `runadvice`.
pub mod Alerts
pub mod Follows

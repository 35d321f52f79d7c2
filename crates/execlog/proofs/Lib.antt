-- The lemma files of `execlog`.
pub mod Logging
pub mod UnitRuns
pub mod Columns
pub mod Feeds
pub mod Laying
pub mod Reading
pub mod Sheets

pub mod Events
pub mod Reports
pub mod Sums
pub mod Parts
pub mod Right
pub mod Totals
pub mod Written

pub mod Alerts
pub mod Ends
pub mod Going

pub mod Counting
pub mod Faults
pub mod Request
pub mod Requests

pub mod Schedule
pub mod Dispatch
pub mod Sound
pub mod Lending
pub mod Settled
pub mod Status
pub mod Joining

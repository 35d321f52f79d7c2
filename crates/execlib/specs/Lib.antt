pub mod Faults
pub mod Libraries

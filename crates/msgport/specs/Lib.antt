pub mod Faults
pub mod Port
pub mod Ports

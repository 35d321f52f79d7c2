pub mod Sources
pub mod Interrupts

pub mod Faults
pub mod Semaphores
pub mod NewTask

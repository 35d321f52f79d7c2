pub mod Trace
pub mod Sink
pub mod Shown
pub mod Short
pub mod Putting
pub mod Heard
pub mod Hearing
pub mod Printing

pub mod Asking
pub mod Choosing
pub mod Failing
pub mod Reading

pub mod Look
pub mod Seen
pub mod Sought
pub mod Words

pub mod CommandLine
pub mod Searched
pub mod Written

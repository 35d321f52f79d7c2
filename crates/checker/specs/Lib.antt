pub mod CommandLine
pub mod Failing
pub mod Judging

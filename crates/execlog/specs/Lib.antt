pub mod Books
pub mod Log
pub mod Reading
pub mod Rows
pub mod Runs

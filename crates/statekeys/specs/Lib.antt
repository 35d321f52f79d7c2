pub mod Fits
pub mod Numbers
pub mod Keys
pub mod Runs
pub mod Laws
pub mod Views
pub mod Stands

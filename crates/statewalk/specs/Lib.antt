pub mod Every
pub mod Walking

pub mod Work
pub mod Counted

pub mod Report
pub mod Reading
pub mod Putting

pub mod Fair
pub mod Reading
pub mod Stepping
pub mod Owning
pub mod Running

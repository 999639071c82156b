mod Worked
pub mod Parting
pub mod Composing
pub mod Planning
pub mod Stopping
pub mod Flat

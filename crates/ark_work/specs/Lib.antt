pub mod Generated
pub mod Tallied

pub mod Tables
pub mod Shared
pub mod Loading
pub mod Room

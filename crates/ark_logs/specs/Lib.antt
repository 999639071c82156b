pub mod Finds
pub mod Areas
pub mod Opening
pub mod Walking
pub mod Lines
pub mod Refused
pub mod Polling

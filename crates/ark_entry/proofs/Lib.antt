mod Worked
pub mod WorkedRings
pub mod Headers
pub mod Emptiness
pub mod Entries
pub mod Readings
pub mod Standing
pub mod Drafts
pub mod Appending
pub mod Dropping
pub mod Repairing
pub mod Laying

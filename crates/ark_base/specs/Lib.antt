pub mod Name
pub mod Status
pub mod Refusal
pub mod Conditions

pub mod Survey
pub mod Walking
pub mod Single
pub mod Repair

pub mod Filter
pub mod Layer
pub mod In
pub mod Overlap
pub mod Rule
pub mod Rules

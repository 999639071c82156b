pub mod Areas
pub mod Readings
pub mod Pieces
pub mod Lines

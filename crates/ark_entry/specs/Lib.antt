pub mod Header
pub mod Entry
pub mod Found
pub mod Reading
pub mod Writing
pub mod Repair
pub mod Stated

pub mod Taping
pub mod Fetching
pub mod Recording
pub mod Failing
pub mod Moving
pub mod Leaving

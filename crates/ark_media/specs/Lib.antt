pub mod Journal
pub mod Calls
pub mod Going
pub mod Parts
pub mod Stops
pub mod StopLaws
pub mod Standing
pub mod Blocks

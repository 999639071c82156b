mod Worked
mod WorkedRings
mod WorkedDevice
mod WorkedOpen
mod WorkedTrim
mod WorkedRepair
pub mod Commands
pub mod Leaving
pub mod Opening
pub mod Places
pub mod Events
pub mod Calls
pub mod Viewed
pub mod Appending
pub mod Dropping
pub mod Carrying
pub mod Acked
pub mod Listing
pub mod Repairing
pub mod Standing
pub mod Posting
pub mod Accepting
pub mod Buffers
pub mod Seeing
pub mod Payloads
pub mod Walking

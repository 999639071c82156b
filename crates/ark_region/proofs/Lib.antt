pub mod Placing
pub mod Putting
pub mod Sharing
pub mod Living
pub mod Cuts
pub mod TwoLent
pub mod Following
pub mod WrittenBack

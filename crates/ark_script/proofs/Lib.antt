pub mod Clean
pub mod Digits
pub mod Examples
pub mod Lining
pub mod Showing

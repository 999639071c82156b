pub mod Apps
pub mod Sorted
pub mod Told
pub mod Words

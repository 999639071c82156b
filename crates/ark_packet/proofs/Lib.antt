pub mod Sums
pub mod Numbers
pub mod Frames
pub mod Covering
pub mod Heads
pub mod Worked
pub mod Reading
pub mod Laying

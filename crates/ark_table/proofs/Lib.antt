pub mod Laying
mod Worked
pub mod Spelling
pub mod Gathering
pub mod Walking
pub mod Pairing
pub mod Tables
pub mod Changing
pub mod Fresh
pub mod Standing
pub mod Moments
pub mod Decoding
pub mod Beside
pub mod Zeroing
pub mod Places
pub mod Growing
pub mod Front

pub mod SaidLines
pub mod Replied

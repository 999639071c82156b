pub mod NameLemmas
pub mod Numbers
pub mod Order
pub mod Basics

pub mod Meant
pub mod Sentence
pub mod Shape
pub mod Word

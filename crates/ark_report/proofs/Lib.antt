pub mod Beside
pub mod CountedLines
pub mod Lacking

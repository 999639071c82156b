mod Remaining
mod Counting

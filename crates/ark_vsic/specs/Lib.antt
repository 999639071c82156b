pub mod Card
pub mod Places
pub mod Moves
pub mod Own
pub mod Runs
pub mod Lending

pub mod Card
pub mod Arrivals
pub mod Sending
pub mod LetOut
pub mod Lending

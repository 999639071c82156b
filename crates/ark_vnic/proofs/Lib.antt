pub mod Passing
pub mod Arriving
pub mod LettingOut

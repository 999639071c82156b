pub mod Wire
pub mod Sum
pub mod Ip
pub mod Frame
pub mod Udp
pub mod Written

pub mod Bringing
pub mod Messages

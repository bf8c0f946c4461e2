pub mod Sound
pub mod Twice
pub mod Closed
pub mod Services
pub mod Whole

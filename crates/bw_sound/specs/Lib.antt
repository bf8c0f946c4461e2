pub mod Good
pub mod Worlds
pub mod Found

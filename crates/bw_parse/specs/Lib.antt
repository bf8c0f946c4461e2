pub mod Gives
pub mod Laws
pub mod Steps

pub mod Fills
pub mod Fits
pub mod Lookups
pub mod Puts
pub mod Spells
pub mod Templates

pub mod Recalling
pub mod Starting
pub mod Windows

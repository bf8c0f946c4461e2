pub mod Faults
pub mod Root

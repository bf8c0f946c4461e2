pub mod Filled
pub mod Fitting
pub mod Freezes
pub mod Frozen
pub mod Onward
pub mod Saves
pub mod Thawed

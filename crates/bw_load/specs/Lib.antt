pub mod Cells
pub mod Kept
pub mod Loaded
pub mod Loads
pub mod SumLaws
pub mod Sums

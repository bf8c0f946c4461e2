pub mod Cells
pub mod Lawful

pub mod Documents
pub mod Forest
pub mod Measures
pub mod Print
pub mod View
pub mod Wrappers

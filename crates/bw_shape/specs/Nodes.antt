pub mod Fits
pub mod Nodes
pub mod Parts
pub mod Templates

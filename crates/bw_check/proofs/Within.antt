pub mod Acts
pub mod Equal
pub mod Kept
pub mod Named
pub mod OneSolution
pub mod PageGraphs
pub mod Within

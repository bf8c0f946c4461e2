pub mod Code
pub mod Fit
pub mod Missing
pub mod Turns
pub mod Walks
pub mod Follow

pub mod LinksBring
pub mod Opening
pub mod Parting
pub mod Restarting
pub mod Rotating
mod StreamsSurvive
mod Surviving

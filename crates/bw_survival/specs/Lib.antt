pub mod Laws
pub mod Restarts
pub mod Rotating
pub mod StreamLaws
pub mod Surviving

pub mod Content
pub mod Faults
pub mod Found
pub mod Laws
pub mod Pages
pub mod Scene
pub mod Soundness
pub mod Sure

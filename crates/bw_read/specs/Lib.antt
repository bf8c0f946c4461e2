pub mod Element
pub mod Laws
pub mod Made
pub mod Pages
pub mod Refusals
pub mod Steps

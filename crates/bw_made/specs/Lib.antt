pub mod Laws
pub mod Made
pub mod Pages
pub mod Worlds

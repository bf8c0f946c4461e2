pub mod Bytes
pub mod Fields
pub mod Laws
pub mod Pages

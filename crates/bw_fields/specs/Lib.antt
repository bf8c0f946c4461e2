pub mod Found
pub mod Laws
pub mod Plain
pub mod Received

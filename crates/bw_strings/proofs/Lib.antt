pub mod Walks
pub mod Members
pub mod Differing

pub mod Kinds
pub mod Laws
pub mod Runs
pub mod Scoped

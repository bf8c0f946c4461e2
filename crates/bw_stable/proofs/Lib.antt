mod Counting
pub mod Deeds
pub mod Replaced
mod Walks

pub mod Changes
pub mod Least
pub mod Rounds
pub mod Rows

pub mod Changes
pub mod Rounds
pub mod Rows
pub mod Steps
pub mod Waking

pub mod Coding
pub mod Counts
pub mod Deeds
pub mod Disk
pub mod MemJournals
pub mod Memory
pub mod Replacing

pub mod Bringing
pub mod EntryLaws

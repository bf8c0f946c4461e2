pub mod BreachLaws
pub mod JoinedLaws
pub mod Walks

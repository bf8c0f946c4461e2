pub mod Walks
pub mod Points
pub mod RoundLaws
pub mod PageLaws
pub mod GapLaws
pub mod BareLaws
pub mod PlugLaws

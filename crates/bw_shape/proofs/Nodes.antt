pub mod Ascending
pub mod Bools
pub mod Growing
pub mod Members
pub mod PastRows
pub mod Wrapped

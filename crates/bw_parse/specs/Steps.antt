pub mod Expressions
pub mod Follow
pub mod Fronts
pub mod Services
pub mod Statements

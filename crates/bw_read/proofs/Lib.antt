pub mod Blanks
pub mod Behind
pub mod Elements
pub mod Joining
pub mod Utf8
pub mod Decided
pub mod Pages
pub mod Back

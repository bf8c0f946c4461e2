pub mod AtOnce
pub mod Building
pub mod Laws
pub mod Markup
pub mod Nesting
pub mod Refusals
pub mod Steps

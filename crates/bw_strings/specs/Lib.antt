pub mod Asking
pub mod Lawful
pub mod Laws
pub mod Literals
pub mod Strings

pub mod Codes
pub mod Commands
pub mod Numbers
pub mod Words

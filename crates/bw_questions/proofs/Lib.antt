pub mod Answering
pub mod Checks
pub mod Explanations
pub mod Files
pub mod FormatFiles
pub mod Loads
pub mod Pages
pub mod Stops

pub mod Demands
pub mod Layout
pub mod Reading

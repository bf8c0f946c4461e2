pub mod Lines
pub mod Utf8Texts

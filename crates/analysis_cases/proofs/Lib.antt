pub mod Places
pub mod Rising
pub mod Listed
pub mod Explained

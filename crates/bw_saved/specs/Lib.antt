pub mod Codec
pub mod Documents
pub mod Fields
pub mod FileLaws
pub mod Files
pub mod Laws
pub mod Sessions
pub mod Values

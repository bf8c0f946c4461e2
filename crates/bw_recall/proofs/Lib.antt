pub mod Advancing
pub mod Begun
pub mod Headed
pub mod OneRequest
pub mod SoFar

pub mod Laws
pub mod Pieces
pub mod Refusals
pub mod Tokens

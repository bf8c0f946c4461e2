pub mod Accepts
pub mod Faults
pub mod Findings
pub mod Laws
pub mod Pieces
pub mod Within

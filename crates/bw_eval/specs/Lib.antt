pub mod Bases
pub mod Evaluations
pub mod Sound
pub mod View

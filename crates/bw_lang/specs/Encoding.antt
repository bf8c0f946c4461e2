pub mod CodeEncoding
pub mod CodeFalls
pub mod Falls
pub mod ForestEncoding
pub mod Stored
pub mod TermEncoding
pub mod TermFalls

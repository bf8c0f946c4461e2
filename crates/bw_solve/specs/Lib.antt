pub mod Fault
pub mod Lattice
pub mod Lawful
pub mod Laws
pub mod Sets
pub mod System
pub mod Tables

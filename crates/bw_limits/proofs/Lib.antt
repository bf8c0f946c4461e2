pub mod BracketSteps
pub mod Firsts
pub mod LocalSteps
pub mod Options
pub mod Sorts

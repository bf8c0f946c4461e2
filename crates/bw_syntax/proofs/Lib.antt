pub mod Answered
pub mod Bounds
pub mod Declared
pub mod OneAnswer
pub mod Rests
pub mod Sizes
pub mod Stages
pub mod Words

pub mod KindsKept
pub mod NumbersKept

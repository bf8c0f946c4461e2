pub mod AbstractLaws
pub mod ArrowLaws
pub mod KindLaws
pub mod KnownLaws
pub mod RowLaws
pub mod StepLaws
pub mod SystemLaws
pub mod TypedSystem

pub mod LabelLaws
pub mod SummaryLaws

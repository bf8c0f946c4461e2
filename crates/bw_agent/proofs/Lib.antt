pub mod Counted
pub mod Listed
pub mod Offered
pub mod PageForms
pub mod Tables
pub mod Texts

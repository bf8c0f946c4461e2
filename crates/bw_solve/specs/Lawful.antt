pub mod Products
pub mod SetLaws
pub mod TableLaws

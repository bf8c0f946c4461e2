pub mod Controls
pub mod Filled
pub mod Fills
pub mod Forms
pub mod Laws

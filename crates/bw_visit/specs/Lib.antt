pub mod Ends
pub mod Exchanges
pub mod Laws
pub mod Scripts
pub mod Turns
pub mod Visits

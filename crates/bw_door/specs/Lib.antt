pub mod Ends
pub mod Flows
pub mod Lateness
pub mod Places
pub mod Times

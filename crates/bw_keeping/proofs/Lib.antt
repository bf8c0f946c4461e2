pub mod Answering
mod Arriving
mod Counting
mod Ending
pub mod Entering
mod Fitting
mod Giving
pub mod Lists
pub mod Pieces
mod Queued
mod Sending
mod ServedSoFar
pub mod StreamLists
mod StreamSoFar
mod StreamTurns
pub mod StreamsWithin

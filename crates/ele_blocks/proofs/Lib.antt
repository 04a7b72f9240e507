pub mod Words
pub mod Sized
pub mod Trades
pub mod Backing
pub mod Hands
pub mod Sizes
pub mod LaidOvers
pub mod Splices
pub mod Lemmas
pub mod Distincts
pub mod OneToOnes
pub mod Renewals
pub mod Placings
pub mod Founds
pub mod Stocks
pub mod PlacedStocks
pub mod Changes
pub mod Runs
pub mod Makings
mod Counts
mod Cited

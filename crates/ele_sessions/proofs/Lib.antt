pub mod Basics
pub mod Words
pub mod Found
pub mod Counts
pub mod Orders
pub mod Keepings
pub mod Restored

pub mod Events
pub mod EventsRead
pub mod Changes
pub mod Journal
pub mod Recovered
pub mod Changed
pub mod ChangesRead

mod Steps
pub mod Journaling
pub mod Giving
mod Renewals
mod Ends

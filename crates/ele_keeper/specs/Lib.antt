pub mod Kept
pub mod Ends
pub mod Replays
pub mod Journals
pub mod Renewal

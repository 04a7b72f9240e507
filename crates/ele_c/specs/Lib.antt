pub mod Held
pub mod Given
pub mod Stored
pub mod Calls
pub mod Checkpoints
pub mod Journals
pub mod Straight

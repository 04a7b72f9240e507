pub mod Copies
pub mod Stopped

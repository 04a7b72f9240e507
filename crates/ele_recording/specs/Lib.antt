pub mod Recording
pub mod Heard

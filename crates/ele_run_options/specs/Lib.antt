pub mod Fault
pub mod RunOptions

-- line after line
pub mod Heard

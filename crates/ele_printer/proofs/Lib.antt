mod Prelude
mod Basics
pub mod Lines

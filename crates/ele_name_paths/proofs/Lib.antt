mod Basics
pub mod Gathers
pub mod Lasts
mod Paths

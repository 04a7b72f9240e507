mod Basics
-- a chain that goes on
pub mod Grows
mod Hashes
mod Meets

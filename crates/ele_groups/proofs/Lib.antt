pub mod Basics
pub mod Words
mod Apart
mod Times
mod Named
mod Placed
mod Kept
mod Entered
mod Members
mod Covered
mod Forgotten

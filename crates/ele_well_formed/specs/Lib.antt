pub mod Wrong
pub mod Sharing
pub mod Fault
pub mod Means
pub mod Known

pub mod Codes
pub mod Asks
pub mod Call
pub mod Copies
pub mod Numbers
pub mod Kept
pub mod Limits

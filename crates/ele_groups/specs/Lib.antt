pub mod Timed
pub mod Except
pub mod Faults
pub mod Members
pub mod Kept
pub mod Rows

pub mod Ways
pub mod Within
pub mod Marks
pub mod Kept
pub mod Words
pub mod Faults

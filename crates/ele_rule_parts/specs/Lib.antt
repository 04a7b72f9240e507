pub mod Marked
pub mod Months
pub mod Shown
pub mod Spans
pub mod Kinds

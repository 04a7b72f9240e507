pub mod Stamp
pub mod Table
pub mod Why
pub mod Labels
pub mod Details
pub mod Marked
pub mod Plan
pub mod Reach
